use Rattle.fx_expr.specs.Views.{tree_of}
use Rattle.fx_read_report.proofs.Printing.{printed_is}
use Rattle.fx_read_report.proofs.reading.print.Goals as goal

pub returns-in_ok-push-in-Some : goal.returns-in_ok-push-in-Some
returns-in_ok-push-in-Some c =
    printed_is c.args.entries.now.items c.pop.new.self.items c.push.new.self.items c.in-Some.last c.add.new.self (tree_of c.args.value) c.in-Some.ensures.items c.in_ok-add-in-Some.ensures.ok c.in_ok-push-in-Some.ensures.items
