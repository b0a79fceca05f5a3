use Rattle.std.proofs.Common.{sym}
use Rattle.fx_expr.specs.Views.{tree_of}
use Rattle.fx_audit.proofs.Sameness.{same_set, no_set}
use Rattle.fx_audit.proofs.same_values.is_set.Goals as goal

pub returns-in-Some : goal.returns-in-Some
returns-in-Some c = same_set (tree_of c.args.value.now) c.args.names.now c.in-Some.other.now c.eq.result (sym c.in-Some.ensures) c.eq.ensures

pub returns-in-None : goal.returns-in-None
returns-in-None c = no_set (tree_of c.args.value.now) c.args.names.now (sym c.in-None.ensures)
