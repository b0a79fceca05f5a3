use Rattle.std.proofs.Common.{sym, rules}
use Rattle.fx_expr.specs.Views.{tree_of}
use Rattle.fx_audit.proofs.Sameness.{same_truth, no_truth}
use Rattle.fx_audit.proofs.same_values.is_truth.Goals as goal

pub returns-in-Some : goal.returns-in-Some
returns-in-Some c = same_truth (tree_of c.args.value.now) c.args.b c.in-Some.other _ (sym c.in-Some.ensures) (search rules)

pub returns-in-None : goal.returns-in-None
returns-in-None c = no_truth (tree_of c.args.value.now) c.args.b (sym c.in-None.ensures)
