use Rattle.std.proofs.Common.{sym}
use Rattle.fx_expr.specs.Views.{tree_of}
use Rattle.fx_audit.proofs.Sameness.{same_text, no_text}
use Rattle.fx_audit.proofs.same_values.is_text.Goals as goal

pub returns-in-Some : goal.returns-in-Some
returns-in-Some c = same_text (tree_of c.args.value.now) c.args.text.now c.in-Some.other.now c.eq.result (sym c.in-Some.ensures) c.eq.ensures

pub returns-in-None : goal.returns-in-None
returns-in-None c = no_text (tree_of c.args.value.now) c.args.text.now (sym c.in-None.ensures)
