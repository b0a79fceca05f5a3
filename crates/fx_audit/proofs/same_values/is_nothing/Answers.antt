use Rattle.std.proofs.Common.{refl}
use Rattle.fx_expr.specs.Tree.{Tree}
use Rattle.fx_expr.specs.Views.{tree_of}
use Rattle.fx_audit.proofs.Sameness.{no_kind, no_nothing, nothing_of}
use Rattle.fx_audit.proofs.same_values.is_nothing.Goals as goal

pub returns-in_default : goal.returns-in_default
returns-in_default c = no_kind nothing_of (λ _. Tree.nothing) (tree_of c.args.value.now) tt refl (no_nothing c.args.value.now (λ e. c.in_default.not-Nothing e))
