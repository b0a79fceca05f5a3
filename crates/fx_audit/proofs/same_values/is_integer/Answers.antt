use Rattle.std.proofs.Common.{refl}
use Rattle.fx_expr.specs.Tree.{Tree}
use Rattle.fx_expr.specs.Views.{tree_of}
use Rattle.fx_audit.proofs.Sameness.{integer_of, no_integer, no_kind}
use Rattle.fx_audit.proofs.same_values.is_integer.Goals as goal

pub returns-in_default : goal.returns-in_default
returns-in_default c = no_kind integer_of (λ n. Tree.int n) (tree_of c.args.value.now) c.args.n refl (no_integer c.args.value.now (λ n e. c.in_default.not-Int n e))
