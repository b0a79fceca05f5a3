use Rattle.fx_expr.proofs.Shaping.{eval_has}
use Rattle.fx_expr.proofs.laws.a_value_has_its_expressions_shape.Goals as goal

pub returns : goal.returns
returns c = eval_has
