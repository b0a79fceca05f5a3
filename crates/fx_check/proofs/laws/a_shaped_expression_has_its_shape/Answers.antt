use Rattle.fx_check.proofs.Checking.{has_shape, is_shaped}
use Rattle.fx_check.proofs.laws.a_shaped_expression_has_its_shape.Goals as goal

pub returns : goal.returns
returns c = λ scope e s. (has_shape scope e s, is_shaped scope e s)
