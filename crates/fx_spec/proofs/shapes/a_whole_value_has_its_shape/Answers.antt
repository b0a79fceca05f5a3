use Rattle.fx_spec.proofs.Shaped.{wholes_have_shapes}
use Rattle.fx_spec.proofs.shapes.a_whole_value_has_its_shape.Goals as goal

pub returns : goal.returns
returns c = wholes_have_shapes
