use Rattle.fx_spec.proofs.Shaped.{roots_have_shapes}
use Rattle.fx_spec.proofs.shapes.a_root_value_has_its_shape.Goals as goal

pub returns : goal.returns
returns c = roots_have_shapes
