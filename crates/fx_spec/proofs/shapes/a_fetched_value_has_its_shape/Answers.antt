use Rattle.fx_spec.proofs.Shaped.{fetched_have_shapes}
use Rattle.fx_spec.proofs.shapes.a_fetched_value_has_its_shape.Goals as goal

pub returns : goal.returns
returns c = fetched_have_shapes
