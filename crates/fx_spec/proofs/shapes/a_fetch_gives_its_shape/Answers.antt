use Rattle.fx_spec.proofs.Shaped.{fetches_have_shapes}
use Rattle.fx_spec.proofs.shapes.a_fetch_gives_its_shape.Goals as goal

pub returns : goal.returns
returns c = fetches_have_shapes
