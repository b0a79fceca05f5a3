use Rattle.fx_spec.proofs.Shaped.{described_have_shapes}
use Rattle.fx_spec.proofs.shapes.a_described_value_has_its_shape.Goals as goal

pub returns : goal.returns
returns c = described_have_shapes
