use Rattle.fx_spec.proofs.Shaped.{places_are_described}
use Rattle.fx_spec.proofs.shapes.places_are_well_shaped.Goals as goal

pub returns : goal.returns
returns c = places_are_described
