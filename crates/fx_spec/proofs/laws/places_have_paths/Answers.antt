use Rattle.fx_spec.proofs.EditLaws.{places_have_paths}
use Rattle.fx_spec.proofs.laws.places_have_paths.Goals as goal

pub returns : goal.returns
returns c = places_have_paths
