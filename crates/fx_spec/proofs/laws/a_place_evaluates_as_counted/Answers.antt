use Rattle.fx_spec.proofs.Counted.{places_evaluate}
use Rattle.fx_spec.proofs.laws.a_place_evaluates_as_counted.Goals as goal

pub returns : goal.returns
returns c = places_evaluate
