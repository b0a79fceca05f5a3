use Rattle.fx_spec.proofs.Calls.{calls_stand_for_bodies}
use Rattle.fx_spec.proofs.laws.a_call_stands_for_its_body.Goals as goal

pub returns : goal.returns
returns c = calls_stand_for_bodies
