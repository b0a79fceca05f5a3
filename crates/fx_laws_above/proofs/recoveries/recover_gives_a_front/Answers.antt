use Rattle.fx_laws_above.proofs.Recovered.{recovers_front}
use Rattle.fx_laws_above.proofs.recoveries.recover_gives_a_front.Goals as goal

pub returns : goal.returns
returns c = recovers_front
