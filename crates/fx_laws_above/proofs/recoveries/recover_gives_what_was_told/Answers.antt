use Rattle.fx_laws_above.proofs.Recovered.{recovers_told}
use Rattle.fx_laws_above.proofs.recoveries.recover_gives_what_was_told.Goals as goal

pub returns : goal.returns
returns c = recovers_told
