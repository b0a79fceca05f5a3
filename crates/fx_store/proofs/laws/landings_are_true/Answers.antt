use Rattle.fx_store.proofs.Landings.{landings_are_true}
use Rattle.fx_store.proofs.laws.landings_are_true.Goals as goal

pub returns : goal.returns
returns c = landings_are_true
