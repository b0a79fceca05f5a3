use Rattle.fx_machine.proofs.Stale.{stale_is_exact}
use Rattle.fx_machine.proofs.laws.stale_shells_are_found.Goals as goal

pub returns : goal.returns
returns c = stale_is_exact
