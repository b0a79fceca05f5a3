use Rattle.fx_laws.proofs.Scripted.{takes_its_way_away}
use Rattle.fx_laws.proofs.scripts.storing_what_takes_its_own_way_away.Goals as goal

pub returns : goal.returns
returns c = takes_its_way_away
