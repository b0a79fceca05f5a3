use Rattle.fx_store.proofs.Landings.{lands_by_the_rules}
use Rattle.fx_store.proofs.laws.paths_land_by_the_rules.Goals as goal

pub returns : goal.returns
returns c = lands_by_the_rules
