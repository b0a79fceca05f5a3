use Rattle.fx_laws.proofs.Apart.{others_stay}
use Rattle.fx_laws.proofs.pairs.what_is_not_consulted_stays.Goals as goal

pub returns : goal.returns
returns c = others_stay
