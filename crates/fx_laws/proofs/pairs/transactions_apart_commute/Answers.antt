use Rattle.fx_laws.proofs.Apart.{apart_commute}
use Rattle.fx_laws.proofs.pairs.transactions_apart_commute.Goals as goal

pub returns : goal.returns
returns c = apart_commute
