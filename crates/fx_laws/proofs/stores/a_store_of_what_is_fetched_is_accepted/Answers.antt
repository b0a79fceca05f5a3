use Rattle.fx_laws.proofs.Accepted.{fetched_is_accepted}
use Rattle.fx_laws.proofs.stores.a_store_of_what_is_fetched_is_accepted.Goals as goal

pub returns : goal.returns
returns c = fetched_is_accepted
