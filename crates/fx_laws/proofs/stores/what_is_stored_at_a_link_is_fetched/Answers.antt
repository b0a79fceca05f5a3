use Rattle.fx_laws.proofs.Fetched.{link_stores_are_fetched}
use Rattle.fx_laws.proofs.stores.what_is_stored_at_a_link_is_fetched.Goals as goal

pub returns : goal.returns
returns c = link_stores_are_fetched
