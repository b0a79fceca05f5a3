use Rattle.fx_laws.proofs.Fetched.{new_stores_are_fetched}
use Rattle.fx_laws.proofs.stores.what_is_stored_where_nothing_is_is_fetched.Goals as goal

pub returns : goal.returns
returns c = new_stores_are_fetched
