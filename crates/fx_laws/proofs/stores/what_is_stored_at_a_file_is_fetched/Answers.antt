use Rattle.fx_laws.proofs.Fetched.{file_stores_are_fetched}
use Rattle.fx_laws.proofs.stores.what_is_stored_at_a_file_is_fetched.Goals as goal

pub returns : goal.returns
returns c = file_stores_are_fetched
