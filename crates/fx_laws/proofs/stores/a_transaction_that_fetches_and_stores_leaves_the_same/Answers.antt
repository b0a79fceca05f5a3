use Rattle.fx_laws.proofs.Stored.{fetched_store_leaves_nothing}
use Rattle.fx_laws.proofs.stores.a_transaction_that_fetches_and_stores_leaves_the_same.Goals as goal

pub returns : goal.returns
returns c = fetched_store_leaves_nothing
