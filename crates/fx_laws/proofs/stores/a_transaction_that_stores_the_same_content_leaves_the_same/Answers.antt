use Rattle.fx_laws.proofs.Stored.{same_store_leaves_nothing}
use Rattle.fx_laws.proofs.stores.a_transaction_that_stores_the_same_content_leaves_the_same.Goals as goal

pub returns : goal.returns
returns c = same_store_leaves_nothing
