use Rattle.fx_laws.proofs.Stored.{fetched_store_changes_nothing}
use Rattle.fx_laws.proofs.stores.a_fetch_and_a_store_change_nothing.Goals as goal

pub returns : goal.returns
returns c = fetched_store_changes_nothing
