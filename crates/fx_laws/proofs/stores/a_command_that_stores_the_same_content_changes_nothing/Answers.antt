use Rattle.fx_laws.proofs.Stored.{same_store_changes_nothing}
use Rattle.fx_laws.proofs.stores.a_command_that_stores_the_same_content_changes_nothing.Goals as goal

pub returns : goal.returns
returns c = same_store_changes_nothing
