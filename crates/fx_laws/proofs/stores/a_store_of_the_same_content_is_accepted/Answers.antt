use Rattle.fx_laws.proofs.Stored.{same_content_is_accepted}
use Rattle.fx_laws.proofs.stores.a_store_of_the_same_content_is_accepted.Goals as goal

pub returns : goal.returns
returns c = same_content_is_accepted
