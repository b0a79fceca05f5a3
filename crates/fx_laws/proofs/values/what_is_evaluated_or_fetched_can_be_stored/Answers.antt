use Rattle.fx_laws.proofs.Storable.{values_are_storable}
use Rattle.fx_laws.proofs.values.what_is_evaluated_or_fetched_can_be_stored.Goals as goal

pub returns : goal.returns
returns c = values_are_storable
