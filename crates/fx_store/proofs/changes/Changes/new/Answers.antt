use Rattle.fx_store.proofs.Sets.{IsChanges-none}
use Rattle.fx_store.proofs.changes.Changes.new.Goals as goal

pub invariant_of-result : goal.invariant_of-result
invariant_of-result c = rw c.new.ensures.items IsChanges-none
