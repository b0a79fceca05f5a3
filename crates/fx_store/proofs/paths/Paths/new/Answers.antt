use Rattle.fx_store.proofs.Sets.{IsPathSet-none}
use Rattle.fx_store.proofs.paths.Paths.new.Goals as goal

pub invariant_of-result : goal.invariant_of-result
invariant_of-result c = rw c.new.ensures.items IsPathSet-none
