use Rattle.fx_outside.proofs.Whole.{whole_empty}
use Rattle.fx_outside.proofs.memory_host.MemoryHost.new.Goals as goal

pub invariant_of-result : goal.invariant_of-result
invariant_of-result c = rw c.new.ensures.empty (record { whole = whole_empty })
