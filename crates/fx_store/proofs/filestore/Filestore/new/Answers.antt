use Rattle.fx_store.proofs.WholeStores.{IsTable-root_only}
use Rattle.fx_store.proofs.filestore.Filestore.new.Goals as goal

pub invariant_of-result : goal.invariant_of-result
invariant_of-result c = rw (c.in_ok-insert.ensures.entries, c.new-table.ensures.empty, c.new.ensures, c.root.ensures) IsTable-root_only
