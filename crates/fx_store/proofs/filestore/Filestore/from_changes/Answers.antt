use Rattle.fx_store.proofs.Stores.{IsWhole-over_nodes}
use Rattle.fx_store.proofs.Tables.{IsTable-of}
use Rattle.fx_store.proofs.filestore.Filestore.from_changes.Goals as goal

pub invariant_of-result : goal.invariant_of-result
invariant_of-result c = IsTable-of _ (rw (c.in_ok-set_all.ensures.nodes, c.in_ok-insert.ensures.entries, c.new-table.ensures.empty, c.new.ensures, c.root.ensures, c.into_vec.ensures.changes) (IsWhole-over_nodes _ c.args.changes c.requires)) (c.set_all.ensures.unique c.insert.ensures.unique)
