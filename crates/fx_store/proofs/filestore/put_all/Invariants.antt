use Rattle.std.proofs.Common.{◌≡◌}
use Rattle.indexmap.specs.IndexMap.{keys}
use Rattle.fx_store.specs.Whole.{over_nodes}
use Rattle.fx_store.specs.Filestore.{nodes_of}
use Rattle.fx_store.proofs.filestore.put_all.Given as goal

abbrev pub invariant-loop-change : goal.invariant-loop-change
invariant-loop-change l = record {
  nodes : nodes_of l.table.entries ≡ over_nodes (nodes_of l.initial.table.entries) l.yielded;
  places : keys l.table ≡ keys l.initial.table;
}
