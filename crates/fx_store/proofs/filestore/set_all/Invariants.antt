use Rattle.std.proofs.Common.{◌≡◌}
use Rattle.std.specs.Ordering.{eq_by_cmp}
use Rattle.indexmap.specs.IndexMap.{IsUnique}
use Rattle.fx_store.specs.Names.{path_cmp}
use Rattle.fx_store.specs.Whole.{over_nodes}
use Rattle.fx_store.specs.Filestore.{nodes_of}
use Rattle.fx_store.proofs.filestore.set_all.Given as goal

abbrev pub invariant-loop-change : goal.invariant-loop-change
invariant-loop-change l = record {
  nodes : nodes_of l.table.entries ≡ over_nodes (nodes_of l.initial.table.entries) l.yielded;
  unique : IsUnique (eq_by_cmp path_cmp) l.initial.table → IsUnique (eq_by_cmp path_cmp) l.table;
}
