use Rattle.std.proofs.Common.{◌≡◌, take}
use Rattle.std.specs.Ordering.{eq_by_cmp}
use Rattle.indexmap.specs.IndexMap.{keys, IsUnique}
use Rattle.fx_store.specs.Names.{path_cmp}
use Rattle.fx_store.specs.Filestore.{nodes_of, HavePlaces, KeepsPlaces}
use Rattle.fx_store.proofs.filestore.make_places.Given as goal

abbrev pub invariant-loop-change : goal.invariant-loop-change
invariant-loop-change l = record {
  places : HavePlaces (keys l.table) (take l.change-index l.changes);
  nodes : nodes_of l.table.entries ≡ nodes_of l.initial.table.entries;
  kept : KeepsPlaces (keys l.initial.table) (keys l.table);
  unique : IsUnique (eq_by_cmp path_cmp) l.initial.table → IsUnique (eq_by_cmp path_cmp) l.table;
}
