use Rattle.std.proofs.Common.{◌≡◌, ℕ, List, ◌++◌}
use Rattle.std.specs.Vec.Iter.{into_iter_items}
use Rattle.fx_store.specs.Changes.{IsChanges, change_at}
use Rattle.fx_shared.specs.Versions.{version_of}
use Rattle.fx_shared.specs.Tables.{versions_in, HaveRoom}
use Rattle.fx_shared.proofs.keeping.add_all.Given as goal

abbrev pub invariant-loop-change : goal.invariant-loop-change
invariant-loop-change l = record {
  room : HaveRoom l.table.entries (into_iter_items l.change-iterator);
  ascending : IsChanges (into_iter_items l.change-iterator);
  added : (path : List (List ℕ)) → versions_in l.table.entries path ++ version_of l.entry (change_at (into_iter_items l.change-iterator) path) ≡ versions_in l.fn.table.entries path ++ version_of l.entry (change_at l.fn.changes path);
}
