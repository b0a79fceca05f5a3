use Rattle.std.proofs.Common.{◌≤◌, length}
use Rattle.std.specs.Vec.Iter.{into_iter_items}
use Rattle.indexmap.specs.IndexMap.{spare}
use Rattle.fx_board.specs.Index.{IsNoted}
use Rattle.fx_board.proofs.index.note.Given as goal

abbrev pub invariant-loop-path : goal.invariant-loop-path
invariant-loop-path l = record {
  room : length (into_iter_items l.path-iterator) ≤ spare l.index;
  noted : IsNoted l.initial.index.entries l.index.entries l.yielded l.entry;
}
