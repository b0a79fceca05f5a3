use Rattle.std.proofs.Common.{◌≡◌, take}
use Rattle.fx_store.specs.Changes.{changed_paths}
use Rattle.fx_board.proofs.growing.changed_by.Given as goal

abbrev pub invariant-loop-change : goal.invariant-loop-change
invariant-loop-change l =
    (l.paths ≡ changed_paths (take l.change-index l.changes)) × (l.keys.items ≡ changed_paths (take l.change-index l.changes))
