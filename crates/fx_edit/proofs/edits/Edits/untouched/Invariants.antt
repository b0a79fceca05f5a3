use Rattle.std.proofs.Common.{◌≡◌, take}
use Rattle.fx_store.specs.Changes.{changed_paths}
use Rattle.fx_view.specs.Reads.{count_before}
use Rattle.fx_edit.proofs.edits.Edits.untouched.Given as goal

abbrev pub invariant-loop-change : goal.invariant-loop-change
invariant-loop-change l = l.count ≡ count_before (changed_paths (take l.change-index l.self)) l.reads
