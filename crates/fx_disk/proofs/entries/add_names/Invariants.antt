use Rattle.std.proofs.Common.{◌≤◌, vec_len}
use Rattle.fx_disk.specs.declared.entries.TheConstants.{MOST_ENTRIES}
use Rattle.fx_disk.proofs.entries.add_names.Given as goal

abbrev pub invariant-loop-entry : goal.invariant-loop-entry
invariant-loop-entry g l =
    (goal.iterator-loop-entry g).can_next l.entry-iterator ×
    (goal.iterator-loop-entry g).is_finite l.entry-iterator ×
    (vec_len l.found ≤ MOST_ENTRIES)
