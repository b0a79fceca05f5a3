use Rattle.std.proofs.Common.{◌≡◌, ◌+◌, ◌≤◌, ◌++◌, length}
use Rattle.fx_text.specs.Sets.{IsAscending, set_of, weight}
use Rattle.fx_text.proofs.set.merge_weighs_at_most.Given as goal

abbrev pub invariant-loop-text : goal.invariant-loop-text
invariant-loop-text l =
    IsAscending l.a × IsAscending l.b × (l.limit + weight (set_of (l.a ++ l.b)) ≡ l.room + weight (set_of (l.first ++ l.second))) × (l.room ≤ l.limit)

abbrev pub decreases-loop-text : goal.decreases-loop-text
decreases-loop-text l = length l.a + length l.b
