use Rattle.std.proofs.Common.{◌≡◌, ◌+◌, ◌++◌, length}
use Rattle.fx_text.specs.Sets.{IsAscending, set_of}
use Rattle.fx_text.proofs.set.merge.Given as goal

abbrev pub invariant-loop-text : goal.invariant-loop-text
invariant-loop-text l = IsAscending l.a × IsAscending l.b × (l.both.items ++ set_of (l.a ++ l.b) ≡ set_of (l.first ++ l.second))

abbrev pub decreases-loop-text : goal.decreases-loop-text
decreases-loop-text l = length l.a + length l.b
