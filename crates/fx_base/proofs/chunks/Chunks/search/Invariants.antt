use Rattle.std.proofs.Common.{◌+◌, ◌<◌, ◌≤◌, length}
use Rattle.fx_base.proofs.Searching.{Narrowed}
use Rattle.fx_base.proofs.chunks.Chunks.search.Given as goal

abbrev pub invariant-loop-size : goal.invariant-loop-size
invariant-loop-size g l = (0 < l.size) × (l.base + l.size ≤ length l.self) × Narrowed (λ y. g.T.Ord.cmp y l.x) l.self l.base l.size

abbrev pub decreases-loop-size : goal.decreases-loop-size
decreases-loop-size g l = l.size
