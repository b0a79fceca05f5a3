use Rattle.std.proofs.Common.{◌≡◌, [], length}
use Rattle.fx_base.specs.Chunks.{joined}
use Rattle.fx_base.proofs.items.ItemsIterator.next.Given as goal

abbrev pub invariant-loop-chunk : goal.invariant-loop-chunk
invariant-loop-chunk g l = (l.self-inside.front.now ≡ []) × (joined l.self-inside.chunks.now ≡ joined l.initial.self-inside.chunks.now)

abbrev pub decreases-loop-chunk : goal.decreases-loop-chunk
decreases-loop-chunk g l = length l.self-inside.chunks.now
