use Rattle.std.proofs.Common.{◌-◌, ◌<◌, ◌≤◌, length, take}
use Rattle.fx_base.specs.Chunks.{joined}
use Rattle.fx_base.proofs.table.chunk_at.Given as goal

abbrev pub invariant-loop-high : goal.invariant-loop-high
invariant-loop-high g l =
    (l.high ≤ length l.chunks)
    × (l.low ≤ l.high)
    × (0 < length l.chunks → l.low < l.high)
    × (length (joined (take l.low l.chunks)) ≤ l.i)
    × (l.high < length l.chunks → l.i < length (joined (take l.high l.chunks)))

abbrev pub decreases-loop-high : goal.decreases-loop-high
decreases-loop-high g l = l.high - l.low
