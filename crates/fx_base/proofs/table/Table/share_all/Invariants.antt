use Rattle.std.proofs.Common.{◌≡◌, ◌++◌, take}
use Rattle.fx_base.specs.Chunks.{joined}
use Rattle.fx_base.proofs.table.Table.share_all.Given as goal

abbrev pub invariant-loop-chunk : goal.invariant-loop-chunk
invariant-loop-chunk g l = l.self ≡ l.initial.self ++ joined (take l.chunk-index l.chunks)
