use Rattle.fx_base.proofs.Chunking.{Counting}
use Rattle.fx_base.proofs.table.count_from.Given as goal

abbrev pub invariant-loop-i : goal.invariant-loop-i
invariant-loop-i g l = Counting l.initial.chunks.items l.chunks.items l.i l.total
