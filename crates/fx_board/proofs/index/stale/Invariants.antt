use Rattle.std.proofs.Common.{◌≡◌, drop}
use Rattle.std.specs.List.{fold}
use Rattle.fx_board.specs.Index.{named_by, with_read, least_stale}
use Rattle.fx_board.proofs.index.stale.Given as goal

abbrev pub invariant-loop-i : goal.invariant-loop-i
invariant-loop-i l = fold (with_read l.index.entries) (named_by l.least) (drop l.i l.reads) ≡ least_stale l.index.entries l.reads
