use Rattle.std.proofs.Common.{◌≡◌, ◌+◌, ◌++◌, drop, take}
use Rattle.fx_report.proofs.pieces.write_bytes.Given as goal

abbrev pub invariant-loop-i : goal.invariant-loop-i
invariant-loop-i l = drop l.start l.piece ≡ take l.i l.bytes ++ drop (l.start + l.i) l.fn.piece
