use Rattle.std.proofs.Common.{◌+◌, ◌-◌, [], length, arith, rules}
use Rattle.fx_report.proofs.Writing.{next_byte}
use Rattle.fx_report.proofs.pieces.write_bytes.Goals as goal

pub loop-i-preserved : goal.loop-i-preserved
loop-i-preserved c =
    let start = c.args.end - length c.args.bytes.now in
    next_byte c.loop-i.piece c.args.piece.now [] c.args.bytes.now start (start + c.loop-i.i) (start + (c.loop-i.i + 1)) c.loop-i.i (omega arith) (omega arith) c.loop-i.invariant (omega arith) (search rules)
