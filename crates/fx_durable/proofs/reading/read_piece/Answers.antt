use Rattle.std.proofs.Common.{◌≡◌, length, arith}
use Rattle.fx_outside.proofs.Pieces.{take_front}
use Rattle.fx_durable.proofs.Pieces.{cut}
use Rattle.fx_durable.proofs.reading.read_piece.Goals as goal

pub returns-clause-piece : goal.returns-clause-piece
returns-clause-piece g c =
    let whole : c.in_ok-piece.piece.len ≡ length c.read.new.buf = omega (arith, c.read.auto.buf, c.deref_mut.ensures.len, c.deref_mut.ensures.value) in
    let is = take_front c.read.new.buf _ _ _ c.in_ok-count.count c.truncate.ensures.items whole in
    cut (g.D.Disk.view c.args.disk.now).told c.read.new.buf _ c.args.from c.in_ok-count.count is c.in_ok-count.ensures.bound c.in_ok-count.ensures.answer
