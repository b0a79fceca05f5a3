use Rattle.std.proofs.Common.{sym}
use Rattle.fx_disk.proofs.Taken.{whole_known}
use Rattle.fx_disk.proofs.ahead.read_small.Goals as goal

pub returns : goal.returns
returns g c = rw (sym c.take.ensures.inner) (whole_known _ _ _ _ _ _ _ c.take.ensures.limit c.in_ok-bytes.ensures.items c.in_ok-read_to_end.ensures.bytes c.read_to_end.new.buf.ok.0 c.len.ensures c.if-len-most.false)
