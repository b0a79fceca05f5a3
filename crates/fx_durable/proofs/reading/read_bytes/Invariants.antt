use Rattle.std.proofs.Common.{◌-◌, length}
use Rattle.fx_durable.proofs.Pieces.{IsReading}
use Rattle.fx_durable.proofs.reading.read_bytes.Given as goal

abbrev pub invariant-reading : goal.invariant-reading
invariant-reading g l = IsReading (g.D.Disk.view l.initial.disk) (g.D.Disk.view l.disk) l.bytes.items

abbrev pub decreases-reading : goal.decreases-reading
decreases-reading g l = 900001 - length l.bytes.items
