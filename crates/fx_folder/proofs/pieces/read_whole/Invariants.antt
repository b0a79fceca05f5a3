use Rattle.fx_folder.proofs.Prelude.{◌+◌, ◌-◌, length}
use Rattle.fx_folder.proofs.Reading.{IsReading}
use Rattle.fx_folder.proofs.pieces.read_whole.Given as goal

abbrev pub invariant-reading : goal.invariant-reading
invariant-reading g l = IsReading (g.H.Host.view l.initial.host) (g.H.Host.view l.host) l.path l.text.items

abbrev pub decreases-reading : goal.decreases-reading
decreases-reading g l = l.limit + 1 - length l.text.items
