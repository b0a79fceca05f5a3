use Rattle.fx_table.proofs.Prelude.{length, over}
use Rattle.fx_table.proofs.Lining.{IsReading}
use Rattle.fx_table.proofs.lines.read_body.Given as goal

abbrev pub invariant-reading : goal.invariant-reading
invariant-reading g l = IsReading (over (g.G.Ground.store l.ground) l.flags) l.fn.room l.first l.text l.lines l.room l.number l.rest

abbrev pub decreases-reading : goal.decreases-reading
decreases-reading g l = length l.rest
