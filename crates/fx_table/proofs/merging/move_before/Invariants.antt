use Rattle.fx_table.proofs.Prelude.{length, MovesLinks}
use Rattle.fx_table.proofs.merging.move_before.Given as goal

abbrev pub invariant-moving : goal.invariant-moving
invariant-moving l = MovesLinks l.fn.rest.items l.rest.items l.path l.fn.all.items l.all.items

abbrev pub decreases-moving : goal.decreases-moving
decreases-moving l = length l.rest.items
