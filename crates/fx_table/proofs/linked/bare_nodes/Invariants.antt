use Rattle.fx_table.proofs.Prelude.{length, left_of}
use Rattle.fx_table.proofs.Reaching.{IsBaring}
use Rattle.fx_table.proofs.linked.bare_nodes.Given as goal

abbrev pub decreases-going : goal.decreases-going
decreases-going l = length (left_of l.store.nodes l.descent.levels.items)

abbrev pub invariant-going : goal.invariant-going
invariant-going l = IsBaring l.store.nodes l.all.items l.descent.levels.items
