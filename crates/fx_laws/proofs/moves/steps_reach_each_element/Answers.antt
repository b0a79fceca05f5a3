use Rattle.fx_laws.proofs.Stepping.{above_then_below, below_then_above, steps_reach_each}
use Rattle.fx_laws.proofs.moves.steps_reach_each_element.Goals as goal

pub returns-clause-above : goal.returns-clause-above
returns-clause-above c = above_then_below

pub returns-clause-below : goal.returns-clause-below
returns-clause-below c = below_then_above

pub returns-clause-each : goal.returns-clause-each
returns-clause-each c = steps_reach_each
