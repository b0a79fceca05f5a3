use Rattle.fx_machine.proofs.Weight.{weight}
use Rattle.fx_sched.specs.Taking.{AfterPlay}
use Rattle.fx_sched.proofs.Takings.{RoundsWith}
use Rattle.fx_sched.proofs.taking.take_rounds.Given as goal

abbrev pub invariant-loop-alloc : goal.invariant-loop-alloc
invariant-loop-alloc g l = AfterPlay g.T.Taker.took l.initial.world l.initial.taker (λ p. RoundsWith g.T.Taker.took p l.world l.taker)

abbrev pub decreases-loop-alloc : goal.decreases-loop-alloc
decreases-loop-alloc g l = weight l.world.base l.world.machine
