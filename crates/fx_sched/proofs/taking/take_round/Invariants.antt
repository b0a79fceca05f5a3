use Rattle.fx_spec.specs.Order.{first_numbers}
use Rattle.fx_sched.proofs.Takings.{TurnsOn}
use Rattle.fx_sched.proofs.taking.take_round.Given as goal

abbrev pub invariant-loop-shell : goal.invariant-loop-shell
invariant-loop-shell g l = TurnsOn g.T.Taker.took l.initial.world l.initial.taker (first_numbers l.shell) l.world l.taker
