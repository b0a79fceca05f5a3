use Rattle.std.proofs.Common.{take}
use Rattle.fx_sched.proofs.Takings.{TurnsOn}
use Rattle.fx_sched.proofs.taking.take_turns.Given as goal

abbrev pub invariant-loop-shell : goal.invariant-loop-shell
invariant-loop-shell g l = TurnsOn g.T.Taker.took l.initial.world l.initial.taker (take l.shell-index l.schedule) l.world l.taker
