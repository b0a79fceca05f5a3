use Rattle.fx_steps.proofs.Prelude.{OnlyCounts}
use Rattle.fx_steps.proofs.Arguments.{IsTrying}
use Rattle.fx_steps.proofs.evaluating.try_arguments.Given as goal

abbrev pub invariant-loop-i : goal.invariant-loop-i
invariant-loop-i g l = IsTrying l.env l.args l.initial.session.steps l.session.steps l.i × OnlyCounts l.initial.session l.session
