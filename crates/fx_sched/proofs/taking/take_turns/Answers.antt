use Rattle.std.proofs.Common.{◌≡◌, take, subst, arith}
use Rattle.std.proofs.lemmas.List.{take_all}
use Rattle.fx_sched.specs.Taking.{HadTurnsWith}
use Rattle.fx_sched.proofs.Takings.{on_none, on_schedule, turns_ended, ended_scheduled}
use Rattle.fx_sched.proofs.taking.take_turns.Goals as goal

pub loop-shell-init : goal.loop-shell-init
loop-shell-init g c = on_none g.T.Taker.took c.args.world.now c.args.taker.now

pub loop-shell-preserved : goal.loop-shell-preserved
loop-shell-preserved g c =
    on_schedule g.T.Taker.took c.args.world.now c.loop-shell.world c.take_turn.new.world c.args.taker.now c.loop-shell.taker c.take_turn.new.taker c.args.schedule.now c.loop-shell.shell-index c.loop-shell-test.true c.loop-shell.invariant c.in_ok-take_turn.ensures.runs c.in_ok-take_turn.ensures.took

pub returns-in_err-take_turn-clause-took : goal.returns-in_err-take_turn-clause-took
returns-in_err-take_turn-clause-took g c = λ p there is taken.
    let why = c.in_err-take_turn.field-0.0 in
    let h = c.loop-shell.invariant.took_all p there is taken in
    turns_ended g.T.Taker.took g.T.Taker.refused p c.args.schedule.now c.take_turn.new.world c.take_turn.new.taker c.from_residual.result why c.from_residual.ensures.1
    (ended_scheduled g.T.Taker.took g.T.Taker.refused p c.args.schedule.now c.loop-shell.shell-index c.loop-shell.world c.take_turn.new.world c.loop-shell.taker c.take_turn.new.taker why c.loop-shell-test.true h (c.in_err-take_turn.ensures.took h.play h.there h.had.recording h.taken))

pub returns-clause-took : goal.returns-clause-took
returns-clause-took g c = λ p there is taken.
    let all : take c.loop-shell.shell-index c.args.schedule.now ≡ c.args.schedule.now = take_all c.loop-shell.shell-index c.args.schedule.now (let past = c.loop-shell-test.false in omega (arith, past)) in
    subst (λ turns. HadTurnsWith g.T.Taker.took p turns c.loop-shell.world c.loop-shell.taker) all (c.loop-shell.invariant.took_all p there is taken)
