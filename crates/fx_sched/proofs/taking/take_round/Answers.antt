use Rattle.std.proofs.Common.{◌≡◌, ◌<◌, length, subst, rules}
use Rattle.fx_spec.specs.Order.{first_numbers}
use Rattle.fx_sched.specs.Taking.{HadTurnsWith}
use Rattle.fx_sched.proofs.Takings.{on_none, on_round, turns_ended, ended_in_round}
use Rattle.fx_sched.proofs.taking.take_round.Goals as goal

pub loop-shell-init : goal.loop-shell-init
loop-shell-init g c = on_none g.T.Taker.took c.args.world.now c.args.taker.now

pub loop-shell-preserved : goal.loop-shell-preserved
loop-shell-preserved g c =
    on_round g.T.Taker.took c.args.world.now c.loop-shell.world c.take_turn.new.world c.args.taker.now c.loop-shell.taker c.take_turn.new.taker c.loop-shell.shell c.loop-shell.invariant c.in_ok-take_turn.ensures.runs c.in_ok-take_turn.ensures.took

pub returns-in_err-take_turn-clause-took : goal.returns-in_err-take_turn-clause-took
returns-in_err-take_turn-clause-took g c = λ p there is taken.
    let why = c.in_err-take_turn.field-0.0 in
    let h = c.loop-shell.invariant.took_all p there is taken in
    let within : c.loop-shell.shell < length c.args.world.now.base.plan = search rules in
    turns_ended g.T.Taker.took g.T.Taker.refused p (first_numbers (length c.args.world.now.base.plan)) c.take_turn.new.world c.take_turn.new.taker c.from_residual.result why c.from_residual.ensures.1
    (ended_in_round g.T.Taker.took g.T.Taker.refused p (length c.args.world.now.base.plan) c.loop-shell.shell c.loop-shell.world c.take_turn.new.world c.loop-shell.taker c.take_turn.new.taker why within h (c.in_err-take_turn.ensures.took h.play h.there h.had.recording h.taken))

pub returns-clause-took : goal.returns-clause-took
returns-clause-took g c = λ p there is taken.
    let all : c.loop-shell.shell ≡ length c.args.world.now.base.plan = search rules in
    subst (λ n. HadTurnsWith g.T.Taker.took p (first_numbers n) c.loop-shell.world c.loop-shell.taker) all (c.loop-shell.invariant.took_all p there is taken)
