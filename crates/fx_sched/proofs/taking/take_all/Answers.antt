use Rattle.fx_sched.proofs.Takings.{ended_in_schedule, took_behind}
use Rattle.fx_sched.proofs.taking.take_all.Goals as goal

pub returns-in_err-take_turns : goal.returns-in_err-take_turns
returns-in_err-take_turns g c = λ p there is taken.
    ended_in_schedule g.T.Taker.took g.T.Taker.refused p c.args.schedule.now c.take_turns.new.world c.take_turns.new.taker c.from_residual.result c.in_err-take_turns.field-0.0 c.from_residual.ensures.1
    (c.in_err-take_turns.ensures.took p there is taken)

pub returns : goal.returns
returns g c = λ p there is taken.
    let h = c.in_ok-take_turns.ensures.took p there is taken in
    took_behind g.T.Taker.took g.T.Taker.refused p c.args.schedule.now c.take_turns.new.world c.take_rounds.new.world c.take_turns.new.taker c.take_rounds.new.taker c.take_rounds.result h (c.take_rounds.ensures h.play h.there h.had.recording h.taken)
