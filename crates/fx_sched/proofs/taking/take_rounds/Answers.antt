use Rattle.std.proofs.Common.{refl}
use Rattle.fx_sched.proofs.Records.{round_falls}
use Rattle.fx_sched.proofs.Takings.{no_rounds_with, rounds_with, over_with, rounds_ended, ended_in_rounds}
use Rattle.fx_sched.proofs.taking.take_rounds.Goals as goal

pub loop-alloc-init : goal.loop-alloc-init
loop-alloc-init g c = λ p there is taken. no_rounds_with g.T.Taker.took p c.args.world.now c.args.taker.now there is taken

pub loop-alloc-smaller : goal.loop-alloc-smaller
loop-alloc-smaller g c =
    round_falls c.loop-alloc.world c.take_round.new.world c.loop-alloc-test.ensures.reached (c.loop-alloc-test.ensures.some refl) c.in_ok-take_round.ensures.runs

pub loop-alloc-preserved : goal.loop-alloc-preserved
loop-alloc-preserved g c = λ p there is taken.
    let h = c.loop-alloc.invariant p there is taken in
    rounds_with g.T.Taker.took p c.loop-alloc.world c.take_round.new.world c.loop-alloc.taker c.take_round.new.taker h (c.loop-alloc-test.ensures.some refl) (c.in_ok-take_round.ensures.took h.play h.there h.rounds.recording h.taken)

pub returns-in_err-take_round : goal.returns-in_err-take_round
returns-in_err-take_round g c = λ p there is taken.
    let why = c.in_err-take_round.field-0.0 in
    let h = c.loop-alloc.invariant p there is taken in
    rounds_ended g.T.Taker.took g.T.Taker.refused p c.take_round.new.world c.take_round.new.taker c.from_residual.result why c.from_residual.ensures.1
    (ended_in_rounds g.T.Taker.took g.T.Taker.refused p c.loop-alloc.world c.take_round.new.world c.loop-alloc.taker c.take_round.new.taker why h (c.loop-alloc-test.ensures.some refl) (c.in_err-take_round.ensures.took h.play h.there h.rounds.recording h.taken))

pub returns : goal.returns
returns g c = λ p there is taken.
    over_with g.T.Taker.took p c.loop-alloc.world c.loop-alloc.taker (c.loop-alloc.invariant p there is taken) (c.loop-alloc-test.ensures.none refl)
