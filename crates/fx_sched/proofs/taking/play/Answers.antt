use Rattle.fx_base.proofs.Errors.{if_err_of}
use Rattle.fx_spec.specs.Bases.{base_tree}
use Rattle.fx_sched.specs.Taking.{a_start, HadAllWith, HasEnded, HasEndedSomewhere}
use Rattle.fx_sched.specs.World.{began}
use Rattle.fx_sched.specs.declared.taking.Ended.TheVariants as ended
use Rattle.fx_sched.proofs.Takings.{start_of, no_start, played}
use Rattle.fx_sched.proofs.taking.play.Goals as goal

pub returns-in_err-world-clause-ended : goal.returns-in_err-world-clause-ended
returns-in_err-world-clause-ended g c =
    let base = base_tree c.args.base.value in
    if_err_of (HasEndedSomewhere g.T.Taker.took g.T.Taker.refused (a_start base) c.args.schedule.now c.args.taker.now) c.from_residual.result ended.NoMemory c.from_residual.ensures.1
    (began base, no_start g.T.Taker.took base c.args.schedule.now c.args.taker.now c.requires.taker)

pub returns-in-Ok-clause-ok : goal.returns-in-Ok-clause-ok
returns-in-Ok-clause-ok g c =
    let base = base_tree c.args.base.value in
    let all = start_of g.T.Taker.took base c.in_ok-world.world c.args.taker.now (λ p. HadAllWith g.T.Taker.took p c.args.schedule.now c.take_all.new.world c.take_all.new.taker) c.in_ok-world.ensures c.requires.taker c.in-Ok.ensures in
    played g.T.Taker.took base c.args.schedule.now c.take_all.new.world c.take_all.new.taker c.finish.result.0 c.finish.result.1 all (c.finish.ensures.board.0, c.finish.ensures.board.1, c.finish.ensures.retries)

pub returns-in-Err-clause-ended : goal.returns-in-Err-clause-ended
returns-in-Err-clause-ended g c =
    let base = base_tree c.args.base.value in
    (c.take_all.new.world, start_of g.T.Taker.took base c.in_ok-world.world c.args.taker.now (λ p. HasEnded g.T.Taker.took g.T.Taker.refused p c.args.schedule.now c.take_all.new.world c.take_all.new.taker c.in-Err.ended) c.in_ok-world.ensures c.requires.taker c.in-Err.ensures)
