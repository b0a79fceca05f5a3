use Rattle.std.proofs.Common.{[], ◌∷◌, ◌++◌}
use Rattle.fx_sched.proofs.Records.{runs_idled, runs_stepped}
use Rattle.fx_sched.proofs.Takings.{idled_with, stepped_with, leads_as, paused_at, stopped_at}
use Rattle.fx_sched.proofs.taking.take_turn.Goals as goal

pub returns-in-Err-clause-took : goal.returns-in-Err-clause-took
returns-in-Err-clause-took g c = λ p there is taken. λ later.
    paused_at g.T.Taker.took p c.args.world.now there is (c.args.shell ∷ [] ++ later) c.step.new.self c.args.taker.now taken c.in-Err.ensures.err

pub returns-in-Ok-None : goal.returns-in-Ok-None
returns-in-Ok-None g c =
    let idle = rw c.in-Ok-None.field-0-is at c.in-Ok-None.ensures.event in
    record {
      runs = runs_idled c.args.world.now c.step.new.self c.args.shell idle.0 idle.1;
      took = λ p there is taken. idled_with g.T.Taker.took p c.args.world.now there is c.args.shell c.step.new.self c.args.taker.now taken idle.0 idle.1;
    }

pub returns-in-Ok : goal.returns-in-Ok
returns-in-Ok g c =
    let leads = rw c.in-Ok-Some.field-0-is at c.in-Ok-Some.ensures.event in
    record {
      runs = runs_stepped c.args.world.now c.step.new.self c.args.shell c.in-Ok-Some.event leads;
      took = λ p there is taken.
          stepped_with g.T.Taker.took p c.args.world.now there is c.args.shell c.in-Ok-Some.event c.step.new.self c.take.new.self leads
          (c.in-Ok.ensures.ok p.events p.world taken (leads_as g.T.Taker.took p c.args.world.now there is c.args.shell c.in-Ok-Some.event c.step.new.self leads));
    }

pub returns-in-Err-take-clause-took : goal.returns-in-Err-take-clause-took
returns-in-Err-take-clause-took g c = λ p there is taken. λ later.
    let leads = rw c.in-Ok-Some.field-0-is at c.in-Ok-Some.ensures.event in
    stopped_at g.T.Taker.took p c.args.world.now there is g.T.Taker.refused c.args.shell c.in-Ok-Some.event c.step.new.self c.take.new.self c.in-Err-take.stop later leads
    (c.in-Err-take.ensures.err p.events p.world taken (leads_as g.T.Taker.took p c.args.world.now there is c.args.shell c.in-Ok-Some.event c.step.new.self leads))
