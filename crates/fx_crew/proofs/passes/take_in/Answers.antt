use Rattle.fx_turn.specs.Seats.{view}
use Rattle.fx_shared.specs.Crews.{base_of}
use Rattle.fx_crew.proofs.Gathers.{gathered_noted}
use Rattle.fx_crew.proofs.passes.take_in.Goals as goal

pub returns-clause-gathered : goal.returns-clause-gathered
returns-clause-gathered g c =
    let w = c.requires.done in
    gathered_noted (base_of c.args.crew.now) (view c.args.maker.now) (view c.args.worked.pass) (view c.join.new.maker) c.args.retries.now c.args.worked.retries.items c.add_all.new.retries c.add_all.result c.requires.gathered
    c.join.ensures.maker w.number w.all w.worked c.join.ensures.seen c.join.ensures.told c.add_all.ensures
