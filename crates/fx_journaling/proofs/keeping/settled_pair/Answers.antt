use Rattle.fx_journaling.proofs.Taking.{extended_by}
use Rattle.fx_journaling.proofs.keeping.settled_pair.Goals as goal

pub returns-in-Settled-clause-adds : goal.returns-in-Settled-clause-adds
returns-in-Settled-clause-adds c = λ before reached leads.
    extended_by before c.args.world.now c.args.event.now c.in-Settled.shell c.in-Settled.entry c.board.result.now c.pair_at.result c.in-Settled.is c.board.ensures reached c.pair_at.ensures.log c.pair_at.ensures.none c.pair_at.ensures.pair leads
