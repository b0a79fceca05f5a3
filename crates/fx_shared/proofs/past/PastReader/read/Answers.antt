use Rattle.std.proofs.Common.{◌∙◌}
use Rattle.fx_turn.specs.Seats.{view}
use Rattle.fx_shared.proofs.Pasts.{at_noted, vouches_looked, vouches_missed}
use Rattle.fx_shared.proofs.past.PastReader.read.Goals as goal

pub invariant_of-self : goal.invariant_of-self
invariant_of-self g c =
    let s = c.look.new.self in
    record {
      turn = s.turn;
      number = s.number;
      idle = s.idle;
      based = s.based;
      within = s.within;
      true_reads = at_noted (view s.pass) s.position s.reads c.keep.new.self c.args.path.now c.in_ok-node.node s.position c.keep.result s.true_reads c.in_ok-node.ensures.look c.keep.ensures.kept c.keep.ensures.err;
    }

pub returns-in_err-kept-clause-vouched : goal.returns-in_err-kept-clause-vouched
returns-in_err-kept-clause-vouched g c = λ start v.
    vouches_missed start (view c.args.self.now.pass) (view c.look.new.self.pass) c.args.self.now.position c.look.new.self.position c.args.self.now.reads c.keep.new.self
    c.look.ensures.position c.look.ensures.more c.args.self.now.within v (c.in_err-kept.ensures.err ∙ c.look.ensures.reads)

pub returns-clause-vouched : goal.returns-clause-vouched
returns-clause-vouched g c = λ start v.
    vouches_looked start (view c.args.self.now.pass) (view c.look.new.self.pass) c.args.self.now.position c.look.new.self.position c.args.self.now.reads c.look.new.self.reads c.keep.new.self c.args.path.now c.in_ok-node.node c.look.new.self.position
    c.look.ensures.position c.look.ensures.more c.args.self.now.within c.in_ok-node.ensures.look v c.look.ensures.reads c.in_ok-kept.ensures.kept
