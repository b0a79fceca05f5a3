use Rattle.std.proofs.Common.{◌∙◌}
use Rattle.fx_shared.proofs.Looks.{stand_noted, turns_noted, vouches_looked, vouches_missed}
use Rattle.fx_shared.proofs.live.DeskReaderReader.read.Goals as goal

pub invariant_of-self : goal.invariant_of-self
invariant_of-self g c =
    let s = c.look.new.self in
    record {
      true_reads = stand_noted (g.D.Desk.view s.desk) s.reads c.keep.new.self c.args.path.now (c.in_ok-node.node, c.in_ok-node.position) c.keep.result s.true_reads c.in_ok-node.ensures.look c.keep.ensures.kept c.keep.ensures.err;
      in_turn = turns_noted (g.D.Desk.view s.desk) s.reads c.keep.new.self c.args.path.now (c.in_ok-node.node, c.in_ok-node.position) c.keep.result s.in_turn c.in_ok-node.ensures.look c.keep.ensures.path c.keep.ensures.kept c.keep.ensures.err;
    }

pub returns-in_err-kept-clause-vouched : goal.returns-in_err-kept-clause-vouched
returns-in_err-kept-clause-vouched g c = λ start before v.
    vouches_missed start (g.D.Desk.view c.args.self.now.desk) (g.D.Desk.view c.look.new.self.desk) before c.args.self.now.reads c.keep.new.self c.look.ensures.more v (c.in_err-kept.ensures.err ∙ c.look.ensures.reads)

pub returns-clause-vouched : goal.returns-clause-vouched
returns-clause-vouched g c = λ start before v.
    vouches_looked start (g.D.Desk.view c.args.self.now.desk) (g.D.Desk.view c.look.new.self.desk) before c.args.self.now.reads c.look.new.self.reads c.keep.new.self c.args.path.now c.in_ok-node.node c.in_ok-node.position
    c.look.ensures.more c.in_ok-kept.ensures.path c.in_ok-node.ensures.look v c.look.ensures.reads c.in_ok-kept.ensures.kept
