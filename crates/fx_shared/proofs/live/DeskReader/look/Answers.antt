use Rattle.fx_shared.proofs.Looks.{stand_on, turns_on}
use Rattle.fx_shared.proofs.live.DeskReader.look.Goals as goal

pub invariant_of-self : goal.invariant_of-self
invariant_of-self g c =
    let s = c.args.self.now in
    record {
      true_reads = stand_on (g.D.Desk.view s.desk) (g.D.Desk.view c.look.new.self) s.reads c.look.ensures.seen s.true_reads;
      in_turn = turns_on (g.D.Desk.view s.desk) (g.D.Desk.view c.look.new.self) s.reads c.look.ensures.seen s.in_turn;
    }
