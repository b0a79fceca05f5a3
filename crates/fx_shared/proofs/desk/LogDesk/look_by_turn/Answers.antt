use denote.Param.Send.{sendable}
use Rattle.std.proofs.Common.{sym, ◌∙◌}
use Rattle.fx_shared.proofs.Looks.{ready_by, some_base}
use Rattle.fx_shared.proofs.desk.LogDesk.look_by_turn.Goals as goal

pub look-requires : goal.look-requires
look-requires g c =
    let s = c.args.self.now in (search (sendable, c.type_bounds.send-T) depth 40, ready_by s.shares.now s.pass s.shell s.turn s.number s.idle s.based)

pub invariant_of-self : goal.invariant_of-self
invariant_of-self g c =
    let s = c.args.self.now in
    let l = c.look.ensures in
    record {
      turn = l.ready.turn;
      number = l.seen.number ∙ s.number;
      idle = l.ready.idle;
      based = some_base s.shares.now c.look.new.pass l.ready;
    }

pub returns-clause-table : goal.returns-clause-table
returns-clause-table g c = c.look.ensures.ready.turn ∙ sym c.args.self.now.turn
