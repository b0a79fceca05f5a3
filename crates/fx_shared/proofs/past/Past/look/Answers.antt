use denote.Param.Send.{sendable}
use Rattle.std.proofs.Common.{◌∙◌}
use Rattle.fx_shared.proofs.Crosses.{Versioned-send}
use Rattle.fx_turn.specs.Seats.{view}
use Rattle.fx_shared.proofs.Looks.{ready_by, some_base}
use Rattle.fx_shared.proofs.Pasts.{at_on, within_on}
use Rattle.fx_shared.proofs.past.Past.look.Goals as goal

pub look_at-requires-send-T : goal.look_at-requires-send-T
look_at-requires-send-T g c κs = search (sendable, Versioned-send) depth 40

pub look_at-requires-clause-ready : goal.look_at-requires-clause-ready
look_at-requires-clause-ready g c κs within =
    let s = c.args.self.now in ready_by s.snaps.now s.pass s.shell s.turn s.number s.idle s.based

pub invariant_of-self : goal.invariant_of-self
invariant_of-self g c =
    let s = c.args.self.now in
    let l = c.look_at.ensures in
    record {
      turn = l.ready.turn;
      number = l.seen.number ∙ s.number;
      idle = l.ready.idle;
      based = some_base s.snaps.now c.look_at.new.pass l.ready;
      within = within_on (view s.pass) (view c.look_at.new.pass) s.position l.seen s.within;
      true_reads = at_on (view s.pass) (view c.look_at.new.pass) s.position s.reads l.seen s.within s.true_reads;
    }
