use Rattle.fx_shared.proofs.Looks.{ready_by}
use Rattle.fx_shared.proofs.desk.LogDesk.settle_by_turn.Goals as goal

pub settle-requires-clause-ready : goal.settle-requires-clause-ready
settle-requires-clause-ready g c κs within =
    let s = c.args.self.now in ready_by s.shares.now s.pass s.shell s.turn s.number s.idle s.based
