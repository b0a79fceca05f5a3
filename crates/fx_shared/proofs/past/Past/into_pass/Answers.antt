use Rattle.fx_shared.proofs.Looks.{ready_by}
use Rattle.fx_shared.proofs.past.Past.into_pass.Goals as goal

pub returns-clause-ready : goal.returns-clause-ready
returns-clause-ready g c =
    let s = c.args.self in ready_by s.snaps.now s.pass s.shell s.turn s.number s.idle s.based
