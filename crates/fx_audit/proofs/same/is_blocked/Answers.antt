use Rattle.fx_audit.proofs.Ends.{blocked_is}
use Rattle.fx_audit.proofs.same.is_blocked.Goals as goal

pub returns-in-Blocked : goal.returns-in-Blocked
returns-in-Blocked c = blocked_is c.args.path.now c.in-Blocked.other c.args.refusal.now c.eq.result c.in-Blocked.is c.eq.ensures
