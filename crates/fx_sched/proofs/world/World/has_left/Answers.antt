use Rattle.std.proofs.Common.{arith}
use Rattle.fx_sched.proofs.Records.{all_none}
use Rattle.fx_sched.proofs.world.World.has_left.Goals as goal

pub returns-clause-none : goal.returns-clause-none
returns-clause-none c = λ r. all_none c.args.self.now c.loop-shell.shell (let e = c.count-shell-end.ensures.len in let f = c.loop-shell-test.false in omega (arith, e, f)) c.loop-shell.invariant
