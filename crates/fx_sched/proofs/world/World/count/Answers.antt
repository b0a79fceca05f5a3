use Rattle.std.proofs.Common.{subst}
use Rattle.fx_machine.specs.Laws.{IsReached}
use Rattle.fx_sched.specs.Running.{Running}
use Rattle.fx_sched.proofs.world.World.count.Goals as goal

pub returns-clause-reached : goal.returns-clause-reached
returns-clause-reached c = subst (λ (r : Running). IsReached r.base r.machine) c.self.view_is c.self.invariant.reached
