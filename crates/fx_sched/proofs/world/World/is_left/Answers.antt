use Rattle.std.proofs.Common.{◌∙◌, ap}
use Rattle.fx_spec.specs.Plans.{count_of}
use Rattle.fx_sched.specs.Running.{Running}
use Rattle.fx_sched.proofs.Records.{left_is}
use Rattle.fx_sched.proofs.Worlds.{count_is}
use Rattle.fx_sched.proofs.world.World.is_left.Goals as goal

pub returns : goal.returns
returns c =
    left_is c.args.self.now c.args.shell c.next.result c.count.result c.next.ensures
    (count_is c.self.inside.board c.base.result.now c.args.shell c.count.result c.base.ensures.base c.count.ensures ∙ ap (λ (r : Running). count_of r.base.plan c.args.shell) c.self.view_is)
