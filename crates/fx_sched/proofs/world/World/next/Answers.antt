use Rattle.fx_sched.proofs.Records.{next_of}
use Rattle.fx_sched.proofs.world.World.next.Goals as goal

pub returns : goal.returns
returns c = next_of c.self.inside.board c.self.inside.shells.items c.args.self.now c.args.shell c.index.result.now c.self.invariant c.self.view_is c.requires c.index.ensures
