use Rattle.std.proofs.Common.{rules}
use Rattle.std.specs.Vec.{vec_capacity}
use Rattle.std.proofs.lemmas.Iterator.Consumers.{YieldsList-turn, YieldsList-so_far}
use Rattle.std.proofs.lemmas.Iterator.Adapters.{YieldsList-from_vec}
use Rattle.fx_sched.proofs.Rooms.{room_left}
use Rattle.fx_sched.proofs.world.join.Goals as goal

pub append-requires : goal.append-requires
append-requires c =
    let shells = YieldsList-from_vec {s = c.into_iter-shell-iterator.result} c.args.shells.items (search rules) (search rules) in
    let front = YieldsList-so_far shells c.loop-shell.yielded c.loop-shell.shell-iterator c.loop-shell.yielded_by in
    let turn = YieldsList-turn shells c.loop-shell.yielded c.loop-shell.shell-iterator c.loop-shell.yielded_by c.next.result c.next.new.self c.in-Some.shell c.in-Some.is c.next.ensures.steps in
    room_left c.args.shells.items c.loop-shell.yielded c.in-Some.shell c.loop-shell.all.items (vec_capacity c.loop-shell.all) front turn c.loop-shell.invariant.0 c.loop-shell.invariant.1
