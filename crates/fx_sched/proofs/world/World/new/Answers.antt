use Rattle.fx_sched.proofs.Rooms.{room_started}
use Rattle.fx_sched.proofs.Worlds.{started_over}
use Rattle.fx_sched.proofs.world.World.new.Goals as goal

pub invariant_of-result : goal.invariant_of-result
invariant_of-result c = (room_started c.in-Ok.shells.items c.len.result c.new-2.result.count c.in-Ok.ensures c.new-2.ensures, tt)

pub invariant_of-result-2 : goal.invariant_of-result-2
invariant_of-result-2 c = (started_over c.args.base.value c.deref.result.now c.in_ok-board.board c.in-Ok.shells.items c.len.result c.in_ok-board.ensures c.in-Ok.ensures c.len.ensures.len c.deref.ensures).0

pub returns : goal.returns
returns c = (started_over c.args.base.value c.deref.result.now c.in_ok-board.board c.in-Ok.shells.items c.len.result c.in_ok-board.ensures c.in-Ok.ensures c.len.ensures.len c.deref.ensures).1
