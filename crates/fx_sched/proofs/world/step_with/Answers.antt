use Rattle.std.proofs.Common.{◌+◌, ap, ◌∙◌}
use Rattle.fx_sched.specs.World.{conflicts_in}
use Rattle.fx_sched.proofs.Rooms.{room_after}
use Rattle.fx_sched.proofs.world.step_with.Goals as goal

pub returns-clause-room : goal.returns-clause-room
returns-clause-room c =
    let event = c.in_ok-event.event in
    room_after c.args.board.now c.step_shell.new.board c.args.shells.now c.step_shell.new.shells c.args.shell c.args.room.now.count c.note.new.room.count event c.requires.room (c.note.ensures ∙ ap (λ n. n + conflicts_in event) c.in_ok-grow.ensures.count) c.in_ok-event.ensures.event
