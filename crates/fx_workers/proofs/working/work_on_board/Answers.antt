use denote.Param.Send.{sendable}
use Rattle.fx_board.proofs.Crosses.{Board-send}
use Rattle.fx_workers.proofs.working.work_on_board.Goals as goal

pub new-desk-requires-send-T : goal.new-desk-requires-send-T
new-desk-requires-send-T g c κs within = search (sendable, Board-send) depth 40

pub into_pass-requires-send-T : goal.into_pass-requires-send-T
into_pass-requires-send-T g c κs within = search (sendable, Board-send) depth 40
