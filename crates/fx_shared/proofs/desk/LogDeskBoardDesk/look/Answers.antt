use denote.Param.Send.{sendable}
use Rattle.fx_board.proofs.Crosses.{Board-send}
use Rattle.fx_shared.proofs.desk.LogDeskBoardDesk.look.Goals as goal

pub look_by_turn-requires-send-T : goal.look_by_turn-requires-send-T
look_by_turn-requires-send-T g c κs within = search (sendable, Board-send) depth 40
