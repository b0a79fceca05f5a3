use denote.Param.Send.{sendable}
use Rattle.fx_board.proofs.Crosses.{Board-send}
use Rattle.fx_shared.proofs.desk.LogDeskBoardDesk.settle.Goals as goal

pub settle_by_turn-requires-send-T : goal.settle_by_turn-requires-send-T
settle_by_turn-requires-send-T g c κs within = search (sendable, Board-send) depth 40
