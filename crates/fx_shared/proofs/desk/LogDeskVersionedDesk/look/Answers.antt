use denote.Param.Send.{sendable}
use Rattle.fx_shared.proofs.Crosses.{Versioned-send}
use Rattle.fx_shared.proofs.desk.LogDeskVersionedDesk.look.Goals as goal

pub look_by_turn-requires-send-T : goal.look_by_turn-requires-send-T
look_by_turn-requires-send-T g c κs within = search (sendable, Versioned-send) depth 40
