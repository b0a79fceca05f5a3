use denote.Param.Send.{sendable}
use Rattle.fx_shared.proofs.Crosses.{Versioned-send}
use Rattle.fx_shared.proofs.desk.LogDeskVersionedDesk.settle.Goals as goal

pub settle_by_turn-requires-send-T : goal.settle_by_turn-requires-send-T
settle_by_turn-requires-send-T g c κs within = search (sendable, Versioned-send) depth 40
