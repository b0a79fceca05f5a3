use denote.Param.Send.{sendable}
use Rattle.fx_shared.proofs.Crosses.{Versioned-send}
use Rattle.fx_shared.proofs.past.Past.open.Goals as goal

pub begin-position-requires-send-T : goal.begin-position-requires-send-T
begin-position-requires-send-T g c κs = search (sendable, Versioned-send) depth 40

pub number-requires-send-K : goal.number-requires-send-K
number-requires-send-K g c κs = search (sendable, Versioned-send) depth 40
