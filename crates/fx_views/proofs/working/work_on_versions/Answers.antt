use denote.Param.Send.{sendable}
use Rattle.fx_shared.proofs.Crosses.{Versioned-send}
use Rattle.fx_views.proofs.working.work_on_versions.Goals as goal

pub new-desk-requires-send-T : goal.new-desk-requires-send-T
new-desk-requires-send-T g c κs within = search (sendable, Versioned-send) depth 40

pub into_pass-requires-send-T : goal.into_pass-requires-send-T
into_pass-requires-send-T g c κs within = search (sendable, Versioned-send) depth 40
