use denote.Param.{param}
use denote.Param.Send.{IsSend, shr_send, sendable}
use denote.Ref.{ShrRef}
use mir.Syntax.{Lifetime}
use base.Fml.{Lft}
use Rattle.std.proofs.Crossing.{crosses}
use Rattle.atomic_table.proofs.shared.Seat.TheSendSync.{the_send as table_seat}
use Rattle.fx_spec.proofs.Crosses.{Base-send, Base-sync}
use Rattle.fx_shared.proofs.Crosses.{Versioned-send}
use Rattle.fx_views.proofs.Crosses.{Snaps-sync, Worked-send}
use Rattle.fx_views.proofs.running.work_beside.Goals as goal

pub join-all-requires-send-F : goal.join-all-requires-send-F
join-all-requires-send-F g c κs within =
    let rt : (ℓ : Lifetime) (κ : Lft) → IsSend (ShrRef ℓ κ (param 0 g.row.R)) = λ ℓ κ. shr_send ℓ κ (param 0 g.row.R) c.type_bounds.sync-R in
    let gate : (ℓ : Lifetime) (κ : Lft) → IsSend (ShrRef ℓ κ (param 1 g.row.G)) = λ ℓ κ. shr_send ℓ κ (param 1 g.row.G) c.type_bounds.sync-G in
    search (rt, gate, sendable, crosses, Base-send, Base-sync, Snaps-sync, Versioned-send, table_seat) depth 40 fits 20000

pub join-all-requires-send-A : goal.join-all-requires-send-A
join-all-requires-send-A g c κs within = search (sendable, crosses, Worked-send) depth 40
