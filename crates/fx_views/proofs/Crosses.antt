-- That what the workers and the views share and answer crosses threads.
use denote.Param.Send.{IsSend, IsSync, struct_sync, sendable}
use denote.RattleType.{RattleType}
use denote.Ref.{NamedLft}
use denote.Struct.Declared.{shape}
use Rattle.std.proofs.Crossing.{crosses}
use Rattle.atomic_table.proofs.shared.Seat.TheSendSync.{the_send as table_seat}
use Rattle.atomic_table.proofs.shared.Shared.TheSendSync.{the_sync as table_shared}
use Rattle.atomic_table.proofs.send_lease.SendLease.TheSendSync.{the_sync as table_lease}
use Rattle.fx_spec.proofs.Crosses.{Base-send, Base-sync}
use Rattle.fx_machine.proofs.Crosses.{Retry-send}
use Rattle.fx_shared.proofs.Crosses.{Versioned-send}
use Rattle.fx_shared.specs.contracts.versioned.Versioned as versioned
use Rattle.fx_shared.specs.contracts.versioned.VersionedKept.TheImpl as kept
use Rattle.fx_shared.specs.contracts.shares.Shares as shares
use Rattle.fx_shared.specs.contracts.crew.Crew as crew
use Rattle.fx_crew.specs.contracts.worker.Worked as worked

pub Worked-send : IsSend (worked.the_field (versioned.the_row) kept.ghosts).row
Worked-send = search (sendable, crosses, Versioned-send, Retry-send, table_seat) depth 40

pub Snaps-sync : IsSync (shares.the_field (versioned.the_row) kept.ghosts).row
Snaps-sync = search (sendable, crosses, Versioned-send, table_shared, table_lease) depth 40

pub Crew-sync : (a : NamedLft) (R G : RattleType) → IsSync R → IsSync G → IsSync (crew.the_field a R G (versioned.the_row) kept.ghosts).row
Crew-sync a R G r s = struct_sync (shape (crew.the_type a R G (versioned.the_row) kept.ghosts)) (search (sendable, r) depth 40, (search sendable depth 40, (search (sendable, crosses, Base-send, Base-sync) depth 40, (search (sendable, Snaps-sync) depth 40, (search (sendable, s) depth 40, tt)))))
