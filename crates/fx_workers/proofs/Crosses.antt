-- That what the workers share crosses threads.
use denote.Param.Send.{IsSync, struct_sync, sendable}
use denote.RattleType.{RattleType}
use denote.Ref.{NamedLft}
use denote.Struct.Declared.{shape}
use Rattle.std.proofs.Crossing.{crosses}
use Rattle.atomic_table.proofs.shared.Shared.TheSendSync.{the_sync as table_shared}
use Rattle.atomic_table.proofs.send_lease.SendLease.TheSendSync.{the_sync as table_lease}
use Rattle.fx_spec.proofs.Crosses.{Base-send, Base-sync}
use Rattle.fx_board.specs.contracts.board.Board as board
use Rattle.fx_board.specs.contracts.kept.BoardKept.TheImpl as kept
use Rattle.fx_board.proofs.Crosses.{Board-send}
use Rattle.fx_shared.specs.contracts.shares.Shares as shares
use Rattle.fx_shared.specs.contracts.crew.Crew as crew

pub Shared-sync : IsSync (shares.the_field (board.the_row) (kept.ghosts)).row
Shared-sync = search (sendable, crosses, Board-send, table_shared, table_lease) depth 40

pub Crew-sync : (a : NamedLft) (R G : RattleType) → IsSync R → IsSync G → IsSync (crew.the_field a R G (board.the_row) (kept.ghosts)).row
Crew-sync a R G r s = struct_sync (shape (crew.the_type a R G (board.the_row) (kept.ghosts))) (search (sendable, r) depth 40, (search sendable depth 40, (search (sendable, crosses, Base-send, Base-sync) depth 40, (search (sendable, Shared-sync) depth 40, (search (sendable, s) depth 40, tt)))))
