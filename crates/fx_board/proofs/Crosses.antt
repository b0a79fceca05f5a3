-- That the types of this crate cross threads: a value may move to another thread, and two threads may read one.
use denote.Param.Send.{IsSend, sendable}
use Rattle.std.proofs.Crossing.{crosses}
use Rattle.fx_store.proofs.Crosses.{Path-send, Filestore-send}
use Rattle.fx_spec.proofs.Crosses.{Base-send, Base-sync}
use Rattle.fx_machine.proofs.Crosses.{Entry-send}
use Rattle.fx_board.specs.contracts.board.Board as board

pub Board-send : IsSend (board.the_field).row
Board-send = search (sendable, crosses, Path-send, Filestore-send, Base-send, Base-sync, Entry-send) depth 40
