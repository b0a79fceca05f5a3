-- That the types of this crate cross threads: a value may move to another thread, and two threads may read one.
use denote.Param.Send.{IsSend, sendable}
use Rattle.std.proofs.Crossing.{crosses}
use Rattle.fx_store.proofs.Crosses.{Path-send, Node-send}
use Rattle.fx_board.proofs.Crosses.{Board-send}
use Rattle.fx_shared.specs.contracts.versioned.Versioned as versioned

pub Versioned-send : IsSend (versioned.the_field).row
Versioned-send = search (sendable, crosses, Path-send, Node-send, Board-send) depth 40
