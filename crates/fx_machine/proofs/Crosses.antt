-- That the types of this crate cross threads: a value may move to another thread, and two threads may read one.
use denote.Param.Send.{IsSend, sendable}
use Rattle.std.proofs.Crossing.{crosses}
use Rattle.fx_store.proofs.Crosses.{Path-send, Paths-send}
use Rattle.fx_expr.proofs.Crosses.{Values-send}
use Rattle.fx_spec.proofs.Crosses.{End-send}
use Rattle.fx_machine.specs.contracts.entry.Entry as entry
use Rattle.fx_machine.specs.contracts.retry.Retry as retry

pub Entry-send : IsSend (entry.the_field).row
Entry-send = search (sendable, crosses, Paths-send, Values-send, End-send) depth 40

pub Retry-send : IsSend (retry.the_field).row
Retry-send = search (sendable, crosses, Path-send) depth 40
