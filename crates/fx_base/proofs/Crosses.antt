-- That the types of this crate cross threads: a value may move to another thread, and two threads may read one.
use denote.Param.Send.{IsSend, IsSync, sendable}
use Rattle.std.proofs.Crossing.{crosses}
use Rattle.fx_base.specs.contracts.content.Content as content

pub Content-send : IsSend (content.the_field).row
Content-send = search (sendable, crosses) depth 40

pub Content-sync : IsSync (content.the_field).row
Content-sync = search (sendable, crosses) depth 40
