-- That the types of this crate cross threads: a value may move to another thread, and two threads may read one.
use denote.Param.Send.{IsSend, IsSync, sendable}
use Rattle.std.proofs.Crossing.{crosses}
use Rattle.fx_base.proofs.Crosses.{Content-send, Content-sync}
use Rattle.fx_text.proofs.Crosses.{TextSet-send, TextSet-sync}
use Rattle.fx_store.specs.contracts.name.Name as name
use Rattle.fx_store.specs.contracts.path.Path as path
use Rattle.fx_store.specs.contracts.paths.Paths as paths
use Rattle.fx_store.specs.contracts.names.Names as names
use Rattle.fx_store.specs.contracts.bytes.Bytes as bytes
use Rattle.fx_store.specs.contracts.link.LinkText as link_text
use Rattle.fx_store.specs.contracts.node.Node as node
use Rattle.fx_store.specs.contracts.filestore.Filestore as filestore

pub Name-send : IsSend (name.the_field).row
Name-send = search (sendable, crosses) depth 40

pub Name-sync : IsSync (name.the_field).row
Name-sync = search (sendable, crosses) depth 40

pub Path-send : IsSend (path.the_field).row
Path-send = search (sendable, crosses, Name-send) depth 40

pub Path-sync : IsSync (path.the_field).row
Path-sync = search (sendable, crosses, Name-sync) depth 40

pub Paths-send : IsSend (paths.the_field).row
Paths-send = search (sendable, crosses, Path-send) depth 40

pub Names-send : IsSend (names.the_field).row
Names-send = search (sendable, crosses, Name-send, Name-sync, TextSet-send) depth 40

pub Names-sync : IsSync (names.the_field).row
Names-sync = search (sendable, crosses, Name-send, Name-sync, TextSet-sync) depth 40

pub Bytes-send : IsSend (bytes.the_field).row
Bytes-send = search (sendable, crosses, Content-send) depth 40

pub Bytes-sync : IsSync (bytes.the_field).row
Bytes-sync = search (sendable, crosses, Content-sync) depth 40

pub LinkText-send : IsSend (link_text.the_field).row
LinkText-send = search (sendable, crosses) depth 40

pub LinkText-sync : IsSync (link_text.the_field).row
LinkText-sync = search (sendable, crosses) depth 40

pub Node-send : IsSend (node.the_field).row
Node-send = search (sendable, crosses, Names-send, Bytes-send, LinkText-send) depth 40

pub Node-sync : IsSync (node.the_field).row
Node-sync = search (sendable, crosses, Names-sync, Bytes-sync, LinkText-sync) depth 40

pub Filestore-send : IsSend (filestore.the_field).row
Filestore-send = search (sendable, crosses, Path-send, Node-send) depth 40

pub Filestore-sync : IsSync (filestore.the_field).row
Filestore-sync = search (sendable, crosses, Path-sync, Node-sync) depth 40
