-- What an attempt becomes in a log: an entry, and changes of its filestore.
use Rattle.std.specs.Prelude.{◌≡◌, List, [], Option, Some, None, ⊤}
use Rattle.std.specs.FinMap.{get}
use Rattle.fx_store.specs.declared.changes.Change.{Change}
use Rattle.fx_store.specs.Changes.{changed_paths}
use Rattle.fx_store.specs.Filestore.{Table, HavePlaces}
use Rattle.fx_store.specs.Whole.{Nodes, IsWhole, over}
use Rattle.fx_machine.specs.declared.attempt.Attempt.{Attempt}
use Rattle.fx_machine.specs.declared.entry.Entry.{Entry}

abbrev pub entry_of : Attempt → Entry
entry_of a = record { shell = a.shell; txn = a.txn; changed = changed_paths a.changes; outputs = a.outputs; end = a.end }

-- what stands in a log's filestore: what was loaded, until it has one of its own
abbrev pub nodes_by : Nodes → Option Table → Nodes
nodes_by loaded None = loaded
nodes_by loaded (Some own) = own.nodes

-- the changes can be made without more memory
abbrev pub HasRoom : Option Table → List Change → Type 0
HasRoom None changes = changes ≡ []
HasRoom (Some own) changes = HavePlaces own.places changes

-- with the changes an own filestore stays whole
abbrev pub StaysWhole : Option Table → List Change → Type 0
StaysWhole None changes = ⊤
StaysWhole (Some own) changes = IsWhole (over (get own.nodes) changes)
