-- Own changes, as a list.
use Rattle.std.specs.Prelude.{ℕ, List, Option}
use Rattle.fx_store.specs.declared.node.Node.{Node}

-- each path that an attempt has changed, with its node from then on, or none
abbrev pub OwnList : Type 0
OwnList = List (List (List ℕ) × Option Node)
