-- What was read, as a list.
use Rattle.std.specs.Prelude.{ℕ, List, Option}
use Rattle.fx_store.specs.declared.node.Node.{Node}

-- each path that was read, with the node there or none, and with the number of log entries at that moment
abbrev pub ReadList : Type 0
ReadList = List (List (List ℕ) × (Option Node × ℕ))
