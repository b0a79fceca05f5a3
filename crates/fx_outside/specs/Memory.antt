-- What a host in memory holds.
use Rattle.std.specs.Prelude.{List}
use Rattle.std.specs.FinMap.{from_entries}
use Rattle.fx_outside.specs.Path.{Parts}
use Rattle.fx_outside.specs.Tree.{Tree, Entry}

-- the tree of a list of entries
abbrev pub tree_of : List (Parts × Entry) → Tree
tree_of entries = from_entries entries
