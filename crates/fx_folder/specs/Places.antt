-- What stands for nodes in a host's tree.
use Rattle.std.specs.Prelude.{Option, Some, None}
use Rattle.fx_store.specs.declared.node.Node.{Node}
use Rattle.fx_store.specs.declared.node.Node.TheVariants.{File, Dir}
use Rattle.fx_outside.specs.Tree.{Entry, file, folder}

-- a file and a directory are entries of the host; links stand in a table
abbrev pub host_entry : Option Node → Option Entry
host_entry (Some (File bytes exec)) = Some (file bytes)
host_entry (Some (Dir names)) = Some folder
host_entry _ = None
