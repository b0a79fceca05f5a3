-- What stood where a node is stored.
use Rattle.std.specs.Prelude.{Bool, false, [], length, nat_lt, Option, Some}
use Rattle.fx_store.specs.declared.node.Node.{Node}
use Rattle.fx_store.specs.declared.node.Node.TheVariants.{File, Dir, Link}
use Rattle.fx_store.specs.Kinds.{is_file, is_dir, is_link}

-- whether a node of this kind is there
abbrev pub is_alike : Node → Option Node → Bool
is_alike (File bytes exec) found = is_file found
is_alike (Dir names) found = is_dir found
is_alike (Link text) found = is_link found

-- whether a node is a directory with names
abbrev pub lists_some : Node → Bool
lists_some (File bytes exec) = false
lists_some (Dir names) = nat_lt 0 (length names)
lists_some (Link text) = false

-- the file that was found, where one was
abbrev pub old_file : Option Node → Node
old_file (Some (File bytes exec)) = File bytes exec
old_file _ = File [] false
