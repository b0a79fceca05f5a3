-- Kinds of nodes.
use Rattle.std.specs.Prelude.{Bool, true, false, Option, Some, None}
use Rattle.fx_store.specs.declared.node.Node.{Node}
use Rattle.fx_store.specs.declared.node.Node.TheVariants.{File, Dir, Link}

abbrev pub is_file : Option Node → Bool
is_file None = false
is_file (Some (File bytes exec)) = true
is_file (Some (Dir names)) = false
is_file (Some (Link text)) = false

abbrev pub is_dir : Option Node → Bool
is_dir None = false
is_dir (Some (File bytes exec)) = false
is_dir (Some (Dir names)) = true
is_dir (Some (Link text)) = false

abbrev pub is_link : Option Node → Bool
is_link None = false
is_link (Some (File bytes exec)) = false
is_link (Some (Dir names)) = false
is_link (Some (Link text)) = true

-- whether an executable file is there
abbrev pub is_executable : Option Node → Bool
is_executable None = false
is_executable (Some (File bytes exec)) = exec
is_executable (Some (Dir names)) = false
is_executable (Some (Link text)) = false
