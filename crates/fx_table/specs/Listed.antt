-- Paths with their nodes: the lines of a table among them, and directories that list what stands in them.
use Rattle.std.specs.Prelude.{ℕ, List, [], ◌∷◌, map}
use Rattle.std.specs.List.{filter_map}
use Rattle.std.specs.FinMap.{put}
use Rattle.fx_outside.specs.Path.{name_in}
use Rattle.fx_store.specs.declared.node.Node.{Node}
use Rattle.fx_store.specs.declared.node.Node.TheVariants.{File, Dir, Link}
use Rattle.fx_store.specs.Names.{path_cmp}
use Rattle.fx_table.specs.Table.{TableLine, TableLink, links_among, flag_at}

-- a path with its node
abbrev pub Mapped : Type 0
Mapped = List (List ℕ) × Node

-- each link in its place
abbrev pub with_links : List Mapped → List TableLink → List Mapped
with_links es [] = es
with_links es (link ∷ links) = with_links (put path_cmp link.path (Link link.text) es) links

abbrev pub with_flag : List TableLine → Mapped → Mapped
with_flag lines (path, File bytes exec) = (path, File bytes (flag_at lines path))
with_flag lines (path, Dir names) = (path, Dir names)
with_flag lines (path, Link text) = (path, Link text)

-- each file is executable where a line says so
abbrev pub with_flags : List Mapped → List TableLine → List Mapped
with_flags es lines = map (with_flag lines) es

-- files with their flags, and each link in its place
abbrev pub with_lines : List Mapped → List TableLine → List Mapped
with_lines es lines = with_links (with_flags es lines) (links_among lines)

-- the names that stand directly in a directory
abbrev pub names_below : List Mapped → List (List ℕ) → List (List ℕ)
names_below es path = filter_map (λ (e : Mapped). name_in path e.0) es

abbrev pub with_names : List Mapped → Mapped → Mapped
with_names es (path, File bytes exec) = (path, File bytes exec)
with_names es (path, Dir names) = (path, Dir (names_below es path))
with_names es (path, Link text) = (path, Link text)

-- each directory lists the names that stand directly in it
abbrev pub listed : List Mapped → List Mapped
listed es = map (with_names es) es
