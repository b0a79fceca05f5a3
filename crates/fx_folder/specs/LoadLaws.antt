-- What a folder is loaded as: a whole filestore, and from the folder of a filestore within the limits that filestore.
use Rattle.std.specs.Prelude.{◌≡◌, ◌≤◌, ℕ, List, length, sum_by, Ok}
use Rattle.std.specs.FinMap.{get, len, entries}
use Rattle.fx_outside.specs.Path.{Parts}
use Rattle.fx_outside.specs.Tree as host
use Rattle.fx_outside.specs.Tree.{Tree}
use Rattle.fx_store.specs.declared.node.Node.{Node}
use Rattle.fx_store.specs.declared.node.Node.TheVariants.{File, Dir, Link}
use Rattle.fx_store.specs.Whole.{Nodes, IsWhole}
use Rattle.fx_folder.specs.declared.limits.TheConstants.{MAX_BYTES, MAX_NODES, MAX_TABLE}
use Rattle.fx_table.specs.Table.{table_text, lines_of}
use Rattle.fx_folder.specs.Deep.{deep_loads, HasFolderOf}
use Rattle.fx_table.specs.Listed.{Mapped}
use Rattle.fx_table.specs.Shaped.{AreOfBytes}

-- what a folder of a whole tree is loaded as is a whole filestore; a tree of numbers that are no bytes is loaded too, so that
-- they are bytes is asked of what was loaded
abbrev pub LoadsAreWhole : Type 0
LoadsAreWhole = (tree : Tree) → host.IsWhole tree → (folder : Parts) (nodes : Nodes) → deep_loads tree folder ≡ Ok nodes → AreOfBytes (get nodes) → IsWhole (get nodes)

-- the bytes of a node that are counted: those of a file and those of a link's text
abbrev pub counted_bytes : Node → ℕ
counted_bytes (File bytes exec) = length bytes
counted_bytes (Dir names) = 0
counted_bytes (Link text) = length text

abbrev pub sizes_of : List Mapped → ℕ
sizes_of es = sum_by (λ (e : Mapped). counted_bytes e.1) es

-- a filestore that can be loaded: so many nodes with the root, so many bytes in its files and link texts, and in its table
pub record IsWithinLimits (nodes : Nodes) : Type 0 where
  pub count : len nodes ≤ MAX_NODES
  pub bytes : sizes_of (entries nodes) ≤ MAX_BYTES
  pub table : length (table_text (lines_of nodes)) ≤ MAX_TABLE

-- the folder of a whole filestore within the limits is loaded as this filestore
abbrev pub FoldersAreLoaded : Type 0
FoldersAreLoaded = (tree : Tree) (folder : Parts) (nodes : Nodes) → IsWhole (get nodes) → IsWithinLimits nodes → HasFolderOf tree folder nodes → deep_loads tree folder ≡ Ok nodes
