-- The filestore whose folder stands at a path of a host's tree.
use Rattle.std.specs.Prelude.{◌≡◌, ◌⊎◌, ℕ, true, List, [], ◌∷◌, ◌++◌, Option, Some}
use Rattle.std.specs.FinMap.{get}
use Rattle.fx_outside.specs.Path.{Parts, parts}
use Rattle.fx_outside.specs.Tree.{Tree, Entry, file, is_folder_at}
use Rattle.fx_store.specs.Whole.{Nodes, IsWhole}
use Rattle.fx_table.specs.Places.{table_name}
use Rattle.fx_table.specs.Table.{lines_of}
use Rattle.fx_folder.specs.Deep.{folder_entry}
use Rattle.fx_folder.specs.LoadLaws.{IsWithinLimits}

-- at the table's place stands a file without bytes
pub record IsEmptyTable (names : Parts) (found : Option Entry) : Type 0 where
  pub place : names ≡ table_name ∷ []
  pub empty : found ≡ Some (file [])

-- what stands at the names is what the folder of the filestore has there; or it is a table without bytes, and the filestore has
-- no lines of a table
abbrev pub StandsFor : Nodes → Parts → Option Entry → Type 0
StandsFor nodes names found = (found ≡ folder_entry nodes names) ⊎ (IsEmptyTable names found × (lines_of nodes ≡ []))

-- the folder at the path is that of the filestore, which is whole and within the limits
pub record HasFolder (tree : Tree) (path : List ℕ) (nodes : Nodes) : Type 0 where
  pub there : is_folder_at tree path ≡ true
  pub whole : IsWhole (get nodes)
  pub limits : IsWithinLimits nodes
  pub stands : (names : Parts) → StandsFor nodes names (get tree (parts path ++ names))
