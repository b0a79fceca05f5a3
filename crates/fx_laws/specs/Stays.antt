-- A folder that is loaded and saved again is the same, but for a table without bytes, which is left out.
use Rattle.std.specs.Prelude.{◌≡◌, ◌⊎◌, ◌↔◌, ℕ, List, ◌++◌, Option, Some, None, Ok}
use Rattle.std.specs.FinMap.{get}
use Rattle.fx_outside.specs.Path.{Parts, parts}
use Rattle.fx_outside.specs.Tree as host
use Rattle.fx_outside.specs.Tree.{Tree, Entry}
use Rattle.fx_store.specs.Whole.{Nodes}
use Rattle.fx_table.specs.Shaped.{AreOfBytes}
use Rattle.fx_folder.specs.Deep.{deep_loads}
use Rattle.fx_folder.specs.Folder.{IsSaved}
use Rattle.fx_folder.specs.HasFolder.{IsEmptyTable, StandsFor, HasFolder}
use Rattle.fx_folder.specs.Loads.{Loads}

-- a folder that is loaded is the folder of the loaded filestore
abbrev pub LoadedFoldersStay : Type 0
LoadedFoldersStay =
    (tree : Tree) → host.IsWhole tree → (folder : Parts) (nodes : Nodes) → get tree folder ≡ Some host.folder → deep_loads tree folder ≡ Ok nodes
    → (names : Parts) → StandsFor nodes names (get tree (folder ++ names))

-- what is saved is what was found; or a table without bytes was found, and none is saved
abbrev pub IsKeptEntry : Parts → Option Entry → Option Entry → Type 0
IsKeptEntry names found saved = (saved ≡ found) ⊎ (IsEmptyTable names found × (saved ≡ None))

-- a filestore that was loaded of the folder at a path, and is saved at these parts of another tree or of the same
abbrev pub SavedFoldersAreSame : Type 0
SavedFoldersAreSame =
    (tree old new : Tree) → host.IsWhole tree → (path : List ℕ) (at : Parts) (nodes : Nodes) → Loads tree path nodes → IsSaved old new at nodes
    → (names : Parts) → IsKeptEntry names (get tree (parts path ++ names)) (get new (at ++ names))

-- the folder at a path of a whole tree is loaded as a filestore exactly if it is the folder of that filestore
abbrev pub FoldersAreWhatTheyLoadAs : Type 0
FoldersAreWhatTheyLoadAs = (tree : Tree) → host.IsWhole tree → (path : List ℕ) (nodes : Nodes) → AreOfBytes (get nodes) → Loads tree path nodes ↔ HasFolder tree path nodes

-- the folder at a path is that of one filestore at most
abbrev pub FoldersAreOfOne : Type 0
FoldersAreOfOne = (tree : Tree) (path : List ℕ) (a b : Nodes) → HasFolder tree path a → HasFolder tree path b → a ≡ b
