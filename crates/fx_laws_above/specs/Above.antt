-- What stands above a folder that is saved.
use Rattle.std.specs.Prelude.{◌≡◌, true}
use Rattle.std.specs.FinMap.{get}
use Rattle.fx_store.specs.Whole as store
use Rattle.fx_store.specs.Whole.{Nodes}
use Rattle.fx_outside.specs.Path.{Parts, above}
use Rattle.fx_outside.specs.Tree as host
use Rattle.fx_outside.specs.Tree.{Tree, has_folder}
use Rattle.fx_folder.specs.Folder.{IsSaved}

-- a folder that is saved in a whole tree has stood in a folder before
abbrev pub SavedInFolders : Type 0
SavedInFolders =
    (t t' : Tree) (at : Parts) (nodes : Nodes) → host.IsWhole t' → store.IsWhole (get nodes) → IsSaved t t' at nodes → has_folder t (above at) ≡ true
