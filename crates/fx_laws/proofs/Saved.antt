-- A folder that is loaded stays, and is the same if it is saved again.
use Rattle.std.proofs.Common.{◌≡◌, inl, inr, [], ◌∷◌, ◌++◌, Option, None, sym, ◌∙◌, ap}
use Rattle.std.specs.FinMap.{get}
use Rattle.fx_outside.specs.Path.{Parts, parts}
use Rattle.fx_outside.specs.Tree.{Entry}
use Rattle.fx_store.specs.Whole.{Nodes}
use Rattle.fx_store.proofs.PathLists.{rest_append}
use Rattle.fx_table.specs.Places.{table_name}
use Rattle.fx_folder.specs.Deep.{table_entry, folder_entry}
use Rattle.fx_folder.specs.Folder.{entry_or}
use Rattle.fx_folder.specs.HasFolder.{StandsFor}
use Rattle.fx_folder.proofs.FolderLoads.{folder_there, folder_loads, loads_folder, one_folder}
use Rattle.fx_folder.proofs.Loaded.{loads_are_whole}
use Rattle.fx_folder.proofs.Standing.{stays}
use Rattle.fx_laws.specs.Stays.{LoadedFoldersStay, IsKeptEntry, SavedFoldersAreSame, FoldersAreWhatTheyLoadAs, FoldersAreOfOne}

pub loaded_folders_stay : LoadedFoldersStay
loaded_folders_stay tree whole P nodes there loads names = stays tree whole P nodes there loads names

kept : (nodes : Nodes) (names : Parts) (found saved : Option Entry) → saved ≡ folder_entry nodes names → StandsFor nodes names found → IsKeptEntry names found saved
kept nodes names found saved is (inl same) = inl (is ∙ sym same)
kept nodes names found saved is (inr empty) =
    let none : folder_entry nodes (table_name ∷ []) ≡ None = ap table_entry empty.1 in
    inr (empty.0, is ∙ (ap (folder_entry nodes) empty.0.place ∙ none))

pub saved_folders_are_same : SavedFoldersAreSame
saved_folders_are_same tree old new whole path at nodes loads saves names =
    kept nodes names (get tree (parts path ++ names)) (get new (at ++ names))
    (saves (at ++ names) ∙ ap (entry_or (get old (at ++ names)) nodes) (rest_append at names))
    (loaded_folders_stay tree whole (parts path) nodes (folder_there tree whole path loads.0) loads.1 names)

pub folders_are_what_they_load_as : FoldersAreWhatTheyLoadAs
folders_are_what_they_load_as tree whole path nodes bytes = (λ loads. loads_folder tree whole path nodes (loads_are_whole tree whole (parts path) nodes loads.1 bytes) loads, folder_loads tree path nodes)

pub folders_are_of_one : FoldersAreOfOne
folders_are_of_one = one_folder
