-- What the reading of a file answers.
use Rattle.std.specs.Prelude.{◌≡◌, ◌≤◌, ◌++◌, ◌∷◌, ℕ, true, List, length, take, nat_lt, min, cond, Option, Some, None, Result, Ok, Err, ⊤}
use Rattle.fx_outside.specs.Tree.{Tree, is_file_at, bytes_at}
use Rattle.fx_store.specs.declared.bytes.Bytes.{Bytes}
use Rattle.fx_table.specs.declared.fault.FolderCause.{FolderCause}
use Rattle.fx_table.specs.declared.fault.FolderCause.TheVariants.{TooLarge}
use Rattle.fx_table.specs.declared.fault.LoadFault.{LoadFault}
use Rattle.fx_table.specs.declared.fault.LoadFault.TheVariants.{Refused, ReadFault, NoMemory}
use Rattle.fx_store.specs.declared.limits.TheConstants.{MAX_FILE_BYTES}

-- the whole file at a path, or more of its bytes than so many
pub record IsReadAt (tree : Tree) (path : List ℕ) (limit : ℕ) (text : List ℕ) : Type 0 where
  pub file : is_file_at tree path ≡ true
  pub front : text ≡ take (length text) (bytes_at tree path)
  pub within : length text ≤ length (bytes_at tree path)
  pub whole : length text ≤ limit → text ≡ bytes_at tree path

-- the host path of an entry of a folder
abbrev pub path_below : List ℕ → List ℕ → List ℕ
path_below folder name = folder ++ 47 ∷ name

-- where an entry stands below the folder
abbrev pub place_below : List ℕ → List ℕ
place_below name = 47 ∷ name

-- why a file is refused where so many bytes may still be loaded
abbrev pub refused_size : ℕ → List ℕ → List ℕ → Option FolderCause
refused_size left name bytes = cond (nat_lt (min left MAX_FILE_BYTES) (length bytes)) (Some (TooLarge (place_below name))) None

-- the bytes, or the refusal that is due where so many bytes are left
abbrev pub ReadsFile : ℕ → List ℕ → List ℕ → Result Bytes LoadFault → Type 0
ReadsFile left name contents (Ok bytes) = (refused_size left name contents ≡ None) × (bytes ≡ contents)
ReadsFile left name contents (Err (Refused cause)) = refused_size left name contents ≡ Some cause
ReadsFile left name contents (Err ReadFault) = ⊤
ReadsFile left name contents (Err NoMemory) = ⊤
