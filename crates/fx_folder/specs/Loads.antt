-- What a folder of any depth is loaded as, with the links of its table, or why it is refused.
use Rattle.std.specs.Prelude.{◌≡◌, true, ℕ, List, IfSome, Result, Ok, Err, ⊤}
use Rattle.fx_outside.specs.Host.{HostView, FaultIn, HasFailed}
use Rattle.fx_outside.specs.Path.{parts}
use Rattle.fx_outside.specs.Tree.{Tree, is_folder_at}
use Rattle.fx_store.specs.declared.filestore.Filestore.{Filestore}
use Rattle.fx_store.specs.Whole.{Nodes}
use Rattle.fx_table.specs.declared.fault.FolderCause.{FolderCause}
use Rattle.fx_table.specs.declared.fault.LoadFault.{LoadFault}
use Rattle.fx_table.specs.declared.fault.LoadFault.TheVariants.{Refused, ReadFault, NoMemory}
use Rattle.fx_folder.specs.Deep.{deep_loads}

-- the filestore that the folder at a path stands for, or the first refusal
abbrev pub loads : Tree → List ℕ → Result Nodes FolderCause
loads tree path = deep_loads tree (parts path)

-- the answer is what the folder loads as, unless the host failed or memory was refused
abbrev pub AnswersAs : Result Nodes FolderCause → Result Filestore LoadFault → Type 0
AnswersAs answer (Ok store) = answer ≡ Ok store.nodes
AnswersAs answer (Err (Refused cause)) = answer ≡ Err cause
AnswersAs answer (Err ReadFault) = ⊤
AnswersAs answer (Err NoMemory) = ⊤

-- the folder at the path is loaded as this filestore; or it is refused, first for this cause
abbrev pub Loads : Tree → List ℕ → Nodes → Type 0
Loads tree path nodes = (is_folder_at tree path ≡ true) × (loads tree path ≡ Ok nodes)

abbrev pub IsRefused : Tree → List ℕ → FolderCause → Type 0
IsRefused tree path cause = (is_folder_at tree path ≡ true) × (loads tree path ≡ Err cause)

-- when a folder is not loaded
abbrev pub LoadCause : List ℕ → HostView → HostView → LoadFault → Type 0
LoadCause path old new (Refused cause) = IfSome old.told (λ tree. IsRefused tree path cause)
LoadCause path old new ReadFault = HasFailed (FaultIn path) (λ tree. is_folder_at tree path) old new
LoadCause path old new NoMemory = ⊤
