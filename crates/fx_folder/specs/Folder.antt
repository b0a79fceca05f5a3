-- The folder of a filestore: which entries stand for it in a host's tree once it is saved, and which after a refusal.
use Rattle.std.specs.Prelude.{◌≡◌, ◌≢◌, ◌⊎◌, ℕ, Bool, true, false, cond, ◌||◌, List, [], ◌∷◌, ◌++◌, take, IsTrue, IfSome, IsSomeAnd, Option, Some, None}
use Rattle.std.specs.FinMap.{get}
use Rattle.std.specs.Ordering.{is_lt}
use Rattle.fx_store.specs.Whole.{Nodes}
use Rattle.fx_outside.specs.declared.kind.HostKind.TheVariants as kind
use Rattle.fx_folder.specs.declared.fault.SaveFault.{SaveFault}
use Rattle.fx_folder.specs.declared.fault.SaveFault.TheVariants as fault
pub use Rattle.fx_folder.specs.declared.readying.Out.{Out}
pub use Rattle.fx_folder.specs.declared.readying.Out.TheVariants.{Absent, Empty}
use Rattle.fx_outside.specs.Host.{HostView, FaultIn, HasFailed}
use Rattle.fx_outside.specs.Path.{Parts, parts, parts_cmp, is_fit, above}
use Rattle.fx_outside.specs.Tree.{Tree, Entry, file, entry_at, is_folder_at, has_folder}
pub use Rattle.fx_folder.specs.Places.{host_entry}
use Rattle.fx_store.specs.Names.{rest_of}
use Rattle.fx_folder.specs.Deep.{folder_entry, is_table_place}

abbrev pub entry_or : Option Entry → Nodes → Option Parts → Option Entry
entry_or outside nodes None = outside
entry_or outside nodes (Some path) = folder_entry nodes path

-- the new tree has the folder of the filestore at these parts, and is the old one elsewhere
abbrev pub IsSaved : Tree → Tree → Parts → Nodes → Type 0
IsSaved tree tree' at nodes = (q : Parts) → get tree' q ≡ entry_or (get tree q) nodes (rest_of at q)

-- a file with a prefix of the bytes of the file that the whole folder has there
abbrev pub IsFrontOf : Entry → Entry → Type 0
IsFrontOf e whole = (bytes : List ℕ) × (n : ℕ) × (whole ≡ file bytes) × (e ≡ file (take n bytes))

-- the order in which a folder is written: that of paths, but the table last of all
abbrev pub is_written_before : Parts → Parts → Bool
is_written_before before path = cond (is_table_place before) false (is_table_place path || is_lt (parts_cmp before path))

-- the new tree has a part of that folder at these parts, and is the old one elsewhere; the file last begun may hold a prefix
-- of its bytes, and what is written before an entry that is there is there whole
pub record IsPartOf (tree tree' : Tree) (at : Parts) (nodes : Nodes) (last : Parts) : Type 0 where
  pub outside : (q : Parts) → rest_of at q ≡ None → get tree' q ≡ get tree q
  pub inside : (path : Parts) (e : Entry) → get tree' (at ++ path) ≡ Some e
      → (whole : Entry) × (folder_entry nodes path ≡ Some whole) × ((e ≡ whole) ⊎ ((path ≡ last) × IsFrontOf e whole))
  pub ordered : (path before : Parts) (e whole : Entry) → get tree' (at ++ path) ≡ Some e → IsTrue (is_written_before before path) → folder_entry nodes before ≡ Some whole
      → get tree' (at ++ before) ≡ Some whole

abbrev pub IsPartlySaved : Tree → Tree → Parts → Nodes → Type 0
IsPartlySaved tree tree' at nodes = (tree' ≡ tree) ⊎ ((last : Parts) × IsPartOf tree tree' at nodes last)

-- the tree of a host that tells one, before and after a call
abbrev pub IfTold : Option Tree → Option Tree → (Tree → Tree → Type 0) → Type 0
IfTold None told' P = told' ≡ None
IfTold (Some tree) None P = ⊥
IfTold (Some tree) (Some tree') P = P tree tree'

-- the filestore's folder, or a part of it, was written at the path
abbrev pub Saves : List ℕ → Nodes → HostView → HostView → Type 0
Saves path nodes old new = IfTold old.told new.told (λ tree tree'. IsSaved tree tree' (parts path) nodes)

abbrev pub SavesPart : List ℕ → Nodes → HostView → HostView → Type 0
SavesPart path nodes old new = IfTold old.told new.told (λ tree tree'. IsPartlySaved tree tree' (parts path) nodes)

-- an empty folder stands at the path; or nothing does, and the path is fit
abbrev pub IsReady : Tree → List ℕ → Out → Type 0
IsReady tree path Empty = (is_folder_at tree path ≡ true) × ((name : List ℕ) → get tree (parts path ++ name ∷ []) ≡ None)
IsReady tree path Absent = (is_fit path ≡ true) × (entry_at tree path ≡ None)

-- something stands at the path that is no empty folder
abbrev pub IsTaken : Tree → List ℕ → Type 0
IsTaken tree path =
    (e : Entry) × (entry_at tree path ≡ Some e) × ((e.kind ≢ kind.Folder) ⊎ ((name : List ℕ) × (inside : Entry) × (get tree (parts path ++ name ∷ []) ≡ Some inside)))

-- when no folder is ready to be written
abbrev pub ReadyCause : List ℕ → HostView → HostView → SaveFault → Type 0
ReadyCause path old new fault.WriteFault = HasFailed (FaultIn path) (λ _. is_fit path) old new
ReadyCause path old new fault.NotEmpty = IfSome old.told (λ tree. IsTaken tree path)
ReadyCause path old new fault.NoMemory = Unit {0}

-- the folder is to be made, and none stands above it
abbrev pub LacksFolder : Tree → List ℕ → Out → Type 0
LacksFolder tree path there = (there ≡ Absent) × (has_folder tree (above (parts path)) ≡ false)

-- when a folder is not written whole
abbrev pub SaveCause : List ℕ → Out → HostView → HostView → SaveFault → Type 0
SaveCause path there old new fault.WriteFault = FaultIn path old new ⊎ IsSomeAnd old.told (λ tree. LacksFolder tree path there)
SaveCause path there old new fault.NotEmpty = ⊥
SaveCause path there old new fault.NoMemory = Unit {0}
