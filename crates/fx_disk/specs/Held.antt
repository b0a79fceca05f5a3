-- What is read ahead of a file, and what is given of it.
use Rattle.std.specs.Prelude.{◌≡◌, ◌++◌, ◌∷◌, ℕ, List, map, Option, Some, IfSome, Vec, vec_len, take}
use Rattle.std.specs.List.{All}
use Rattle.std.specs.Io.KnownBytes.{Consumes}
use Rattle.std.specs.Io.Cursor.{cursor_remaining}
use Rattle.fx_disk.specs.declared.ahead.Held.{Held}
use Rattle.fx_disk.specs.declared.entries.Entry.{Entry}
use Rattle.fx_disk.specs.declared.entries.Task.{Task}
use Rattle.fx_disk.specs.declared.reading.Source.{Source}
use Rattle.fx_disk.specs.declared.reading.Source.TheVariants as source

-- the bytes that reads will give from here on: those that are left of what is held; of an open file what it tells
unfoldable pub left_in : {F : Type 0} → (F → Option (List ℕ)) → Source F → Option (List ℕ)
left_in remaining (source.Open file) = remaining file
left_in remaining (source.Held bytes) = cursor_remaining (λ v. Some v.items) bytes

-- the file at a path was taken, and what came before it was given up
pub record IsTaken (path : List ℕ) (old new : List Held) (held : Held) : Type 0 where
  pub place : held.path ≡ path
  pub before : List Held
  pub rest : old ≡ new ++ held ∷ before

-- the file at a path was taken, and what is left are all its bytes
abbrev pub IsTakenWhole : List ℕ → List Held → List Held → Option (List ℕ) → Type 0
IsTakenWhole path old new left = (held : Held) × IsTaken path old new held × (left ≡ Some held.bytes.items)

-- of bytes that are known so many were given, and these are the first
abbrev pub Gives : Option (List ℕ) → Option (List ℕ) → ℕ → List ℕ → Type 0
Gives old new count buf = Consumes old new (take count buf)

-- the path of an entry of a folder
abbrev pub path_in : List ℕ → List ℕ → List ℕ
path_in folder name = folder ++ 47 ∷ name

-- the names of entries, in their order
abbrev pub names_of : List Entry → List (List ℕ)
names_of entries = map (λ e. e.name) entries

-- what is held of an entry is held with the entry's path
abbrev pub IsHeldIn : List ℕ → Entry → Type 0
IsHeldIn folder entry = IfSome entry.held (λ held. held.path ≡ path_in folder entry.name)

-- an entry for each name of a task, in their order
pub record IsLookOf {A : Type 0} (task : Task) (entries : Vec Entry A) : Type 0 where
  pub len : vec_len entries ≡ vec_len task.names
  pub names : names_of entries.items ≡ task.names.items
  pub held : All (IsHeldIn task.folder) entries.items
