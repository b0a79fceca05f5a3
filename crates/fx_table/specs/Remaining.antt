-- What a walk over a filestore in the order of paths still has to come to.
use Rattle.std.specs.Prelude.{◌≡◌, ◌<◌, ℕ, is_some, List, [], ◌∷◌, ◌++◌, length, drop, Option, Some, None}
use Rattle.std.specs.List.{AllByRecursion, filter, flat_map, slice_get}
use Rattle.std.specs.FinMap.{entries, get}
use Rattle.fx_store.specs.declared.node.Node.{Node}
use Rattle.fx_store.specs.declared.node.Node.TheVariants.{File, Dir, Link}
use Rattle.fx_store.specs.Whole.{Nodes}
use Rattle.fx_table.specs.declared.descent.Entry.{Entry}
use Rattle.fx_table.specs.declared.descent.Level.{Level}
use Rattle.fx_store.specs.Names.{rest_of}
use Rattle.fx_table.specs.Places.{StandsIn}

-- what stands at a path and below
abbrev pub from_path : Nodes → List (List ℕ) → List (List (List ℕ) × Node)
from_path nodes path = filter (λ e. is_some (rest_of path e.0)) (entries nodes)

-- what stands at the entries of these names of a directory, and below
abbrev pub from_names : Nodes → List (List ℕ) → List (List ℕ) → List (List (List ℕ) × Node)
from_names nodes path names = flat_map (λ name. from_path nodes (path ++ name ∷ [])) names

-- the names that a directory lists
abbrev pub names_in : Option Node → List (List ℕ)
names_in None = []
names_in (Some (File bytes exec)) = []
names_in (Some (Dir names)) = names
names_in (Some (Link text)) = []

-- what is left below directories that were entered, of which the last comes first
abbrev pub left_of : Nodes → List Level → List (List (List ℕ) × Node)
left_of nodes [] = []
left_of nodes (level ∷ levels) = left_of nodes levels ++ from_names nodes level.parent (drop level.next level.names)

-- a directory of the filestore, of whose names one comes next
pub record IsLevel (nodes : Nodes) (level : Level) : Type 0 where
  pub directory : get nodes level.parent ≡ Some (Dir level.names)
  pub more : level.next < length level.names

abbrev pub AreLevels : Nodes → List Level → Type 0
AreLevels nodes levels = AllByRecursion (IsLevel nodes) levels

-- the path of the directory's next name
abbrev pub IsNextPath : Level → List (List ℕ) → Type 0
IsNextPath level path = (name : List ℕ) × (slice_get level.names level.next ≡ Some name) × (path ≡ level.parent ++ name ∷ [])

-- a directory is gone into from its first name on, if it lists one
abbrev pub EntersDirectory : List Level → List (List ℕ) → List (List ℕ) → List Level → Type 0
EntersDirectory old path [] new = new ≡ old
EntersDirectory old path (name ∷ names) new = new ≡ old ++ record { parent = path; names = name ∷ names; next = 0 } ∷ []

-- the path is the first of those that were left, and the others are left
abbrev pub TakesPath : Nodes → List (List (List ℕ) × Node) → List (List (List ℕ) × Node) → Option (List (List ℕ)) → Type 0
TakesPath nodes old new None = old ≡ []
TakesPath nodes old new (Some path) = (node : Node) × (get nodes path ≡ Some node) × (old ≡ (path, node) ∷ new)

-- an entry is the first of those that were left, and the others are left
pub record TakesEntry (nodes : Nodes) (old new : List (List (List ℕ) × Node)) (e : Entry) : Type 0 where
  pub some : 0 < length e.path
  pub node : get nodes e.path ≡ Some e.node.now
  pub next : TakesPath nodes old new (Some e.path)
  pub parent : StandsIn e.parent e.path

abbrev pub TakesNext : Nodes → List (List (List ℕ) × Node) → List (List (List ℕ) × Node) → Option Entry → Type 0
TakesNext nodes old new None = TakesPath nodes old new None
TakesNext nodes old new (Some e) = TakesEntry nodes old new e

-- all but the root is left
abbrev pub IsLeftBelow : Nodes → List (List (List ℕ) × Node) → Type 0
IsLeftBelow nodes left = (names : List (List ℕ)) × (get nodes [] ≡ Some (Dir names)) × (entries nodes ≡ ([], Dir names) ∷ left)
