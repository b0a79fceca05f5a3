-- Files, directories and links that stand below a root, whose directories are still to list them.
use Rattle.std.specs.Prelude.{◌≡◌, ℕ, ◌<◌, ◌≤◌, All, true, List, [], ◌∷◌, ◌++◌, map, length, is_some, IsSome, IfSome, Some, ⊤}
use Rattle.std.specs.List.{slice_get, slice_set}
use Rattle.std.specs.List.Sorted.{IsStrictlySortedBy}
use Rattle.std.specs.Map.{keys_of}
use Rattle.std.specs.FinMap.{find}
use Rattle.fx_outside.specs.Path.{Parts}
use Rattle.fx_store.specs.declared.limits.TheConstants.{MAX_FILE_BYTES}
use Rattle.fx_store.specs.declared.node.Node.{Node}
use Rattle.fx_store.specs.declared.node.Node.TheVariants.{File, Dir, Link}
use Rattle.fx_store.specs.declared.changes.Change.{Change}
use Rattle.fx_store.specs.Names.{path_cmp, IsPath, IsLinkText, IsNameSet}
use Rattle.fx_store.specs.Whole.{Store}
use Rattle.fx_store.specs.Kinds.{is_dir}
use Rattle.fx_table.specs.Listed.{Mapped, names_below, with_names}
use Rattle.fx_table.specs.Mapped.{mapped_of}

-- within the limits, whichever bytes a file holds
abbrev pub IsNodeBounded : Node → Type 0
IsNodeBounded (File bytes exec) = length bytes ≤ MAX_FILE_BYTES
IsNodeBounded (Dir names) = ⊤
IsNodeBounded (Link text) = IsLinkText text

-- what a file holds is bytes
abbrev pub IsOfBytes : Node → Type 0
IsOfBytes (File bytes exec) = All (λ b. b < 256) bytes
IsOfBytes (Dir names) = ⊤
IsOfBytes (Link text) = ⊤

abbrev pub AreOfBytes : Store → Type 0
AreOfBytes S = (path : List (List ℕ)) → IfSome (S path) IsOfBytes

-- a root, and a directory above each path; what the directories list is left open
pub record IsTreeShaped (S : Store) : Type 0 where
  pub root : is_dir (S []) ≡ true
  pub above : (path : Parts) (name : List ℕ) → is_some (S (path ++ name ∷ [])) ≡ true → is_dir (S path) ≡ true
  pub paths : (path : Parts) → IsSome (S path) → IsPath path
  pub leaves : (path : Parts) → IfSome (S path) IsNodeBounded

-- the change that sets a node at its path
abbrev pub change_of : Mapped → Change
change_of e = record { path = e.0; node = Some e.1 }

abbrev pub changes_of : List Mapped → List Change
changes_of es = map change_of es

-- what stands at each path once the changes are made
abbrev pub made_by : List Change → Store
made_by changes path = find path_cmp path (mapped_of changes)

-- the changes set nodes of such a shape, in the order of their paths
pub record AreShaped (changes : List Change) : Type 0 where
  pub set : changes ≡ changes_of (mapped_of changes)
  pub ascending : IsStrictlySortedBy path_cmp (keys_of (mapped_of changes))
  pub shape : IsTreeShaped (made_by changes)
  pub bytes : AreOfBytes (made_by changes)

-- in the order of their paths, so that the names below each directory are a set
pub record HaveNameSets (es : List Mapped) : Type 0 where
  pub ascending : IsStrictlySortedBy path_cmp (keys_of es)
  pub sets : (path : Parts) → IsNameSet (names_below es path)

-- one change more lists what stands in its directory
abbrev pub ListsAt : List Change → ℕ → List Change → Type 0
ListsAt old i new = (e : Mapped) → slice_get old i ≡ Some (change_of e) → new ≡ slice_set old i (change_of (with_names (mapped_of old) e))
