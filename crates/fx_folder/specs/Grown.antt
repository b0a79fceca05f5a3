-- What a walk finds of any host, whether it tells its tree or not: files and directories in the order of their paths, each in a
-- directory that was found before it.
use Rattle.std.specs.Prelude.{◌≡◌, ◌⊎◌, ℕ, true, List, [], ◌∷◌, ◌++◌, Option, Some, None, IfSome}
use Rattle.std.specs.List.{AllByRecursion}
use Rattle.std.specs.List.Sorted.{IsStrictlySortedBy}
use Rattle.std.specs.Map.{keys_of}
use Rattle.std.specs.FinMap.{entries, find}
use Rattle.fx_outside.specs.Listing.{Names}
use Rattle.fx_outside.specs.Path.{Parts}
use Rattle.fx_outside.specs.Tree.{Tree}
use Rattle.fx_store.specs.declared.node.Node.{Node}
use Rattle.fx_store.specs.declared.node.Node.TheVariants.{File, Dir, Link}
use Rattle.fx_store.specs.declared.changes.Change.{Change}
use Rattle.fx_store.specs.Names.{path_cmp, IsPath, IsContent}
use Rattle.fx_store.specs.Kinds.{is_dir}
use Rattle.fx_folder.specs.declared.walking.Item.{Item}
use Rattle.fx_table.specs.Listed.{Mapped}
use Rattle.fx_table.specs.Mapped.{mapped_of}
use Rattle.fx_folder.specs.Walks.{item_path, items_of, IsOnWay}

-- a file within its limit, or a directory that lists no names yet
abbrev pub IsFoundNode : Option Node → Type 0
IsFoundNode None = ⊥
IsFoundNode (Some (File bytes exec)) = IsContent bytes
IsFoundNode (Some (Dir names)) = names ≡ []
IsFoundNode (Some (Link text)) = ⊥

abbrev pub HasDir : List Mapped → Parts → Type 0
HasDir es path = is_dir (find path_cmp path es) ≡ true

-- a change that makes such a node, in a directory of these
pub record IsFoundChange (es : List Mapped) (c : Change) : Type 0 where
  pub path : IsPath c.path
  pub node : IsFoundNode c.node
  pub above : (path : Parts) (name : List ℕ) → c.path ≡ path ++ name ∷ [] → HasDir es path

-- all of these are found among them, behind a root
pub record AreFoundChanges (found : List Change) : Type 0 where
  pub root : HasDir (mapped_of found) []
  pub each : AllByRecursion (IsFoundChange (mapped_of found)) found
  pub ascending : IsStrictlySortedBy path_cmp (keys_of (mapped_of found))

-- the paths of items, the last of which is walked first
abbrev pub paths_ahead : List Item → List Parts
paths_ahead [] = []
paths_ahead (x ∷ items) = paths_ahead items ++ item_path x ∷ []

-- what is still to be walked stands in directories that were found, and comes behind all that was found
pub record IsGrown (found : List Change) (todo : List Item) : Type 0 where
  pub root : HasDir (mapped_of found) []
  pub each : AllByRecursion (IsFoundChange (mapped_of found)) found
  pub ascending : IsStrictlySortedBy path_cmp (keys_of (mapped_of found) ++ paths_ahead todo)
  pub stand : AllByRecursion (λ (x : Item). HasDir (mapped_of found) x.parent) todo

-- on the way of a walk, on a host that tells its tree or none: what was found, how many bytes may still be loaded, and what is left
pub record IsWalking (told : Option Tree) (at : Parts) (found : List Change) (left : ℕ) (todo : List Item) : Type 0 where
  pub way : IfSome told (λ tree. IsOnWay tree at found left todo)
  pub grown : IsGrown found todo

-- an item is found as a file, or as a directory whose entries are to be walked next
pub record FindsItem (x : Item) (todo todo' : List Item) (c : Change) : Type 0 where
  pub path : c.path ≡ item_path x
  pub valid : IsPath c.path
  pub node : IsFoundNode c.node
  pub names : Names
  pub more : todo' ≡ todo ++ items_of c.path (entries names)
  pub inside : (entries names ≡ []) ⊎ (c.node ≡ Some (Dir []))
