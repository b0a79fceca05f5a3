-- Filestores: from paths to nodes, with each entry listed by the directory above it.
use Rattle.std.specs.Prelude.{◌≡◌, ℕ, Bool, false, cond, List, [], ◌∷◌, ◌++◌, length, IsSome, is_some, IfSome, Option, Some, None}
use Rattle.std.specs.Ordering.{eq_by_cmp}
use Rattle.std.specs.FinMap.{FinMap, insert, remove}
use Rattle.fx_store.specs.declared.node.Node.{Node}
use Rattle.fx_store.specs.declared.node.Node.TheVariants.{File, Dir, Link}
use Rattle.fx_store.specs.declared.changes.Change.{Change}
use Rattle.fx_store.specs.declared.limits.TheConstants.{MAX_PATH_NAMES}
use Rattle.fx_store.specs.Names.{path_cmp, IsPath, IsContent, IsNameSet, IsLinkText, has}

-- what stands at each path, as rules read it
abbrev pub Store : Type 0
Store = List (List ℕ) → Option Node

-- a filestore as data
abbrev pub Nodes : Type 0
Nodes = FinMap path_cmp Node

-- whether it is a directory that lists the name
abbrev pub lists : Option Node → List ℕ → Bool
lists (Some (Dir names)) name = has names name
lists _ name = false

-- the node is within its limits at the path; a directory at a path of 64 names lists none
abbrev pub IsNode : List (List ℕ) → Node → Type 0
IsNode path (File bytes exec) = IsContent bytes
IsNode path (Dir names) = IsNameSet names × (length path ≡ MAX_PATH_NAMES → names ≡ [])
IsNode path (Link text) = IsLinkText text

-- the root is a directory, and a longer path is mapped exactly where its parent lists its last name
pub record IsWhole (S : Store) : Type 0 where
  pub root : (names : List (List ℕ)) × (S [] ≡ Some (Dir names))
  pub listed : (path : List (List ℕ)) (name : List ℕ) → is_some (S (path ++ name ∷ [])) ≡ lists (S path) name
  pub paths : (path : List (List ℕ)) → IsSome (S path) → IsPath path
  pub nodes : (path : List (List ℕ)) → IfSome (S path) (IsNode path)

-- one change: what stands at its path is set, or nothing stands there
abbrev pub update : Store → Change → Store
update S c path = cond (eq_by_cmp path_cmp path c.path) c.node (S path)

-- the filestore with the changes on top, of which a later one wins
abbrev pub over : Store → List Change → Store
over S [] = S
over S (c ∷ cs) = over (update S c) cs

-- the same of data
abbrev pub set_node : Nodes → List (List ℕ) → Option Node → Nodes
set_node m path None = remove m path
set_node m path (Some node) = insert m path node

abbrev pub over_nodes : Nodes → List Change → Nodes
over_nodes m [] = m
over_nodes m (c ∷ cs) = over_nodes (set_node m c.path c.node) cs
