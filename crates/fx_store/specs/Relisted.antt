-- A directory that lists other names: new entries are nodes that list nothing, and dropped ones go with all below them.
use Rattle.std.specs.Prelude.{◌≡◌, ℕ, true, false, cond, List, [], ◌∷◌, length, Option, Some, None}
use Rattle.fx_store.specs.declared.node.Node.{Node}
use Rattle.fx_store.specs.declared.node.Node.TheVariants.{Dir}
use Rattle.fx_store.specs.declared.limits.TheConstants.{MAX_PATH_NAMES}
use Rattle.fx_store.specs.Names.{IsNameSet, has, rest_of}
use Rattle.fx_store.specs.Whole.{Store, IsWhole, IsNode, lists}
use Rattle.fx_store.specs.Resolve.{◌/ₚ◌}

-- a fresh entry is there, and nothing below it
abbrev pub fresh_at : Node → List (List ℕ) → Option Node
fresh_at node [] = Some node
fresh_at node (m ∷ rest) = None

abbrev pub relist_at : Store → List (List ℕ) → List (List ℕ) → (List ℕ → Node) → List (List ℕ) → Option (List (List ℕ)) → Option Node
relist_at S old new fresh r None = S r
relist_at S old new fresh r (Some []) = Some (Dir new)
relist_at S old new fresh r (Some (n ∷ rest)) = cond (has new n) (cond (has old n) (S r) (fresh_at (fresh n) rest)) None

-- the filestore in which the directory at `q` lists the new names in place of the old ones
abbrev pub relisted : Store → List (List ℕ) → List (List ℕ) → List (List ℕ) → (List ℕ → Node) → Store
relisted S q old new fresh r = relist_at S old new fresh r (rest_of q r)

-- a node that lists no names, and is within its limits at the path
pub record IsLeaf (path : List (List ℕ)) (node : Node) : Type 0 where
  pub childless : (n : List ℕ) → lists (Some node) n ≡ false
  pub limits : IsNode path node

-- the new names are in order, and each new entry is within its limits
pub record CanRelist (S : Store) (q old new : List (List ℕ)) (fresh : List ℕ → Node) : Type 0 where
  pub whole : IsWhole S
  pub dir : S q ≡ Some (Dir old)
  pub names : IsNameSet new
  pub room : length q ≡ MAX_PATH_NAMES → new ≡ []
  pub leaves : (n : List ℕ) → has new n ≡ true → IsLeaf (q /ₚ n) (fresh n)

abbrev pub RelistingKeepsWhole : Type 0
RelistingKeepsWhole =
    (S : Store) (q old new : List (List ℕ)) (fresh : List ℕ → Node) → CanRelist S q old new fresh → IsWhole (relisted S q old new fresh)
