-- Own changes: what an attempt has set at a path, and what is left of them against what was read.
use Rattle.std.specs.Prelude.{◌≡◌, ◌≢◌, ℕ, cond, List, [], ◌∷◌, Option, Some, None, IsSome}
use Rattle.std.specs.List.{IsDistinct}
use Rattle.std.specs.Map.{keys_of}
use Rattle.std.specs.Ordering.{eq_by_cmp}
use Rattle.fx_store.specs.declared.node.Node.{Node}
use Rattle.fx_store.specs.declared.changes.Change.{Change}
use Rattle.fx_store.specs.Changes.{change_at}
use Rattle.fx_store.specs.Names.{path_cmp}
use Rattle.fx_store.specs.Rule.{Known}
use Rattle.fx_view.specs.OwnList.{OwnList}
use Rattle.fx_view.specs.ReadList.{ReadList}
use Rattle.fx_view.specs.Reads.{known_of, IsRead}

-- each path once
abbrev pub IsOwn : OwnList → Type 0
IsOwn own = IsDistinct (eq_by_cmp path_cmp) (keys_of own)

-- the own change of the path, if there is one
abbrev pub own_at : OwnList → Known
own_at [] path = None
own_at (e ∷ es) path = cond (eq_by_cmp path_cmp path e.0) (Some e.1) (own_at es path)

-- the path has this node from now on, or none: in place of an earlier own change, else at the end
abbrev pub put_own : OwnList → List (List ℕ) → Option Node → OwnList
put_own [] path node = (path, node) ∷ []
put_own (e ∷ es) path node = cond (eq_by_cmp path_cmp path e.0) ((e.0, node) ∷ es) (e ∷ put_own es path node)

-- no own changes at all
abbrev pub no_own : Known
no_own = own_at []

-- the changes set in order
abbrev pub put_all : OwnList → List Change → OwnList
put_all own [] = own
put_all own (c ∷ cs) = put_all (put_own own c.path c.node) cs

-- each changed path was read
abbrev pub AreRead : OwnList → ReadList → Type 0
AreRead own reads = (path : List (List ℕ)) → IsSome (own_at own path) → IsRead reads path

-- the one has the same own changes as the other wherever something was read
abbrev pub SameOver : ReadList → Known → Known → Type 0
SameOver reads own now = (path : List (List ℕ)) → IsSome (known_of reads path) → own path ≡ now path

-- the changes are the own ones whose node differs from the one read
pub record IsNet (own : OwnList) (reads : ReadList) (changes : List Change) : Type 0 where
  pub sets : (path : List (List ℕ)) (node : Option Node) → change_at changes path ≡ Some node
      → (own_at own path ≡ Some node) × ((was : Option Node) × (known_of reads path ≡ Some was) × (node ≢ was))
  pub keeps : (path : List (List ℕ)) (node was : Option Node) → own_at own path ≡ Some node → known_of reads path ≡ Some was → node ≢ was → change_at changes path ≡ Some node
