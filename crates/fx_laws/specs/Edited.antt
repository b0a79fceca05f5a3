-- What edits leave of a filestore, in words of the filestore alone.
use Rattle.std.specs.Prelude.{◌≡◌, ◌≢◌, ℕ, true, false, List, [], ◌∷◌, ◌++◌, Some, None, Ok}
use Rattle.fx_store.specs.declared.node.Node.{Node}
use Rattle.fx_store.specs.declared.node.Node.TheVariants.{File, Dir}
use Rattle.fx_expr.specs.Sets.{with_text}
use Rattle.fx_store.specs.declared.node.Landing.TheVariants.{At, Absent}
use Rattle.fx_store.specs.declared.changes.Change.{Change}
use Rattle.fx_store.specs.Names.{IsNameSet, has}
use Rattle.fx_store.specs.Resolve.{lands, parent, ◌/ₚ◌}
use Rattle.fx_store.specs.Rule.{answer}
use Rattle.fx_store.specs.Whole.{Store, IsWhole, over}
use Rattle.fx_expr.specs.Tree.{Tree}
use Rattle.fx_spec.specs.Edit.{stored_node, follows_last, bare_node, last_name, store_at, create_at, remove_at}
use Rattle.fx_spec.specs.Place.{PlaceTree}
use Rattle.fx_base.specs.Sets.{without_name}

-- the path is this one, or is below it
abbrev pub IsWithin : List (List ℕ) → List (List ℕ) → Type 0
IsWithin q r = (rest : List (List ℕ)) × (r ≡ q ++ rest)

-- the second filestore is the first without the entry at a path: it is gone with all below, the directory above lists its
-- other names, and any other path keeps its node
pub record IsWithout (S T : Store) (q : List (List ℕ)) : Type 0 where
  pub gone : (rest : List (List ℕ)) → T (q ++ rest) ≡ None
  pub above : (names : List (List ℕ)) → S (parent q) ≡ Some (Dir names) → T (parent q) ≡ Some (Dir (without_name (last_name q) names))
  pub others : (r : List (List ℕ)) → r ≢ parent q → (IsWithin q r → ⊥) → T r ≡ S r

-- the second filestore is the first with a directory that lists the new names, in ascending order, in place of the old: each
-- name that is new is an empty file, each that is dropped is gone with all below, each that stays keeps all below, and any
-- other path keeps its node
pub record IsRelisted (S T : Store) (q old new : List (List ℕ)) : Type 0 where
  pub ascending : IsNameSet new
  pub lists : T q ≡ Some (Dir new)
  pub added : (n : List ℕ) → has new n ≡ true → has old n ≡ false → T (q /ₚ n) ≡ Some (File [] false)
  pub dropped : (n : List ℕ) (rest : List (List ℕ)) → has new n ≡ false → T (q ++ n ∷ rest) ≡ None
  pub stays : (n : List ℕ) (rest : List (List ℕ)) → has new n ≡ true → has old n ≡ true → T (q ++ n ∷ rest) ≡ S (q ++ n ∷ rest)
  pub others : (r : List (List ℕ)) → (IsWithin q r → ⊥) → T r ≡ S r

-- a removal that is not refused leaves a whole filestore without the entry where the place's own path lands
abbrev pub RemovalsRemove : Type 0
RemovalsRemove =
    (S : Store) → IsWhole S → (at : PlaceTree) (changes : List Change) → answer S (remove_at at) ≡ Ok changes → (q : List (List ℕ)) × ((lands S at.path false ≡ At q) × IsWithout S (over S changes) q)

-- a store of names that is not refused leaves a whole filestore relisted at the directory where the place's path lands
abbrev pub StoresRelist : Type 0
StoresRelist =
    (S : Store) → IsWhole S → (at : PlaceTree) (v : Tree) (new q : List (List ℕ)) → stored_node at.spec v ≡ Ok (Dir new) → lands S at.path true ≡ At q → (changes : List Change) → answer S (store_at v at) ≡ Ok changes
    → (old : List (List ℕ)) × ((S q ≡ Some (Dir old)) × IsRelisted S (over S changes) q old new)

-- the second filestore is the first with a node made at missing names of a directory: the node is there, the directory lists
-- the first of the names besides, and any path that is not within the first name keeps its node
pub record HasNodeMade (S T : Store) (here : List (List ℕ)) (n : List ℕ) (names : List (List ℕ)) (node : Node) : Type 0 where
  pub there : T (here ++ n ∷ names) ≡ Some node
  pub above : (old : List (List ℕ)) → S here ≡ Some (Dir old) → T here ≡ Some (Dir (with_text n old))
  pub others : (r : List (List ℕ)) → r ≢ here → (IsWithin (here /ₚ n) r → ⊥) → T r ≡ S r

-- so does a store of a node where its place's path lands at missing names, if it is not refused
abbrev pub StoresMake : Type 0
StoresMake =
    (S : Store) (at : PlaceTree) (v : Tree) (node : Node) (here : List (List ℕ)) (n : List ℕ) (names : List (List ℕ)) → stored_node at.spec v ≡ Ok node → lands S at.path (follows_last node) ≡ Absent here (n ∷ names)
    → (changes : List Change) → answer S (store_at v at) ≡ Ok changes → HasNodeMade S (over S changes) here n names node

-- and a creation, of the form's empty node
abbrev pub CreationsMake : Type 0
CreationsMake =
    (S : Store) (at : PlaceTree) (node : Node) (here : List (List ℕ)) (n : List ℕ) (names : List (List ℕ)) → bare_node at.spec ≡ Some node → lands S at.path false ≡ Absent here (n ∷ names)
    → (changes : List Change) → answer S (create_at at) ≡ Ok changes → HasNodeMade S (over S changes) here n names node
