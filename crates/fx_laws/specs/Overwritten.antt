-- A second store in place of the first.
use Rattle.std.specs.Prelude.{◌≡◌, ℕ, Bool, List, Ok}
use Rattle.fx_store.specs.declared.changes.Change.{Change}
use Rattle.fx_store.specs.Rule.{answer}
use Rattle.fx_store.specs.Whole.{Store, over}
use Rattle.fx_expr.specs.Tree.{Tree}
use Rattle.fx_spec.specs.Edit.{store_at}
use Rattle.fx_spec.specs.Place.{PlaceTree}
use Rattle.fx_laws.specs.Fetched.{IsFilePlace}
use Rattle.fx_laws.specs.Stored.{Same}

-- the store of the value by itself is not refused, and leaves this filestore
pub record LeavesAlone (S : Store) (at : PlaceTree) (v : Tree) (T : Store) : Type 0 where
  pub changes : List Change
  pub stores : answer S (store_at v at) ≡ Ok changes
  pub same : Same (over S changes) T

-- two stores at a place, one after the other, leave what the second one leaves by itself
abbrev pub Overwrites : Store → PlaceTree → Tree → Tree → Type 0
Overwrites S at v w =
    (first second : List Change) → answer S (store_at v at) ≡ Ok first → answer (over S first) (store_at w at) ≡ Ok second → LeavesAlone S at w (over (over S first) second)

-- so do two stores of bytes at a file that is there, and two of its flag
pub record FileStoresOverwrite : Type 0 where
  pub bytes : (S : Store) (at : PlaceTree) (q : List (List ℕ)) → IsFilePlace S at q → (v w : List ℕ) → Overwrites S at (Tree.str v) (Tree.str w)
  pub flag : (S : Store) (at : PlaceTree) (q : List (List ℕ)) → IsFilePlace S at q → (v w : Bool) → Overwrites S at (Tree.bool v) (Tree.bool w)
