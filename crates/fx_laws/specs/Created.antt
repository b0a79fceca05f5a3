-- What is created is removed again.
use Rattle.std.specs.Prelude.{◌≡◌, ℕ, false, List, [], ◌∷◌, Ok}
use Rattle.fx_store.specs.declared.node.Landing.TheVariants.{Absent}
use Rattle.fx_store.specs.declared.changes.Change.{Change}
use Rattle.fx_store.specs.Names.{IsPath}
use Rattle.fx_store.specs.Resolve.{lands}
use Rattle.fx_store.specs.Rule.{answer}
use Rattle.fx_store.specs.Whole.{Store, IsWhole, over}
use Rattle.fx_spec.specs.Edit.{create_at, remove_at}
use Rattle.fx_spec.specs.Place.{PlaceTree}
use Rattle.fx_laws.specs.Stored.{Same}

-- the removal is not refused, and each path has then what it had at first
pub record IsRemovedAgain (S T : Store) (at : PlaceTree) : Type 0 where
  pub changes : List Change
  pub removes : answer T (remove_at at) ≡ Ok changes
  pub same : Same S (over T changes)

-- a creation of one node, with no directories above it, is undone by a removal
abbrev pub CreationsAreUndone : Type 0
CreationsAreUndone =
    (S : Store) → IsWhole S → (at : PlaceTree) → IsPath at.path → (here : List (List ℕ)) (n : List ℕ) → lands S at.path false ≡ Absent here (n ∷ []) → (changes : List Change) → answer S (create_at at) ≡ Ok changes
    → IsRemovedAgain S (over S changes) at
