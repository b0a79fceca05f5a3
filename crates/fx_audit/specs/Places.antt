-- The table of places: for each shell, the entries of an order that are its transactions.
use Rattle.std.specs.Prelude.{◌≡◌, ℕ, Bool, true, false, List, [], ◌∷◌, ◌++◌, length, slice_get, slice_index_or, Some}
use Rattle.fx_spec.specs.Plans.{Turn}
use Rattle.fx_spec.specs.Order.{BaseTree, IsLegal}
use Rattle.fx_machine.specs.Machine.{next_number}
use Rattle.fx_audit.specs.Legal.{IsNextIn}

abbrev pub places_of : List (List ℕ) → ℕ → List ℕ
places_of table shell = slice_index_or table shell []

-- a shell's transactions stand at these places of the order, from the first on, and at no others
pub record AreShellPlaces (o : List Turn) (shell : ℕ) (places : List ℕ) : Type 0 where
  pub count : length places ≡ next_number o shell
  pub stand : (txn place : ℕ) → slice_get places txn ≡ Some place → slice_get o place ≡ Some (shell, txn)
  pub all : (txn place : ℕ) → slice_get o place ≡ Some (shell, txn) → slice_get places txn ≡ Some place

pub record ArePlaces (base : BaseTree) (o : List Turn) (table : List (List ℕ)) : Type 0 where
  pub shells : length table ≡ length base.plan
  pub legal : IsLegal base o
  pub each : (shell : ℕ) → AreShellPlaces o shell (places_of table shell)

-- with the transaction the table has one place more, where it is such a one; otherwise it is none
abbrev pub AddsNext : BaseTree → List Turn → Turn → List (List ℕ) → Bool → Type 0
AddsNext base o turn table true = ArePlaces base (o ++ turn ∷ []) table
AddsNext base o turn table false = IsNextIn base o turn → ⊥
