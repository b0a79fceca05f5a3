-- A seat as the table knows it, before and after each call.
use Rattle.std.specs.Prelude.{◌≡◌, ℕ, List, [], ◌∷◌, ◌++◌, Bool, true, false, Option, Some, None, ◌⊎◌}
use Rattle.atomic_table.specs.Table.{Me}
use Rattle.atomic_table.specs.declared.shared.Seat.{Seat}
use Rattle.atomic_table.specs.Seated.{TableId}
use Rattle.fx_turn.specs.declared.view.View.{View}
use Rattle.fx_turn.specs.Views.{IsNumbered}

-- the one slot has a value
abbrev pub Holds : {K : Type 0} → List (Option K) → Type 0
Holds {K} slots = (k : K) × (slots ≡ Some k ∷ [])

-- a seat of this table, which has two words and one slot
abbrev pub IsPlaceOf : {S V : Type 0} → TableId → Seat S V → Type 0
IsPlaceOf z p = (p.table_id ≡ z) × (z.words ≡ 2) × (z.slots ≡ 1)

abbrev pub IsSamePlace : {S V : Type 0} → Seat S V → Seat S V → Type 0
IsSamePlace p q = (q.table_id ≡ p.table_id) × (q.id ≡ p.id)

-- the history that was taken, or that one with one more entry of the seat's number
abbrev pub IsGiven : {O I : Type 0} → (I → ℕ) → View O I → List I → Type 0
IsGiven {O} {I} shell v h = (h ≡ v.seen) ⊎ ((x : I) × (h ≡ v.seen ++ x ∷ []) × (v.number ≡ Some (shell x)))

-- the slots that are out with a seat: in its turn the one slot, out of which it has taken the value
abbrev pub slots_out : {K : Type 0} → Bool → List (ℕ × Option K)
slots_out true = (0, None) ∷ []
slots_out false = []

module _ {K O I : Type 0} where
  -- a split seat that is not in its turn
  pub record IsIdle (m : Me (Option K) (View O I)) : Type 0 where
    pub live : m.0.live ≡ true
    pub numbered : IsNumbered m.0
    pub idle : m.0.in_turn ≡ false
    pub none : m.1 ≡ []

  -- a seat in its turn that has taken the value out of the slot
  pub record IsOut (m : Me (Option K) (View O I)) : Type 0 where
    pub live : m.0.live ≡ true
    pub turn : m.0.in_turn ≡ true
    pub holds : m.1 ≡ (0, None) ∷ []
