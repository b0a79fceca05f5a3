-- The place of a key in a short list, and the entries behind it.
use Rattle.std.specs.Prelude.{◌≡◌, ℕ, zero, suc, Bool, true, false, Box, List, [], ◌∷◌, Option, Some, None}
use Rattle.indexmap.specs.IndexMap.{IndexMap}

module _ {K X : Type 0} (is : K → Bool) where
  -- the entry at the place is the first whose key passes
  abbrev pub IsFirst : List (K × X) → ℕ → Type 0
  IsFirst [] i = ⊥
  IsFirst (e ∷ es) zero = is e.0 ≡ true
  IsFirst (e ∷ es) (suc i) = (is e.0 ≡ false) × IsFirst es i

-- the entries of a map that there may be
abbrev pub entries_in : {K X S A : Type 0} → Option (Box (IndexMap K X S) A) → List (K × X)
entries_in None = []
entries_in (Some map) = map.value.entries
