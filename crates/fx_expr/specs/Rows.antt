-- The rows of a table, as a list of texts with values.
use Rattle.std.specs.Prelude.{ℕ, List, map}

abbrev pub keys_of : {X : Type 0} → List (List ℕ × X) → List (List ℕ)
keys_of rows = map (λ r. r.0) rows

abbrev pub values_of : {X : Type 0} → List (List ℕ × X) → List X
values_of rows = map (λ r. r.1) rows
