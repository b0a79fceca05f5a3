-- What a reader takes besides the form: which texts, which lists of texts as sets, and which texts as paths.
use Rattle.std.specs.Prelude.{ℕ, ◌&&◌, Bool, true, List, [], ◌∷◌, length, nat_le, Option, Some, None, Result, Ok, Err}
use Rattle.std.specs.Cmp.Lexicographic.{slice_cmp}
use Rattle.std.specs.Ordering.{is_lt, nat_cmp}
use Rattle.fx_store.specs.Faults.{read_path}
use Rattle.fx_store.specs.declared.name.PathFault.{PathFault}

pub record Limits : Type 0 where
  pub takes_text : List ℕ → Bool
  pub takes_set : List (List ℕ) → Bool
  pub path_of : List ℕ → Option (List (List ℕ))

-- whether each text is below the next
abbrev pub ascends : List (List ℕ) → Bool
ascends [] = true
ascends (t ∷ []) = true
ascends (t ∷ u ∷ rest) = is_lt (slice_cmp nat_cmp t u) && ascends (u ∷ rest)

abbrev pub path_or_none : Result (List (List ℕ)) PathFault → Option (List (List ℕ))
path_or_none (Ok path) = Some path
path_or_none (Err f) = None

-- what a report may tell: texts of at most 1,048,576 bytes, sets in ascending order, paths
abbrev pub strict : Limits
strict = record { takes_text = λ text. nat_le (length text) 1048576; takes_set = ascends; path_of = λ text. path_or_none (read_path text) }
