-- Histories: what one begins with, and how many of its entries carry a number.
use Rattle.std.specs.Prelude.{◌≡◌, ℕ, List, ◌++◌, length, ◌==◌, nat_lt, if◌then◌else◌, Option, Some, None}
use Rattle.std.specs.List.{count_by}

module _ {I : Type 0} where
  -- ys begins with xs
  pub record Begins (xs ys : List I) : Type 0 where
    pub rest : List I
    pub whole : ys ≡ xs ++ rest

  abbrev pub longer : List I → List I → List I
  longer xs ys = if nat_lt (length xs) (length ys) then ys else xs

  -- how many entries carry the number
  abbrev pub count : (I → ℕ) → ℕ → List I → ℕ
  count shell n xs = count_by (λ x. shell x == n) xs

  -- how many entries carry a seat's number; the maker's seat has none
  abbrev pub own : (I → ℕ) → Option ℕ → List I → ℕ
  own shell None xs = 0
  own shell (Some n) xs = count shell n xs
