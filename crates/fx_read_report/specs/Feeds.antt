-- Line feeds: bytes without one, and where the first line of bytes ends.
use Rattle.std.specs.Prelude.{◌≡◌, ℕ, ◌+◌, ◌<◌, List, ◌∷◌, ◌++◌, length, take, drop, Option, Some, None}
use Rattle.std.specs.List.{AllByRecursion}

-- no byte is a line feed
abbrev pub LacksFeed : List ℕ → Type 0
LacksFeed bytes = AllByRecursion (λ b. b ≡ 10 → ⊥) bytes

pub record IsFeedAt (bytes : List ℕ) (i : ℕ) : Type 0 where
  pub within : i < length bytes
  pub before : LacksFeed (take i bytes)
  pub parts : bytes ≡ take i bytes ++ 10 ∷ drop (i + 1) bytes

abbrev pub FindsFeed : List ℕ → Option ℕ → Type 0
FindsFeed bytes None = LacksFeed bytes
FindsFeed bytes (Some i) = IsFeedAt bytes i
