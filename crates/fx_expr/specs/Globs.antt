-- Globs, on bytes.
use Rattle.std.specs.Prelude.{ℕ, Bool, false, cond, ◌&&◌, ◌||◌, List, [], ◌∷◌, length, nat_eq}

-- some suffix of the text passes, the whole text and the empty one included
abbrev pub some_suffix : (List ℕ → Bool) → List ℕ → Bool
some_suffix test [] = test []
some_suffix test (b ∷ bytes) = test (b ∷ bytes) || some_suffix test bytes

-- the text is not empty, its first byte passes, and what follows passes
abbrev pub first_and_rest : (ℕ → Bool) → (List ℕ → Bool) → List ℕ → Bool
first_and_rest first rest [] = false
first_and_rest first rest (b ∷ bytes) = first b && rest bytes

-- `*` (42) stands for any bytes, `?` (63) for any one byte, and each other byte for itself
abbrev pub glob_matches : List ℕ → List ℕ → Bool
glob_matches [] text = nat_eq (length text) 0
glob_matches (g ∷ glob) text =
    cond (nat_eq g 42) (some_suffix (glob_matches glob) text)
    (first_and_rest (λ b. nat_eq g 63 || nat_eq g b) (glob_matches glob) text)
