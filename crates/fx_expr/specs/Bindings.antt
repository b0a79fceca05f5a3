-- Words bound to values or shapes, the newest last.
use Rattle.std.specs.Prelude.{◌≡◌, ℕ, suc, cond, List, [], ◌∷◌, ◌++◌, Option, Some, None, drop, slice_get, nat_eq}
use Rattle.std.specs.Cmp.Lexicographic.{pointwise}
use Rattle.std.specs.Option.{option_map, option_or}

-- what the newest binding of the word gives it
abbrev pub bound : {X : Type 0} → List (List ℕ × X) → List ℕ → Option X
bound [] word = None
bound (b ∷ newer) word = option_or (bound newer word) (cond (pointwise nat_eq b.0 word) (Some b.1) None)

-- the newest binding of the word stands at i
pub record IsNewest {X : Type 0} (bindings : List (List ℕ × X)) (word : List ℕ) (i : ℕ) : Type 0 where
  pub value : X
  pub here : slice_get bindings i ≡ Some (word, value)
  pub none_newer : bound (drop (suc i) bindings) word ≡ None

-- one more binding
abbrev pub bind : {X : Type 0} → List (List ℕ × X) → List ℕ → X → List (List ℕ × X)
bind bindings word x = bindings ++ (word, x) ∷ []

-- the bindings with a new value of the word's newest one, where it has one
abbrev pub assigned : {X : Type 0} → List ℕ → X → List (List ℕ × X) → Option (List (List ℕ × X))
assigned word x [] = None
assigned word x (b ∷ newer) =
    option_or (option_map (λ others. b ∷ others) (assigned word x newer)) (cond (pointwise nat_eq b.0 word) (Some ((word, x) ∷ newer)) None)
