-- Steps among the elements of a set: to the next greater one, and back.
use Rattle.std.specs.Prelude.{◌≡◌, ℕ, zero, suc, true, List, Option, Some, slice_get}
use Rattle.std.specs.Option.{option_and_then}
use Rattle.fx_expr.specs.Sets.{IsAscending, has_text, least, least_above, greatest_below}

-- in an ascending set the greatest element below the least one above an element is that element
abbrev pub AboveThenBelow : Type 0
AboveThenBelow = (ts : List (List ℕ)) (t u : List ℕ) → IsAscending ts → has_text t ts ≡ true → least_above t ts ≡ Some u → greatest_below u ts ≡ Some t

-- and so is the least one above the greatest one below it
abbrev pub BelowThenAbove : Type 0
BelowThenAbove = (ts : List (List ℕ)) (t u : List ℕ) → IsAscending ts → has_text t ts ≡ true → greatest_below t ts ≡ Some u → least_above u ts ≡ Some t

-- the least element, and then so many steps to the least one above
abbrev pub steps_up : List (List ℕ) → ℕ → Option (List ℕ)
steps_up ts zero = least ts
steps_up ts (suc n) = option_and_then (λ t. least_above t ts) (steps_up ts n)

-- in an ascending set so many steps lead to the element at that place, and behind the last one to none
abbrev pub StepsReachEach : Type 0
StepsReachEach = (ts : List (List ℕ)) → IsAscending ts → (n : ℕ) → steps_up ts n ≡ slice_get ts n
