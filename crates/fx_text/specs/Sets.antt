-- Sets of texts, as strictly ascending lists.
use Rattle.std.specs.Prelude.{◌≡◌, ℕ, zero, suc, ◌+◌, Bool, cond, not, List, [], ◌∷◌, Option, Some, None, length, slice_get, nat_eq}
use Rattle.std.specs.List.{filter, list_any, sum_by}
use Rattle.std.specs.List.Sorted.{IsStrictlySortedBy}
use Rattle.std.specs.Cmp.Lexicographic.{pointwise, slice_cmp}
use Rattle.std.specs.Option.{option_or}
use Rattle.std.specs.Ordering.{is_lt, nat_cmp}
pub use Rattle.fx_base.specs.Sets.{with_text}

-- each text is below all later ones, in the order of their bytes
abbrev pub IsAscending : List (List ℕ) → Type 0
IsAscending xs = IsStrictlySortedBy (slice_cmp nat_cmp) xs

-- whether the text is one of these
abbrev pub has_text : List ℕ → List (List ℕ) → Bool
has_text x xs = list_any (λ y. pointwise nat_eq y x) xs

-- the set of these texts, in any order and with repeats
abbrev pub set_of : List (List ℕ) → List (List ℕ)
set_of [] = []
set_of (x ∷ xs) = with_text x (set_of xs)

-- the texts of the first set that are not in the second
abbrev pub without : List (List ℕ) → List (List ℕ) → List (List ℕ)
without a b = filter (λ x. not (has_text x b)) a

-- the bytes of all elements, and one more for each
abbrev pub weight : List (List ℕ) → ℕ
weight xs = sum_by (λ x. length x + 1) xs

-- these texts ascend, and weigh so much
pub record IsWeighed (texts : List (List ℕ)) (bytes : ℕ) : Type 0 where
  pub ascending : IsAscending texts
  pub weighed : bytes ≡ weight texts

-- the least text of a set, the least above a text, and the greatest below it
abbrev pub least : List (List ℕ) → Option (List ℕ)
least [] = None
least (t ∷ ts) = Some t

abbrev pub least_above : List ℕ → List (List ℕ) → Option (List ℕ)
least_above t [] = None
least_above t (u ∷ us) = cond (is_lt (slice_cmp nat_cmp t u)) (Some u) (least_above t us)

-- the text just before a place
abbrev pub item_before : ℕ → List (List ℕ) → Option (List ℕ)
item_before zero ts = None
item_before (suc i) ts = slice_get ts i

abbrev pub greatest_below : List ℕ → List (List ℕ) → Option (List ℕ)
greatest_below t [] = None
greatest_below t (u ∷ us) = option_or (greatest_below t us) (cond (is_lt (slice_cmp nat_cmp u t)) (Some u) None)
