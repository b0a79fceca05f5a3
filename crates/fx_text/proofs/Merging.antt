-- What is left of two sets without their least text.
use Rattle.std.proofs.Common.{◌≡◌, ℕ, Bool, true, false, ◌||◌, List, [], ◌∷◌, ◌++◌, nat_eq, refl, ap, sym, ◌∙◌, subst, arith}
use Rattle.std.specs.declared.cmp.Ordering.TheVariants.{Less, Equal, Greater}
use Rattle.std.specs.Ordering.{nat_cmp, match_ordering}
use Rattle.std.specs.Cmp.Lexicographic.{pointwise, slice_cmp}
use Rattle.std.specs.List.{AllByRecursion}
use Rattle.std.specs.List.Sorted.{IsStrictlySortedBy}
use Rattle.std.proofs.lemmas.List.Folds.{list_any-append}
use Rattle.std.proofs.lemmas.Map.Lookups.{exact_bytes}
use Rattle.fx_text.specs.Merges.{IsLeastOf}
use Rattle.fx_text.specs.Sets.{IsAscending, has_text, with_text, set_of}
use Rattle.fx_base.proofs.Placing.{flipped, all_below, all_with}
use Rattle.fx_text.proofs.Canon.{ascending_set, has_set, same_sets}

abbrev AllAbove : List ℕ → List (List ℕ) → Type 0
AllAbove x xs = AllByRecursion (λ z. slice_cmp nat_cmp x z ≡ Less) xs

all_append : (x : List ℕ) (xs ys : List (List ℕ)) → AllAbove x xs → AllAbove x ys → AllAbove x (xs ++ ys)
all_append x [] ys a b = b
all_append x (y ∷ xs) ys a b = (a.0, all_append x xs ys a.1 b)

all_set : (x : List ℕ) (xs : List (List ℕ)) → AllAbove x xs → AllAbove x (set_of xs)
all_set x [] a = tt
all_set x (y ∷ xs) a = all_with (λ z. slice_cmp nat_cmp x z ≡ Less) y (set_of xs) a.0 (all_set x xs a.1)

with_least : (x : List ℕ) (xs : List (List ℕ)) → AllAbove x xs → with_text x xs ≡ x ∷ xs
with_least x [] a = refl
with_least x (y ∷ ys) a = ap (λ o. match_ordering o (x ∷ y ∷ ys) (y ∷ ys) (y ∷ with_text x ys)) a.0

-- a text below all others is the set's first
set_least : (x : List ℕ) (xs : List (List ℕ)) → AllAbove x xs → set_of (x ∷ xs) ≡ x ∷ set_of xs
set_least x xs a = with_least x (set_of xs) (all_set x xs a)

-- the same texts have the same set
pub set_alike : (xs ys : List (List ℕ)) → ((z : List ℕ) → has_text z xs ≡ has_text z ys) → set_of xs ≡ set_of ys
set_alike xs ys h = same_sets (set_of xs) (set_of ys) (ascending_set xs) (ascending_set ys) (λ z. has_set z xs ∙ h z ∙ sym (has_set z ys))

pub has_append : (z : List ℕ) (xs ys : List (List ℕ)) → has_text z (xs ++ ys) ≡ (has_text z xs || has_text z ys)
has_append z xs ys = list_any-append (λ y. pointwise nat_eq y z) xs ys

pub moved : (a b c : Bool) → (a || (b || c)) ≡ (b || (a || c))
moved true true c = refl
moved true false c = refl
moved false b c = refl

once : (a b c : Bool) → (a || (b || (a || c))) ≡ (a || (b || c))
once true b c = refl
once false b c = refl

-- the first of the second list, moved to the front
set_moved : (xs : List (List ℕ)) (y : List ℕ) (ys : List (List ℕ)) → set_of (xs ++ y ∷ ys) ≡ set_of (y ∷ (xs ++ ys))
set_moved xs y ys = set_alike (xs ++ y ∷ ys) (y ∷ (xs ++ ys)) λ z.
    has_append z xs (y ∷ ys) ∙ moved (has_text z xs) (pointwise nat_eq y z) (has_text z ys) ∙ ap (λ b. pointwise nat_eq y z || b) (sym (has_append z xs ys))

-- the first of both lists counts once
set_once : (x : List ℕ) (xs ys : List (List ℕ)) → set_of (x ∷ (xs ++ x ∷ ys)) ≡ set_of (x ∷ (xs ++ ys))
set_once x xs ys = set_alike (x ∷ (xs ++ x ∷ ys)) (x ∷ (xs ++ ys)) λ z.
    ap (λ b. pointwise nat_eq x z || b) (has_append z xs (x ∷ ys))
    ∙ once (pointwise nat_eq x z) (has_text z xs) (has_text z ys)
    ∙ ap (λ b. pointwise nat_eq x z || b) (sym (has_append z xs ys))

-- ---- the five ways that a merge goes on

pub least_of_second : (t : List ℕ) (d : List (List ℕ)) → IsAscending (t ∷ d) → IsLeastOf [] (t ∷ d) t [] d
unfolding IsStrictlySortedBy
least_of_second t d up = record { whole = set_least t d up.0; first = tt; second = up.1; smaller = omega arith }

pub least_of_first : (s : List ℕ) (c : List (List ℕ)) → IsAscending (s ∷ c) → IsLeastOf (s ∷ c) [] s c []
unfolding IsStrictlySortedBy
least_of_first s c up = record { whole = set_least s (c ++ []) (all_append s c [] up.0 tt); first = up.1; second = tt; smaller = omega arith }

pub least_less : (s t : List ℕ) (c d : List (List ℕ)) → IsAscending (s ∷ c) → IsAscending (t ∷ d) → slice_cmp nat_cmp s t ≡ Less → IsLeastOf (s ∷ c) (t ∷ d) s c (t ∷ d)
unfolding IsStrictlySortedBy
least_less s t c d up vp e = record {
  whole = set_least s (c ++ t ∷ d) (all_append s c (t ∷ d) up.0 (e, all_below s t d e vp.0));
  first = up.1;
  second = vp;
  smaller = omega arith;
}

pub least_greater : (s t : List ℕ) (c d : List (List ℕ)) → IsAscending (s ∷ c) → IsAscending (t ∷ d) → slice_cmp nat_cmp s t ≡ Greater → IsLeastOf (s ∷ c) (t ∷ d) t (s ∷ c) d
unfolding IsStrictlySortedBy
least_greater s t c d up vp e =
    let f = flipped s t e in
    record {
      whole = set_moved (s ∷ c) t d ∙ set_least t ((s ∷ c) ++ d) (all_append t (s ∷ c) d (f, all_below t s c f up.0) vp.0);
      first = up;
      second = vp.1;
      smaller = omega arith;
    }

pub least_equal : (s t : List ℕ) (c d : List (List ℕ)) → IsAscending (s ∷ c) → IsAscending (t ∷ d) → slice_cmp nat_cmp s t ≡ Equal → IsLeastOf (s ∷ c) (t ∷ d) s c d
unfolding IsStrictlySortedBy
least_equal s t c d up vp e =
    let same : t ≡ s = sym (exact_bytes s t e) in
    let above : AllAbove s d = subst (λ (u : List ℕ). AllAbove u d) same vp.0 in
    record {
      whole = ap (λ u. set_of ((s ∷ c) ++ u ∷ d)) same ∙ set_once s c d ∙ set_least s (c ++ d) (all_append s c d up.0 above);
      first = up.1;
      second = vp.1;
      smaller = omega arith;
    }

-- ---- the same where the lists are known by an equation

pub split_second : (a b : List (List ℕ)) (t : List ℕ) (d : List (List ℕ)) → IsAscending b → a ≡ [] → b ≡ t ∷ d → IsLeastOf a b t a d
split_second a b t d vp none e =
    subst (λ (x : List (List ℕ)). IsLeastOf x b t x d) (sym none)
    (subst (λ (y : List (List ℕ)). IsLeastOf [] y t [] d) (sym e) (least_of_second t d (subst (λ (y : List (List ℕ)). IsAscending y) e vp)))

pub split_first : (a b : List (List ℕ)) (s : List ℕ) (c : List (List ℕ)) → IsAscending a → a ≡ s ∷ c → b ≡ [] → IsLeastOf a b s c b
split_first a b s c up e none =
    subst (λ (y : List (List ℕ)). IsLeastOf a y s c y) (sym none)
    (subst (λ (x : List (List ℕ)). IsLeastOf x [] s c []) (sym e) (least_of_first s c (subst (λ (x : List (List ℕ)). IsAscending x) e up)))

module _ (a b : List (List ℕ)) (s t : List ℕ) (c d : List (List ℕ)) (up : IsAscending a) (vp : IsAscending b) (e : a ≡ s ∷ c) (f : b ≡ t ∷ d) where
  ups : IsAscending (s ∷ c)
  ups = subst (λ (x : List (List ℕ)). IsAscending x) e up

  vps : IsAscending (t ∷ d)
  vps = subst (λ (x : List (List ℕ)). IsAscending x) f vp

  pub split_less : slice_cmp nat_cmp s t ≡ Less → IsLeastOf a b s c b
  split_less o =
      subst (λ (x : List (List ℕ)). IsLeastOf x b s c b) (sym e)
      (subst (λ (y : List (List ℕ)). IsLeastOf (s ∷ c) y s c y) (sym f) (least_less s t c d ups vps o))

  pub split_equal : slice_cmp nat_cmp s t ≡ Equal → IsLeastOf a b s c d
  split_equal o =
      subst (λ (x : List (List ℕ)). IsLeastOf x b s c d) (sym e)
      (subst (λ (y : List (List ℕ)). IsLeastOf (s ∷ c) y s c d) (sym f) (least_equal s t c d ups vps o))

  pub split_greater : slice_cmp nat_cmp s t ≡ Greater → IsLeastOf a b t a d
  split_greater o =
      subst (λ (x : List (List ℕ)). IsLeastOf x b t x d) (sym e)
      (subst (λ (y : List (List ℕ)). IsLeastOf (s ∷ c) y t (s ∷ c) d) (sym f) (least_greater s t c d ups vps o))
