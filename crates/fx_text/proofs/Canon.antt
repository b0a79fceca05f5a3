-- A strictly ascending list is the only one with its elements.
use Rattle.std.proofs.Common.{◌≡◌, ℕ, suc, Bool, true, false, ◌||◌, List, [], ◌∷◌, Some, nat_eq, refl, ap, sym, subst, ◌∙◌, arith}
use Rattle.std.specs.declared.cmp.Ordering.{Ordering}
use Rattle.std.specs.declared.cmp.Ordering.TheVariants.{Less, Equal, Greater}
use Rattle.std.specs.Ordering.{nat_cmp, match_ordering}
use Rattle.std.specs.Cmp.Lexicographic.{pointwise, slice_cmp, texts_ties, nat_list_cmp_total, nat_list_eq_equiv}
use Rattle.std.specs.List.{AllByRecursion, Contains, dedup}
use Rattle.std.specs.List.Sorted.{IsStrictlySortedBy, IsPermutation, IsSorted}
use Rattle.std.proofs.lemmas.List.Kept.{IsStrictlySortedBy-dedup, Contains-dedup, Contains-from_dedup}
use Rattle.std.proofs.lemmas.List.Sorted.{Contains-permutation, IsPermutation-sym}
use Rattle.std.proofs.lemmas.Map.Keys.{any_passes_from_place}
use Rattle.std.proofs.lemmas.Map.Lookups.{exact_bytes}
use Rattle.std.proofs.lemmas.Option.{slice_get-get_or}
use Rattle.fx_base.proofs.Placing.{flipped, flipped_less, all_below, ascending_with}
use Rattle.fx_base.proofs.Orders.{nat_list_exact, bytes_itself}
use Rattle.fx_base.proofs.Booleans.{same_test}
use Rattle.fx_text.specs.Sets.{IsAscending, has_text, with_text, set_of}
use Rattle.fx_text.proofs.Order.{other_greater}

pub ascending_set : (xs : List (List ℕ)) → IsAscending (set_of xs)
unfolding IsStrictlySortedBy
ascending_set [] = tt
ascending_set (x ∷ xs) = ascending_with x (set_of xs) (ascending_set xs)

again : (a b : Bool) → (a || b) ≡ (a || (a || b))
again true b = refl
again false b = refl

swapped : (a b c d : Bool) → d ≡ (b || c) → (a || d) ≡ (b || (a || c))
swapped true true c d e = refl
swapped true false c d e = refl
swapped false b c d e = e

has_placed : (z x y : List ℕ) (ys : List (List ℕ)) → has_text z (with_text x ys) ≡ (pointwise nat_eq x z || has_text z ys) → (o : Ordering) → slice_cmp nat_cmp x y ≡ o
    → has_text z (match_ordering o (x ∷ y ∷ ys) (y ∷ ys) (y ∷ with_text x ys)) ≡ (pointwise nat_eq x z || has_text z (y ∷ ys))
has_placed z x y ys more Less e = refl
has_placed z x y ys more Equal e =
    let same : x ≡ y = exact_bytes x y e in
    again (pointwise nat_eq y z) (has_text z ys) ∙ ap (λ t. pointwise nat_eq t z || has_text z (y ∷ ys)) (sym same)
has_placed z x y ys more Greater e = swapped (pointwise nat_eq y z) (pointwise nat_eq x z) (has_text z ys) _ more

pub has_with : (z x : List ℕ) (xs : List (List ℕ)) → has_text z (with_text x xs) ≡ (pointwise nat_eq x z || has_text z xs)
has_with z x [] = refl
has_with z x (y ∷ ys) = has_placed z x y ys (has_with z x ys) (slice_cmp nat_cmp x y) refl

pub has_set : (z : List ℕ) (xs : List (List ℕ)) → has_text z (set_of xs) ≡ has_text z xs
has_set z [] = refl
has_set z (x ∷ xs) = has_with z x (set_of xs) ∙ ap (λ b. pointwise nat_eq x z || b) (has_set z xs)

-- a text below all of these is none of them
none_above : (x : List ℕ) (ys : List (List ℕ)) → AllByRecursion (λ y. slice_cmp nat_cmp x y ≡ Less) ys → has_text x ys ≡ false
none_above x [] a = refl
none_above x (y ∷ ys) a = (λ i. other_greater y x (flipped_less x y a.0) i || has_text x ys) ∙ none_above x ys a.1

has_first : (x : List ℕ) (xs : List (List ℕ)) → has_text x (x ∷ xs) ≡ true
has_first x xs = ap (λ b. b || has_text x xs) (bytes_itself x)

first_differs : (x y : List ℕ) (ys : List (List ℕ)) → IsAscending (y ∷ ys) → slice_cmp nat_cmp x y ≡ Less → has_text x (y ∷ ys) ≡ false
unfolding IsStrictlySortedBy
first_differs x y ys up e = none_above x (y ∷ ys) (e, all_below x y ys e up.0)

rest_same : (x : List ℕ) (xs ys : List (List ℕ)) → IsAscending (x ∷ xs) → IsAscending (x ∷ ys) → ((z : List ℕ) → has_text z (x ∷ xs) ≡ has_text z (x ∷ ys)) → (z : List ℕ) → (b : Bool) → pointwise nat_eq x z ≡ b → has_text z xs ≡ has_text z ys
unfolding IsStrictlySortedBy
rest_same x xs ys up vp h z true e =
    let same : x ≡ z = nat_list_exact x z e in
    ap (λ t. has_text t xs) (sym same) ∙ none_above x xs up.0 ∙ sym (none_above x ys vp.0) ∙ ap (λ t. has_text t ys) same
rest_same x xs ys up vp h z false e = sym (ap (λ b. b || has_text z xs) e) ∙ h z ∙ ap (λ b. b || has_text z ys) e

pub same_sets : (xs ys : List (List ℕ)) → IsAscending xs → IsAscending ys → ((z : List ℕ) → has_text z xs ≡ has_text z ys) → xs ≡ ys
unfolding IsStrictlySortedBy
same_sets [] [] up vp h = refl
same_sets [] (y ∷ ys) up vp h = absurd (let e : false ≡ true = h y ∙ has_first y ys in cc)
same_sets (x ∷ xs) [] up vp h = absurd (let e : false ≡ true = sym (h x) ∙ has_first x xs in cc)
same_sets (x ∷ xs) (y ∷ ys) up vp h = by (slice_cmp nat_cmp x y) refl
    (λ e. same_sets xs ys up.1 vp.1 (λ z. rest_same x xs ys up (let P : List ℕ → Type 0 = λ t. IsAscending (t ∷ ys) in subst P (sym e) vp) (λ w. h w ∙ ap (λ t. has_text w (t ∷ ys)) (sym e)) z (pointwise nat_eq x z) refl))
  where
    by : (o : Ordering) → slice_cmp nat_cmp x y ≡ o → (x ≡ y → xs ≡ ys) → x ∷ xs ≡ y ∷ ys
    by Less e more = absurd (let f : true ≡ false = sym (has_first x xs) ∙ h x ∙ first_differs x y ys vp e in cc)
    by Equal e more = let same : x ≡ y = exact_bytes x y e in λ i. same i ∷ more same i
    by Greater e more = absurd (let f : true ≡ false = sym (has_first y ys) ∙ sym (h y) ∙ first_differs y x xs up (flipped x y e) in cc)

has_contains : (z : List ℕ) (xs : List (List ℕ)) → has_text z xs ≡ true → Contains xs z
has_contains z [] e = absurd (let f : false ≡ true = e in cc)
has_contains z (x ∷ xs) e = by (pointwise nat_eq x z) refl (has_contains z xs)
  where
    by : (b : Bool) → pointwise nat_eq x z ≡ b → (has_text z xs ≡ true → Contains xs z) → Contains (x ∷ xs) z
    by true f more = (0, omega arith, nat_list_exact x z f)
    by false f more = let c = more (sym (ap (λ b. b || has_text z xs) f) ∙ e) in (suc c.0, omega arith, c.2)

contains_has : (z : List ℕ) (xs : List (List ℕ)) → Contains xs z → has_text z xs ≡ true
contains_has z xs c = any_passes_from_place (λ y. pointwise nat_eq y z) xs c.0 z (slice_get-get_or xs c.0 z c.1 ∙ ap Some c.2) (bytes_itself z)

-- what a sort and a `dedup` make of some texts is their set
pub sorted_is_set : (xs ys zs : List (List ℕ)) → IsPermutation xs ys → IsSorted (slice_cmp nat_cmp) ys → zs ≡ dedup (pointwise nat_eq) ys → zs ≡ set_of xs
sorted_is_set xs ys zs moved up e =
    e ∙ same_sets (dedup (pointwise nat_eq) ys) (set_of xs) (IsStrictlySortedBy-dedup nat_list_cmp_total texts_ties ys up) (ascending_set xs)
    (λ z. same_test _ _
    (λ h. has_set z xs ∙ contains_has z xs (Contains-permutation ys xs z (IsPermutation-sym xs ys moved) (Contains-from_dedup (pointwise nat_eq) ys z (has_contains z _ h))))
    (λ h. contains_has z _ (Contains-dedup nat_list_eq_equiv nat_list_exact ys z (Contains-permutation xs ys z moved (has_contains z xs (sym (has_set z xs) ∙ h))))))
