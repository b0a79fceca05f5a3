-- The least text above another, and the greatest below it, at their places.
use Rattle.std.proofs.Common.{◌≡◌, ℕ, zero, suc, ◌+◌, ◌<◌, ◌≤◌, true, false, cond, List, [], ◌∷◌, length, slice_get, get_or, Some, None, refl, ap, sym, ◌∙◌, inl, inr, arith}
use Rattle.std.specs.declared.cmp.Ordering.TheVariants.{Less, Equal, Greater}
use Rattle.std.specs.Ordering.{is_lt, nat_cmp, ordering_reverse}
use Rattle.std.specs.Cmp.Lexicographic.{slice_cmp, nat_list_cmp_total}
use Rattle.std.specs.List.{HoldsAt}
use Rattle.std.specs.List.Sorted.{IsPartitionPoint}
use Rattle.std.proofs.lemmas.Bool.{cases_lt}
use Rattle.std.proofs.lemmas.Map.Keys.{Less-from_sorted}
use Rattle.std.proofs.lemmas.Map.Lookups.{exact_bytes}
use Rattle.std.proofs.lemmas.Option.{slice_get-get_or}
use Rattle.std.specs.Option.{option_or}
use Rattle.fx_text.specs.Sets.{IsAscending, least_above, greatest_below, item_before}

reversed : (x y : List ℕ) → slice_cmp nat_cmp x y ≡ ordering_reverse (slice_cmp nat_cmp y x)
reversed x y = nat_list_cmp_total.antisymm x y

above_at : (t : List ℕ) (xs : List (List ℕ)) (k : ℕ) → ((j : ℕ) (d : List ℕ) → j < k → j < length xs → is_lt (slice_cmp nat_cmp t (get_or xs j d)) ≡ false)
    → ((d : List ℕ) → k < length xs → is_lt (slice_cmp nat_cmp t (get_or xs k d)) ≡ true) → least_above t xs ≡ slice_get xs k
above_at t [] zero low high = refl
above_at t [] (suc k) low high = refl
above_at t (u ∷ us) zero low high = ap (λ b. cond b (Some u) (least_above t us)) (high u (omega arith))
above_at t (u ∷ us) (suc k) low high =
    ap (λ b. cond b (Some u) (least_above t us)) (low 0 u (omega arith) (omega arith))
    ∙ above_at t us k (λ j d lt within. low (suc j) d (omega arith) (omega arith)) (λ d within. high d (omega arith))

later_here : (u : List ℕ) (us : List (List ℕ)) (k : ℕ) → k ≤ length us → option_or (item_before k us) (Some u) ≡ slice_get (u ∷ us) k
later_here u us zero within = refl
later_here u us (suc k) within = ap (λ o. option_or o (Some u)) (slice_get-get_or us k u (omega arith)) ∙ sym (slice_get-get_or us k u (omega arith))

below_at : (t : List ℕ) (xs : List (List ℕ)) (k : ℕ) → k ≤ length xs → ((j : ℕ) (d : List ℕ) → j < k → is_lt (slice_cmp nat_cmp (get_or xs j d) t) ≡ true)
    → ((j : ℕ) (d : List ℕ) → k ≤ j → j < length xs → is_lt (slice_cmp nat_cmp (get_or xs j d) t) ≡ false) → greatest_below t xs ≡ item_before k xs
below_at t [] zero within low high = refl
below_at t [] (suc k) within low high = absurd (omega arith)
below_at t (u ∷ us) zero within low high =
    ap (λ b. option_or (greatest_below t us) (cond b (Some u) None)) (high 0 u (omega arith) (omega arith))
    ∙ ap (λ o. option_or o None) (below_at t us zero (omega arith) (λ j d lt. absurd (omega arith)) (λ j d le within. high (suc j) d (omega arith) (omega arith)))
below_at t (u ∷ us) (suc k) within low high =
    ap (λ b. option_or (greatest_below t us) (cond b (Some u) None)) (low 0 u (omega arith))
    ∙ ap (λ o. option_or o (Some u)) (below_at t us k (omega arith) (λ j d lt. low (suc j) d (omega arith)) (λ j d le lt. high (suc j) d (omega arith) (omega arith)))
    ∙ later_here u us k (omega arith)

-- ---- where a search has found the text

module _ (t : List ℕ) (xs : List (List ℕ)) (i : ℕ) (up : IsAscending xs) (within : i < length xs) (here : HoldsAt (λ y. slice_cmp nat_cmp y t ≡ Equal) xs i) where
  rest_below : (j : ℕ) (d : List ℕ) → j < i → slice_cmp nat_cmp (get_or xs j d) t ≡ Less
  rest_below j d lt = ap (λ u. slice_cmp nat_cmp (get_or xs j d) u) (sym (exact_bytes (get_or xs i d) t (here d))) ∙ Less-from_sorted (slice_cmp nat_cmp) xs j i d up lt within

  rest_above : (j : ℕ) (d : List ℕ) → i < j → j < length xs → slice_cmp nat_cmp t (get_or xs j d) ≡ Less
  rest_above j d lt high = ap (λ u. slice_cmp nat_cmp u (get_or xs j d)) (sym (exact_bytes (get_or xs i d) t (here d))) ∙ Less-from_sorted (slice_cmp nat_cmp) xs i j d up lt high

  pub above_found : least_above t xs ≡ slice_get xs (i + 1)
  above_found = above_at t xs (i + 1)
      (λ j d lt high. elim (cases_lt j i) [
        | inl h ↦ ap is_lt (reversed t (get_or xs j d) ∙ ap ordering_reverse (rest_below j d h))
        | inr h ↦ let e : j ≡ i = omega arith in ap (λ k. is_lt (slice_cmp nat_cmp t (get_or xs k d))) e ∙ ap is_lt (reversed t (get_or xs i d) ∙ ap ordering_reverse (here d))
      ])
      (λ d high. ap is_lt (rest_above (i + 1) d (omega arith) high))

  pub below_found : greatest_below t xs ≡ item_before i xs
  below_found = below_at t xs i (omega arith)
      (λ j d lt. ap is_lt (rest_below j d lt))
      (λ j d le high. elim (cases_lt i j) [
        | inl h ↦ ap is_lt (reversed (get_or xs j d) t ∙ ap ordering_reverse (rest_above j d h high))
        | inr h ↦ let e : j ≡ i = omega arith in ap (λ k. is_lt (slice_cmp nat_cmp (get_or xs k d) t)) e ∙ ap is_lt (here d)
      ])

-- ---- where it has not

module _ (t : List ℕ) (xs : List (List ℕ)) (i : ℕ) (within : i ≤ length xs) (gap : IsPartitionPoint (λ y. slice_cmp nat_cmp y t ≡ Less) (λ y. slice_cmp nat_cmp y t ≡ Greater) xs i) where
  pub above_gap : least_above t xs ≡ slice_get xs i
  above_gap = above_at t xs i
      (λ j d lt high. ap is_lt (reversed t (get_or xs j d) ∙ ap ordering_reverse (gap.0 j d (omega arith) lt)))
      (λ d high. ap is_lt (reversed t (get_or xs i d) ∙ ap ordering_reverse (gap.1 i d (omega arith) high)))

  pub below_gap : greatest_below t xs ≡ item_before i xs
  below_gap = below_at t xs i within
      (λ j d lt. ap is_lt (gap.0 j d (omega arith) lt))
      (λ j d le high. ap is_lt (gap.1 j d le high))
