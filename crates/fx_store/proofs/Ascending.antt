-- Lists in strictly ascending order: a key more, and what a search finds.
use Rattle.std.proofs.Common.{◌≡◌, ℕ, zero, suc, ◌+◌, ◌-◌, Bool, true, false, List, [], ◌∷◌, ◌++◌, length, Result, Ok, Err, is_ok, Some, None, slice_get, sym, refl, ap, ◌∙◌, inl, inr, arith}
use Rattle.std.specs.declared.cmp.Ordering.{Ordering}
use Rattle.std.specs.declared.cmp.Ordering.TheVariants.{Less, Equal, Greater}
use Rattle.std.specs.List.Sorted.{IsStrictlySortedBy, IsSearchInRange, IsBinarySearchResult}
use Rattle.std.specs.Ordering.{eq_by_cmp, is_eq, is_lt, ordering_reverse}
use Rattle.std.specs.Cmp.{IsTotalOrder, tied_back}
use Rattle.std.proofs.lemmas.Bool.{false≢true, cases_lt}
use Rattle.std.specs.Prelude.{◌↔◌}
use Rattle.std.proofs.lemmas.Option.{same_Some, none-some, slice_get_within, slice_get-get_or}
use Rattle.std.proofs.lemmas.List.Folds.{list_any_none, list_any_at}
use Rattle.fx_base.proofs.Placing.{rises}
use Rattle.fx_base.proofs.Orders.{is_less}
use Rattle.fx_base.proofs.Lists.{all_push, all_last}
use Rattle.fx_store.specs.Names.{is_in, is_above}

less_is : (r : Ordering) → r ≡ Less → is_lt r ≡ true
less_is r e = ap is_lt e

module _ {K : Type 0} {R : K → K → Ordering} (o : IsTotalOrder R) where
  -- one more key at the end, which is above the last
  pub ascending-push : (ks : List K) (k : K) → IsStrictlySortedBy R ks → is_above R ks k ≡ true → IsStrictlySortedBy R (ks ++ k ∷ [])
  unfolding IsStrictlySortedBy
  ascending-push [] k up above = (tt, tt)
  ascending-push (a ∷ []) k up above = ((is_less (R a k) above, tt), (tt, tt))
  ascending-push (a ∷ b ∷ ks) k up above =
      let rest = ascending-push (b ∷ ks) k up.1 above in
      let least = o.trans a b k up.0.0 (all_last (λ y. R b y ≡ Less) ks k rest.0) in
      ((up.0.0, all_push (λ y. R a y ≡ Less) ks k up.0.1 least), rest)

  apart : (r : Ordering) (x y : K) → R y x ≡ r → is_eq r ≡ false → eq_by_cmp R x y ≡ false
  apart Less x y e f = ap is_eq (o.antisymm x y ∙ ap ordering_reverse e)
  apart Equal x y e f = absurd (false≢true (sym f))
  apart Greater x y e f = ap is_eq (o.antisymm x y ∙ ap ordering_reverse e)

  -- a binary search finds exactly what is there
  pub searched : (ks : List K) (x : K) (r : Result ℕ ℕ) → IsStrictlySortedBy R ks → IsSearchInRange r (length ks) → IsBinarySearchResult (λ y. R y x) ks r → is_ok r ≡ is_in R ks x
  searched ks x (Ok i) up within at = sym (list_any_at (eq_by_cmp R x) ks i x within (ap is_eq (tied_back o _ x (at x))))
  searched ks x (Err i) up within parted =
      let sides = parted (rises o ks x up) in
      sym (list_any_none (eq_by_cmp R x) ks (λ k d lt. elim (cases_lt k i) [
        | inl below ↦ apart Less x _ (sides.0 k d (omega arith) below) refl
        | inr above ↦ apart Greater x _ (sides.1 k d above lt) refl
      ]))

module _ {K : Type 0} (R : K → K → Ordering) where
  -- the way back: an ascending list's last key is above the one before it
  pub above_from_ascending : (ks : List K) (k : K) → IsStrictlySortedBy R (ks ++ k ∷ []) → is_above R ks k ≡ true
  unfolding IsStrictlySortedBy
  above_from_ascending [] k up = refl
  above_from_ascending (a ∷ []) k up = less_is (R a k) up.0.0
  above_from_ascending (a ∷ b ∷ ks) k up = above_from_ascending (b ∷ ks) k up.1

  above_at : (ks : List K) (i : ℕ) (k l : K) → i + 1 ≡ length ks → slice_get ks i ≡ Some l → is_above R ks k ≡ is_lt (R l k)
  above_at [] i k l e s = absurd (omega arith)
  above_at (a ∷ []) zero k l e s = ap (λ x. is_lt (R x k)) (same_Some a l s)
  above_at (a ∷ []) (suc i) k l e s = absurd (omega arith)
  above_at (a ∷ b ∷ ks) zero k l e s = absurd (omega arith)
  above_at (a ∷ b ∷ ks) (suc i) k l e s = above_at (b ∷ ks) i k l (omega arith) s

  -- no keys are in order
  pub ascending_none : IsStrictlySortedBy R []
  unfolding IsStrictlySortedBy
  ascending_none = tt

  -- the test of the last key
  pub above_last : (ks : List K) (k l : K) → slice_get ks (length ks - 1) ≡ Some l → is_above R ks k ≡ is_lt (R l k)
  above_last ks k l s = let within = slice_get_within ks (length ks - 1) l s in above_at ks (length ks - 1) k l (omega arith) s

  pub above_none : (ks : List K) (k : K) → slice_get ks (length ks - 1) ≡ None → is_above R ks k ≡ true
  above_none [] k s = refl
  above_none (a ∷ ks) k s = absurd (none-some _ (sym s ∙ slice_get-get_or (a ∷ ks) (suc (length ks) - 1) a (omega arith)))

module _ {K : Type 0} {R : K → K → Ordering} (o : IsTotalOrder R) where
  -- a key may be added exactly where it is above the last
  pub is_next : (ks : List K) (k : K) (r : Bool) → IsStrictlySortedBy R ks → r ≡ is_above R ks k → (r ≡ true) ↔ IsStrictlySortedBy R (ks ++ k ∷ [])
  is_next ks k r up e = (λ t. ascending-push o ks k up (sym e ∙ t), λ next. e ∙ above_from_ascending R ks k next)
