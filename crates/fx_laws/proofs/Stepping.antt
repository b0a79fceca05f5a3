-- Steps to the next element of a set and back.
use Rattle.std.proofs.Common.{◌≡◌, ℕ, zero, suc, Bool, true, false, ◌||◌, List, [], ◌∷◌, slice_get, get_or, Option, Some, None, nat_eq, refl, ap, sym, ◌∙◌, add-one}
use Rattle.std.specs.declared.cmp.Ordering.TheVariants.{Equal}
use Rattle.std.specs.Ordering.{nat_cmp}
use Rattle.std.specs.Cmp.Lexicographic.{pointwise, slice_cmp, nat_list_cmp_total}
use Rattle.std.specs.Option.{option_and_then}
use Rattle.std.proofs.lemmas.Bool.{false≢true}
use Rattle.std.proofs.lemmas.Cmp.{tied_itself}
use Rattle.std.proofs.lemmas.Option.{slice_get_within, get_or_from_slice_get}
use Rattle.fx_base.proofs.Orders.{nat_list_exact}
use Rattle.fx_text.specs.Sets.{IsAscending, has_text, least_above, greatest_below, item_before}
use Rattle.fx_text.proofs.Nearest.{above_found, below_found}
use Rattle.fx_laws.specs.Stepping.{AboveThenBelow, BelowThenAbove, steps_up, StepsReachEach}

-- an element has a place
place_of : (t : List ℕ) (ts : List (List ℕ)) → has_text t ts ≡ true → (i : ℕ) × (slice_get ts i ≡ Some t)
place_of t [] e = absurd (false≢true e)
place_of t (u ∷ us) e = by (pointwise nat_eq u t) refl e (place_of t us)
  where
    by : (b : Bool) → pointwise nat_eq u t ≡ b → (b || has_text t us) ≡ true → (has_text t us ≡ true → (i : ℕ) × (slice_get us i ≡ Some t)) → (i : ℕ) × (slice_get (u ∷ us) i ≡ Some t)
    by true is h more = (0, ap Some (nat_list_exact u t is))
    by false is h more = let w = more h in (suc w.0, w.1)

module _ (ts : List (List ℕ)) (up : IsAscending ts) (i : ℕ) (t : List ℕ) (at : slice_get ts i ≡ Some t) where
  abbrev here : (d : List ℕ) → slice_cmp nat_cmp (get_or ts i d) t ≡ Equal
  here d = ap (λ y. slice_cmp nat_cmp y t) (get_or_from_slice_get ts i t d at) ∙ tied_itself nat_list_cmp_total t

  next_at : least_above t ts ≡ slice_get ts (suc i)
  next_at = above_found t ts i up (slice_get_within ts i t at) here ∙ ap (slice_get ts) (add-one i)

  prev_at : greatest_below t ts ≡ item_before i ts
  prev_at = below_found t ts i up (slice_get_within ts i t at) here

pub above_then_below : AboveThenBelow
above_then_below ts t u up has next =
    let w = place_of t ts has in
    prev_at ts up (suc w.0) u (sym (next_at ts up w.0 t w.1) ∙ next) ∙ w.1

before : (ts : List (List ℕ)) (i : ℕ) (u : List ℕ) → item_before i ts ≡ Some u → (k : ℕ) × ((i ≡ suc k) × (slice_get ts k ≡ Some u))
before ts zero u e = cc
before ts (suc k) u e = (k, (refl, e))

pub below_then_above : BelowThenAbove
below_then_above ts t u up has prev =
    let w = place_of t ts has in
    let v = before ts w.0 u (sym (prev_at ts up w.0 t w.1) ∙ prev) in
    next_at ts up v.0 u v.1.1 ∙ (ap (slice_get ts) (sym v.1.0) ∙ w.1)

first_step : (ts : List (List ℕ)) → steps_up ts zero ≡ slice_get ts zero
first_step [] = refl
first_step (t ∷ ts) = refl

none_behind : (ts : List (List ℕ)) (n : ℕ) → slice_get ts n ≡ None → slice_get ts (suc n) ≡ None
none_behind [] n e = refl
none_behind (t ∷ ts) zero e = cc
none_behind (t ∷ ts) (suc n) e = none_behind ts n e

pub steps_reach_each : StepsReachEach
steps_reach_each ts up zero = first_step ts
steps_reach_each ts up (suc n) = by (slice_get ts n) refl (steps_reach_each ts up n)
  where
    by : (o : Option (List ℕ)) → slice_get ts n ≡ o → steps_up ts n ≡ slice_get ts n → steps_up ts (suc n) ≡ slice_get ts (suc n)
    by None is h = ap (option_and_then (λ t. least_above t ts)) (h ∙ is) ∙ sym (none_behind ts n is)
    by (Some t) is h = ap (option_and_then (λ t. least_above t ts)) (h ∙ is) ∙ next_at ts up n t is
