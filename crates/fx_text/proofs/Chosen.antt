-- The texts that are chosen of a set are texts of it.
use Rattle.std.proofs.Common.{◌≡◌, ℕ, Bool, true, false, cond, ◌||◌, List, [], ◌∷◌, Option, Some, None, nat_eq, sym, ap, ◌∙◌}
use Rattle.std.specs.Cmp.Lexicographic.{pointwise, slice_cmp}
use Rattle.std.specs.Ordering.{is_lt, nat_cmp}
use Rattle.std.proofs.lemmas.Bool.{or_right}
use Rattle.std.specs.Option.{option_or}
use Rattle.fx_base.proofs.Orders.{bytes_itself}
use Rattle.fx_text.specs.Sets.{has_text, least, least_above, greatest_below}

has_this : (u v : List ℕ) (us : List (List ℕ)) → v ≡ u → has_text u (v ∷ us) ≡ true
has_this u v us same = ap (λ b. b || has_text u us) (ap (λ w. pointwise nat_eq v w) (sym same) ∙ bytes_itself v)

has_later : (u v : List ℕ) (us : List (List ℕ)) → has_text u us ≡ true → has_text u (v ∷ us) ≡ true
has_later u v us h = or_right (pointwise nat_eq v u) (has_text u us) h

pub has_least : (set : List (List ℕ)) (t : List ℕ) → least set ≡ Some t → has_text t set ≡ true
has_least [] t e = absurd (cc)
has_least (u ∷ us) t e = has_this t u us (cc)

above_or : (b : Bool) (u v : List ℕ) (us : List (List ℕ)) (rest : Option (List ℕ)) → (rest ≡ Some u → has_text u us ≡ true) → cond b (Some v) rest ≡ Some u → has_text u (v ∷ us) ≡ true
above_or true u v us rest later e = let same : v ≡ u = cc in has_this u v us same
above_or false u v us rest later e = has_later u v us (later e)

pub has_above : (t : List ℕ) (set : List (List ℕ)) (u : List ℕ) → least_above t set ≡ Some u → has_text u set ≡ true
has_above t [] u e = absurd (cc)
has_above t (v ∷ us) u e = above_or (is_lt (slice_cmp nat_cmp t v)) u v us (least_above t us) (λ h. has_above t us u h) e

below_or : (rest : Option (List ℕ)) (b : Bool) (u v : List ℕ) (us : List (List ℕ)) → (rest ≡ Some u → has_text u us ≡ true) → option_or rest (cond b (Some v) None) ≡ Some u → has_text u (v ∷ us) ≡ true
below_or (Some w) b u v us later e = has_later u v us (later e)
below_or None true u v us later e = let same : v ≡ u = cc in has_this u v us same
below_or None false u v us later e = absurd (cc)

pub has_below : (t : List ℕ) (set : List (List ℕ)) (u : List ℕ) → greatest_below t set ≡ Some u → has_text u set ≡ true
has_below t [] u e = absurd (cc)
has_below t (v ∷ us) u e = below_or (greatest_below t us) (is_lt (slice_cmp nat_cmp v t)) u v us (λ h. has_below t us u h) e
