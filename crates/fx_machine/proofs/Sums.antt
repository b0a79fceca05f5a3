-- Sums over the first numbers, and how long a legal order can be.
use Rattle.std.proofs.Common.{◌≡◌, ◌≢◌, ℕ, zero, suc, ◌+◌, ◌-◌, ◌<◌, ◌≤◌, Bool, true, false, cond, nat_eq, List, [], ◌∷◌, ◌++◌, take, get_or, length, Some, None, refl, sym, ap, subst, ◌∙◌, arith, ⊎_elim, eq-eqb}
use Rattle.std.specs.List.{All, cons_option, sum_by}
use Rattle.std.proofs.Math.Seq.{take-length, take-suc}
use Rattle.std.proofs.lemmas.Bool.{cases_eq, ne_eqb}
use Rattle.std.proofs.lemmas.List.Elements.{All-head, All-tail}
use Rattle.std.proofs.lemmas.List.Sums.{sum_by_push, sum_by-le-sum_by}
use Rattle.fx_spec.specs.CommandTree.{CommandTree}
use Rattle.fx_spec.specs.Plans.{Turn, count_of}
use Rattle.fx_spec.specs.Order.{BaseTree, numbers_of, first_numbers, IsLegal}

pub sum_same : (f g : ℕ → ℕ) (n : ℕ) → ((k : ℕ) → k < n → f k ≡ g k) → sum_by f (first_numbers n) ≡ sum_by g (first_numbers n)
sum_same f g zero h = refl
sum_same f g (suc n) h = sum_by_push f (first_numbers n) n ∙ both (sum_same f g n (λ k l. h k (omega arith))) (h n (omega arith)) ∙ sym (sum_by_push g (first_numbers n) n)
  where
    both : sum_by f (first_numbers n) ≡ sum_by g (first_numbers n) → f n ≡ g n → sum_by f (first_numbers n) + f n ≡ sum_by g (first_numbers n) + g n
    both e h = omega (arith, e, h)

-- two sums that differ at one number alone
pub sum_apart : (f g : ℕ → ℕ) (n s d : ℕ) → s < n → g s ≡ f s + d → ((k : ℕ) → k ≢ s → f k ≡ g k) → sum_by g (first_numbers n) ≡ sum_by f (first_numbers n) + d
sum_apart f g zero s d h here other = absurd (omega arith)
sum_apart f g (suc n) s d h here other = sum_by_push g (first_numbers n) n ∙ ⊎_elim
    (λ (last : s ≡ n).
    let at : g n ≡ f n + d = subst (λ s. g s ≡ f s + d) last here in
    let rest : sum_by f (first_numbers n) ≡ sum_by g (first_numbers n) = sum_same f g n (λ k l. other k (λ e. let below : k < n = l in omega arith)) in
    let push = sum_by_push f (first_numbers n) n in
    let sum : sum_by g (first_numbers n) + g n ≡ sum_by f (first_numbers n ++ n ∷ []) + d = omega (arith, at, rest, push) in sum)
    (λ (early : s ≢ n).
    let at : f n ≡ g n = other n (λ e. early (sym e)) in
    let rest : sum_by g (first_numbers n) ≡ sum_by f (first_numbers n) + d = sum_apart f g n s d (omega arith) here other in
    let push = sum_by_push f (first_numbers n) n in
    let sum : sum_by g (first_numbers n) + g n ≡ sum_by f (first_numbers n ++ n ∷ []) + d = omega (arith, at, rest, push) in sum) (cases_eq s n)

pub sum_lower : (f g : ℕ → ℕ) (n s : ℕ) → s < n → f s < g s → ((k : ℕ) → k ≢ s → f k ≡ g k) → sum_by f (first_numbers n) < sum_by g (first_numbers n)
sum_lower f g n s h lower other =
    let e : sum_by g (first_numbers n) ≡ sum_by f (first_numbers n) + (g s - f s) = sum_apart f g n s (g s - f s) h (omega arith) other in
    omega (arith, e, lower)

-- ---- orders

pub more_of : (turn : Turn) (o : List Turn) (k : ℕ) (b : Bool) → nat_eq turn.0 k ≡ b → length (numbers_of k (turn ∷ o)) ≡ cond b (suc (length (numbers_of k o))) (length (numbers_of k o))
more_of turn o k true e = ap (λ b. length (cons_option (cond b (Some turn.1) None) (numbers_of k o))) e
more_of turn o k false e = ap (λ b. length (cons_option (cond b (Some turn.1) None) (numbers_of k o))) e

no_sum : (n : ℕ) → sum_by (λ (k : ℕ). 0) (first_numbers n) ≡ 0
no_sum zero = refl
no_sum (suc n) = sum_by_push (λ (k : ℕ). 0) (first_numbers n) n ∙ omega (arith, no_sum n)

-- an order is as long as its shells' transactions together
length_by_shells : (o : List Turn) (n : ℕ) → All (λ (t : Turn). t.0 < n) o → length o ≡ sum_by (λ k. length (numbers_of k o)) (first_numbers n)
length_by_shells [] n all = sym (no_sum n)
length_by_shells (turn ∷ o) n all =
    let rest : length o ≡ sum_by (λ k. length (numbers_of k o)) (first_numbers n) = length_by_shells o n (All-tail (λ (t : Turn). t.0 < n) turn o all) in
    let one : sum_by (λ k. length (numbers_of k (turn ∷ o))) (first_numbers n) ≡ sum_by (λ k. length (numbers_of k o)) (first_numbers n) + 1 =
    sum_apart (λ k. length (numbers_of k o)) (λ k. length (numbers_of k (turn ∷ o))) n turn.0 1 (All-head (λ (t : Turn). t.0 < n) turn o all)
    (more_of turn o turn.0 true (eq-eqb turn.0 turn.0 refl) ∙ omega arith)
    (λ k other. sym (more_of turn o k false (ne_eqb turn.0 k (λ e. other (sym e))))) in
    omega (arith, rest, one)

sum_of_front : (plan : List (List (List CommandTree))) (n : ℕ) → n ≤ length plan → sum_by (λ k. length (get_or plan k [])) (first_numbers n) ≡ sum_by length (take n plan)
sum_of_front plan zero h = refl
sum_of_front plan (suc n) h =
    sum_by_push (λ k. length (get_or plan k [])) (first_numbers n) n ∙ ap (λ s. s + length (get_or plan n [])) (sum_of_front plan n (omega arith))
    ∙ sym (sum_by_push length (take n plan) (get_or plan n [])) ∙ ap (sum_by length) (sym (take-suc plan n [] h))

-- a legal order is no longer than the plan
pub order_fits : (base : BaseTree) (o : List Turn) → IsLegal base o → All (λ (t : Turn). t.0 < length base.plan) o → length o ≤ sum_by length base.plan
order_fits base o legal all =
    let whole : sum_by (λ k. count_of base.plan k) (first_numbers (length base.plan)) ≡ sum_by length base.plan = sum_of_front base.plan (length base.plan) (omega arith) ∙ ap (sum_by length) (take-length base.plan) in
    let parts = length_by_shells o (length base.plan) all in
    let fits : sum_by (λ k. length (numbers_of k o)) (first_numbers (length base.plan)) ≤ sum_by (λ k. count_of base.plan k) (first_numbers (length base.plan)) =
    sum_by-le-sum_by (λ k. length (numbers_of k o)) (λ k. count_of base.plan k) (first_numbers (length base.plan)) (λ k. (legal k).planned) in
    omega (arith, whole, parts, fits)
