-- How long a complete order is.
use Rattle.std.proofs.Common.{◌≡◌, ℕ, zero, suc, ◌+◌, ◌<◌, ◌≤◌, true, false, List, [], ◌∷◌, take, get_or, length, refl, sym, ap, ◌∙◌, arith, eq-eqb}
use Rattle.std.specs.List.{All, sum_by}
use Rattle.std.proofs.Math.Seq.{take-length, take-suc}
use Rattle.std.proofs.lemmas.Bool.{ne_eqb}
use Rattle.std.proofs.lemmas.List.Elements.{All-head, All-tail}
use Rattle.std.proofs.lemmas.List.Sums.{sum_by_push}
use Rattle.fx_spec.specs.CommandTree.{CommandTree}
use Rattle.fx_spec.specs.Plans.{Turn, count_of}
use Rattle.fx_spec.specs.Order.{numbers_of, first_numbers}
use Rattle.fx_machine.proofs.Sums.{sum_same, sum_apart, more_of}
use Rattle.fx_machine.proofs.Turns.{shells_within}
use Rattle.fx_laws.specs.Swapped.{CompleteOrdersAreLong}
use Rattle.fx_laws.proofs.Swapped.{all_there}

none_yet : (n : ℕ) → sum_by (λ k. length (numbers_of k [])) (first_numbers n) ≡ 0
none_yet zero = refl
none_yet (suc n) = sum_by_push (λ (k : ℕ). 0) (first_numbers n) n ∙ omega (arith, none_yet n)

-- an order is as long as its shells' transactions together
by_shells : (n : ℕ) (o : List Turn) → All (λ (t : Turn). t.0 < n) o → sum_by (λ k. length (numbers_of k o)) (first_numbers n) ≡ length o
by_shells n [] all = none_yet n
by_shells n (turn ∷ o) all =
    let rest : sum_by (λ k. length (numbers_of k o)) (first_numbers n) ≡ length o = by_shells n o (All-tail (λ (t : Turn). t.0 < n) turn o all) in
    let one : sum_by (λ k. length (numbers_of k (turn ∷ o))) (first_numbers n) ≡ sum_by (λ k. length (numbers_of k o)) (first_numbers n) + 1 =
    sum_apart (λ k. length (numbers_of k o)) (λ k. length (numbers_of k (turn ∷ o))) n turn.0 1 (All-head (λ (t : Turn). t.0 < n) turn o all)
    (more_of turn o turn.0 true (eq-eqb turn.0 turn.0 refl) ∙ omega arith)
    (λ k other. sym (more_of turn o k false (ne_eqb turn.0 k (λ e. other (sym e))))) in
    omega (arith, rest, one)

-- and the plan as its scripts together
of_scripts : (plan : List (List (List CommandTree))) (n : ℕ) → n ≤ length plan → sum_by (λ k. count_of plan k) (first_numbers n) ≡ sum_by length (take n plan)
of_scripts plan zero h = refl
of_scripts plan (suc n) h =
    sum_by_push (λ k. count_of plan k) (first_numbers n) n ∙ ap (λ s. s + length (get_or plan n [])) (of_scripts plan n (omega arith))
    ∙ sym (sum_by_push length (take n plan) (get_or plan n [])) ∙ ap (sum_by length) (sym (take-suc plan n [] h))

pub complete_orders_are_long : CompleteOrdersAreLong
complete_orders_are_long base o complete =
    let n : ℕ = length base.plan in
    sym (by_shells n o (shells_within base o complete.legal))
    ∙ sum_same (λ k. length (numbers_of k o)) (λ k. count_of base.plan k) n (λ k l. all_there base o k complete)
    ∙ of_scripts base.plan n (omega arith) ∙ ap (sum_by length) (take-length base.plan)
