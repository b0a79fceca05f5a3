-- Which entries of an order are a shell's.
use Rattle.std.proofs.Common.{◌≡◌, ⊎_elim, ℕ, zero, suc, ◌<◌, ◌≤◌, Bool, true, false, cond, nat_eq, List, [], ◌∷◌, length, get_or, slice_get, Some, None, refl, sym, ap, subst, ◌∙◌, arith}
use Rattle.std.specs.List.{All, Contains, cons_option}
use Rattle.std.proofs.lemmas.Bool.{cases_lt, eqb-true}
use Rattle.std.proofs.lemmas.List.Elements.{Contains-append_left, Contains-push}
use Rattle.std.proofs.lemmas.Option.{slice_get-get_or}
use Rattle.fx_base.proofs.Lists.{Contains-later}
use Rattle.fx_spec.specs.Plans.{Turn, count_of}
use Rattle.fx_spec.specs.Order.{BaseTree, numbers_of, first_numbers, IsLegal}
use Rattle.fx_machine.specs.Machine.{next_number}
use Rattle.fx_machine.proofs.Complete.{number_stands, below_first}
use Rattle.fx_machine.proofs.Reached.{shell_within}

-- in a legal order a shell's transactions are below its next one
pub below_next : (base : BaseTree) (o : List Turn) (shell place txn : ℕ) → IsLegal base o → slice_get o place ≡ Some (shell, txn) → txn < next_number o shell
below_next base o shell place txn legal e =
    number_stands (λ j. j < next_number o shell) o shell place txn (subst (All (λ j. j < next_number o shell)) (sym (legal shell).in_turn) (below_first (next_number o shell))) e

-- each entry is a shell's of the plan
pub shells_within : (base : BaseTree) (o : List Turn) → IsLegal base o → All (λ (t : Turn). t.0 < length base.plan) o
shells_within base o legal = λ k d h.
    let turn : Turn = get_or o k d in
    let stands : slice_get o k ≡ Some (turn.0, turn.1) = slice_get-get_or o k d h in
    let below : turn.1 < next_number o turn.0 = below_next base o turn.0 k turn.1 legal stands in
    let planned : next_number o turn.0 ≤ count_of base.plan turn.0 = (legal turn.0).planned in
    shell_within base turn.0 turn.1 (omega (arith, below, planned))

pub first_contains : (n k : ℕ) → k < n → Contains (first_numbers n) k
first_contains zero k h = absurd (omega (arith, h))
first_contains (suc n) k h =
    ⊎_elim (λ (l : k < n). Contains-append_left (first_numbers n) (n ∷ []) k (first_contains n k l))
    (λ (g : n ≤ k). let same : n ≡ k = omega (arith, h, g) in subst (Contains (first_numbers (suc n))) same (Contains-push (first_numbers n) n)) (cases_lt k n)

-- a transaction whose number is a shell's stands in the order
pub has_turn : (o : List Turn) (shell txn : ℕ) → Contains (numbers_of shell o) txn → Contains o (shell, txn)
has_turn [] shell txn h = absurd (let l = h.1 in omega (arith, l))
has_turn (turn ∷ o) shell txn h = by (nat_eq turn.0 shell) refl h (has_turn o shell txn)
  where
    by : (b : Bool) → nat_eq turn.0 shell ≡ b → Contains (cons_option (cond b (Some turn.1) None) (numbers_of shell o)) txn → (Contains (numbers_of shell o) txn → Contains o (shell, txn)) → Contains (turn ∷ o) (shell, txn)
    by false e h rest = Contains-later turn o (shell, txn) (rest h)
    by true e (zero, l, same) rest =
        let whose : turn.0 ≡ shell = eqb-true turn.0 shell e in
        (0, omega arith, ap (λ k. (k, turn.1)) whose ∙ ap (λ n. (shell, n)) same)
    by true e (suc i, l, same) rest = Contains-later turn o (shell, txn) (rest (i, omega (arith, l), same))
