-- Which entries of an order are a shell's.
use Rattle.std.proofs.Common.{◌≡◌, ℕ, ◌<◌, ◌≤◌, List, length, sym, subst, arith}
use Rattle.std.specs.List.{Contains, sum_by}
use Rattle.fx_spec.specs.Plans.{Turn, count_of}
use Rattle.fx_spec.specs.Order.{BaseTree, IsLegal, IsComplete}
use Rattle.fx_machine.specs.Machine.{next_number}
use Rattle.fx_machine.proofs.Reached.{shell_within}
use Rattle.fx_machine.proofs.Sums.{order_fits}
use Rattle.fx_machine.proofs.Turns.{first_contains, has_turn, shells_within}

-- a legal order is no longer than the plan
pub legal_fits : (base : BaseTree) (o : List Turn) → IsLegal base o → length o ≤ sum_by length base.plan
legal_fits base o legal = order_fits base o legal (shells_within base o legal)

-- ---- complete orders

-- an order that has as many of each shell's transactions as its script is complete
pub completes : (base : BaseTree) (o : List Turn) → IsLegal base o → ((shell : ℕ) → shell < length base.plan → next_number o shell ≡ count_of base.plan shell) → IsComplete base o
completes base o legal each = record {
  legal = legal;
  all = λ shell txn within.
      let all : next_number o shell ≡ count_of base.plan shell = each shell (shell_within base shell txn within) in
      has_turn o shell txn (subst (λ ns. Contains ns txn) (sym (legal shell).in_turn) (first_contains (next_number o shell) txn (omega (arith, all, within))));
}
