-- A settled attempt keeps the order legal.
use Rattle.std.proofs.Common.{◌≡◌, ℕ, ◌<◌, List, Some, sym, subst}
use Rattle.std.proofs.lemmas.Option.{slice_get_within}
use Rattle.fx_spec.specs.CommandTree.{CommandTree}
use Rattle.fx_spec.specs.Plans.{Turn, count_of, script_of}
use Rattle.fx_spec.specs.Order.{BaseTree, IsLegal}
use Rattle.fx_spec.proofs.Orders.{legal-next}
use Rattle.fx_machine.specs.Machine.{next_number, next_txn}
use Rattle.fx_machine.specs.Laws.{SettlingKeepsLegal}

-- a shell that has a transaction left has settled fewer than its script has
pub fewer_settled : (base : BaseTree) (o : List Turn) (shell : ℕ) (t : List CommandTree) → next_txn base o shell ≡ Some t → next_number o shell < count_of base.plan shell
fewer_settled base o shell t e = slice_get_within (script_of base.plan shell) (next_number o shell) t e

pub settling_keeps_legal : SettlingKeepsLegal
settling_keeps_legal base m m' shell entry legal s =
    subst (λ m. IsLegal base m.order) (sym s.after) (legal-next base m.order shell legal (fewer_settled base m.order shell s.txn s.next))
