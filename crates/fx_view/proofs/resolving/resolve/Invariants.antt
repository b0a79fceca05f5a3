use Rattle.std.specs.Prelude.{ℕ, Result}
use Rattle.fx_store.specs.declared.node.Landing.{Landing}
use Rattle.fx_store.specs.Resolve as rule
use Rattle.fx_view.specs.declared.reader.Stop.{Stop}
use Rattle.fx_view.specs.Follows.{Follows}
use Rattle.fx_view.specs.Own.{own_at}
use Rattle.fx_view.specs.Walks.{rule_of, left}
use Rattle.fx_view.proofs.resolving.resolve.Given as goal

abbrev pub invariant-loop-walk : goal.invariant-loop-walk
invariant-loop-walk g l =
    (n : ℕ) (last : g.row.R.Denot × ℕ) (result : Result Landing Stop) →
    Follows g.R.Reader.meaning (λ l. l) (own_at l.overlay) (l.reader, n) last (rule_of l.walk) result →
    Follows g.R.Reader.meaning (λ l. l) (own_at l.overlay) (l.initial.reader, n) last (rule.resolve l.path l.follow) result

abbrev pub decreases-loop-walk : goal.decreases-loop-walk
decreases-loop-walk g l = left l.walk
