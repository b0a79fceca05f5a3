-- What stays where no entry changes it.
use Rattle.std.proofs.Common.{◌≡◌, ◌≢◌, ℕ, zero, suc, ◌+◌, ◌<◌, ◌≤◌, Bool, true, false, List, Option, refl, sym, ap, ◌∙◌, arith}
use Rattle.std.specs.FinMap.{get}
use Rattle.std.proofs.lemmas.Bool.{true≢false}
use Rattle.fx_store.specs.declared.node.Node.{Node}
use Rattle.fx_spec.specs.Plans.{Turn}
use Rattle.fx_spec.specs.Order.{BaseTree, state, Changes}
use Rattle.fx_machine.specs.Measure.{same_node}
use Rattle.fx_machine.proofs.Stale.{same_is, same_itself}

-- nodes that do not differ are the same
pub same_unless : (a b : Option Node) → (a ≢ b → ⊥) → a ≡ b
same_unless a b unless = at (same_node a b) refl
  where
    at : (t : Bool) → same_node a b ≡ t → a ≡ b
    at true e = same_is a b e
    at false e = absurd (unless (λ same. true≢false (sym (same_itself a) ∙ (ap (same_node a) same ∙ e))))

pub stays_through : (base : BaseTree) (o : List Turn) (path : List (List ℕ)) (position more : ℕ) → ((entry : ℕ) → position ≤ entry → entry < position + more → Changes base o entry path → ⊥) → get (state base o position) path ≡ get (state base o (position + more)) path
stays_through base o path position zero none = ap (λ n. get (state base o n) path) (omega arith)
stays_through base o path position (suc more) none =
    stays_through base o path position more (λ entry le lt. none entry le (omega (arith, lt)))
    ∙ (same_unless (get (state base o (position + more)) path) (get (state base o (suc (position + more))) path) (none (position + more) (omega arith) (omega arith))
    ∙ ap (λ n. get (state base o n) path) (omega arith))
