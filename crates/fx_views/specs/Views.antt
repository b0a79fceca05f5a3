-- What views answer: each is its transaction, run whole at one state of the order.
use Rattle.std.specs.Prelude.{◌≡◌, ℕ, ◌≤◌, List, [], ◌∷◌, length}
use Rattle.std.specs.FinMap.{get}
use Rattle.fx_spec.specs.CommandTree.{CommandTree}
use Rattle.fx_spec.specs.Plans.{Turn}
use Rattle.fx_spec.specs.Order.{BaseTree, state}
use Rattle.fx_spec.specs.Transaction.{outputs, end}
use Rattle.fx_report.specs.declared.printed.View.{View}

-- the view is the transaction, run whole at the state after so many entries of the order
pub record IsView (base : BaseTree) (t : List CommandTree) (o : List Turn) (v : View) : Type 0 where
  pub within : v.position ≤ length o
  pub outputs : outputs base.description t (get (state base o v.position)) ≡ v.outputs
  pub end : end base.description t (get (state base o v.position)) ≡ v.end

-- the views are these transactions, one after another, and none looks at an earlier state than the one before, nor at one
-- with fewer entries than `least`
abbrev pub AreViewsFrom : BaseTree → List Turn → ℕ → List (List CommandTree) → List View → Type 0
AreViewsFrom base o least [] [] = Unit {0}
AreViewsFrom base o least (t ∷ ts) (v ∷ vs) = (least ≤ v.position) × IsView base t o v × AreViewsFrom base o v.position ts vs
AreViewsFrom base o least _ _ = ⊥

abbrev pub AreViews : BaseTree → List (List CommandTree) → List Turn → List View → Type 0
AreViews base txns o views = AreViewsFrom base o 0 txns views
