-- The worker of the views, between two of them and at the end.
use Rattle.std.specs.Prelude.{◌≡◌, ◌≤◌, ℕ, List, [], ◌∷◌, ◌++◌, take, length, Option, Some, None}
use Rattle.fx_spec.specs.CommandTree.{CommandTree}
use Rattle.fx_spec.specs.Plans.{script_of, txn_of}
use Rattle.fx_spec.specs.Order.{BaseTree}
use Rattle.fx_machine.specs.declared.retry.Retry.{Retry}
use Rattle.fx_turn.specs.Histories.{Begins}
use Rattle.fx_turn.specs.Views.{joins}
use Rattle.fx_turn.specs.Seats.{view}
use Rattle.fx_shared.specs.declared.shares.Shares.{Shares}
use Rattle.fx_shared.specs.Passes.{LogView}
use Rattle.fx_shared.specs.Shared.{IsReadyPass}
use Rattle.fx_crew.specs.Workers.{HasGathered}
use Rattle.fx_board.specs.Log.{Log}
use Rattle.fx_report.specs.declared.printed.View.{View}
use Rattle.fx_views.specs.declared.viewing.Onlooker.{Onlooker}
use Rattle.fx_views.specs.Views.{IsView, AreViews}

-- the views are by the description of the scripts, and look at their folder
pub record AreAlike (base views : BaseTree) : Type 0 where
  pub description : views.description ≡ base.description
  pub loaded : views.loaded ≡ base.loaded

-- the view is the transaction of this number, run whole at a state that the pass has seen
abbrev pub IsViewSeen : BaseTree → BaseTree → ℕ → LogView → View → Type 0
IsViewSeen base views txn v seen = (t : List CommandTree) → txn_of views.plan (0, txn) ≡ Some t → IsView base t v.seen seen

-- the first views are answered, over the order that the pass has seen, which has no entries of its own
pub record IsOnlooker (base views : BaseTree) (snaps : Shares Log) (shell next : ℕ) (w : Onlooker) : Type 0 where
  pub ready : IsReadyPass snaps w.pass
  pub number : (view w.pass).number ≡ Some shell
  pub based : (view w.pass).base ≡ Some base
  pub none : (view w.pass).mine ≡ 0
  pub viewed : AreViews base (take next (script_of views.plan 0)) (view w.pass).seen w.viewed

-- the view that was answered last is of a state that is not before what the pass had seen
abbrev pub IsViewedAfter : LogView → Onlooker → Type 0
IsViewedAfter old w = (views : List View) (last : View) → w.viewed ≡ views ++ last ∷ [] → length old.seen ≤ last.position

-- all of them are
pub record HasLookedOn (base views : BaseTree) (snaps : Shares Log) (number : Option ℕ) (w : Onlooker) : Type 0 where
  pub ready : IsReadyPass snaps w.pass
  pub number_is : (view w.pass).number ≡ number
  pub based : (view w.pass).base ≡ Some base
  pub none : (view w.pass).mine ≡ 0
  pub viewed : AreViews base (script_of views.plan 0) (view w.pass).seen w.viewed

-- the maker has taken in the passes of all scripts, each done with its script, and then that of the views
pub record HasLookedOver (base views : BaseTree) (maker : LogView) (retries : List Retry) (answers : List View) : Type 0 where
  pub before : LogView
  pub gathered : HasGathered base before retries
  pub all : joins before ≡ length base.plan
  pub number : maker.number ≡ None
  pub based : maker.base ≡ before.base
  pub joined : maker.joined ≡ (length base.plan, 0) ∷ before.joined
  pub begins : Begins before.seen maker.seen
  pub viewed : AreViews base (script_of views.plan 0) maker.seen answers
