-- What the log, the retries and the views come to, once all passes are taken in.
use Rattle.std.proofs.Common.{◌≡◌, ℕ, List, ◌∷◌, length, Some, sym, ap, subst, ◌∙◌}
use Rattle.std.specs.List.{All}
use Rattle.std.proofs.lemmas.List.Elements.{All-tail}
use Rattle.std.proofs.lemmas.Option.{same_Some}
use Rattle.fx_spec.specs.Plans.{script_of}
use Rattle.fx_spec.specs.Order.{BaseTree, IsComplete}
use Rattle.fx_machine.specs.declared.retry.Retry.{Retry}
use Rattle.fx_machine.specs.Machine.{next_number}
use Rattle.fx_board.specs.Board.{IsLog}
use Rattle.fx_board.specs.Log.{Log}
use Rattle.fx_turn.specs.Histories.{Begins}
use Rattle.fx_turn.specs.Views.{joining, joins, number_of}
use Rattle.fx_turn.proofs.Growth.{begins_on}
use Rattle.fx_shared.specs.Passes.{LogView}
use Rattle.fx_report.specs.declared.printed.View.{View}
use Rattle.fx_crew.specs.Workers.{HasGathered}
use Rattle.fx_diaries.specs.Runs.{IsOfSomeRun}
use Rattle.fx_crew.proofs.Gathers.{closes, closes_run}
use Rattle.fx_views.specs.Viewing.{HasLookedOver}
use Rattle.fx_views.specs.Views.{AreViews}
use Rattle.fx_views.proofs.Viewings.{views_later}

-- after all scripts' passes the maker takes in that of the views
pub looked_over : (base views : BaseTree) (v w x : LogView) (rs : List Retry) (vs : List View) → HasGathered base v rs → joins v ≡ length base.plan → x ≡ joining v w → w.number ≡ Some (length base.plan) → w.mine ≡ 0 → Begins v.seen x.seen → Begins w.seen x.seen → AreViews base (script_of views.plan 0) w.seen vs → HasLookedOver base views x rs vs
looked_over base views v w x rs vs gathered all e number none first second viewed = record {
  before = v;
  gathered = gathered;
  all = all;
  number = ap (λ (v : LogView). v.number) e ∙ gathered.number;
  based = ap (λ (v : LogView). v.base) e;
  joined = ap (λ (v : LogView). v.joined) e ∙ (ap (λ n. (number_of n, w.mine) ∷ v.joined) number ∙ ap (λ m. (length base.plan, m) ∷ v.joined) none);
  begins = first;
  viewed = views_later base (script_of views.plan 0) w.seen x.seen vs second viewed;
}

module _ (base views : BaseTree) (v : LogView) (rs : List Retry) (vs : List View) (log : Log) (over : HasLookedOver base views v rs vs) (same : v.base ≡ Some log.base) where
  of_before : over.before.base ≡ Some log.base
  of_before = sym over.based ∙ same

  is_base : base ≡ log.base
  is_base = same_Some base log.base (sym over.gathered.based ∙ of_before)

  pub viewed_over : Begins v.seen log.order → AreViews log.base (script_of views.plan 0) log.order vs
  viewed_over b = subst (λ base. AreViews base (script_of views.plan 0) log.order vs) is_base (views_later base (script_of views.plan 0) v.seen log.order vs b over.viewed)

  module _ (is : IsLog log) (counts : All (λ (j : ℕ × ℕ). next_number log.order j.0 ≡ j.1) v.joined) where
    scripts : All (λ (j : ℕ × ℕ). next_number log.order j.0 ≡ j.1) over.before.joined
    scripts = All-tail (λ (j : ℕ × ℕ). next_number log.order j.0 ≡ j.1) (length base.plan, 0) over.before.joined (subst (All (λ (j : ℕ × ℕ). next_number log.order j.0 ≡ j.1)) over.joined counts)

    pub complete_over : IsComplete log.base log.order
    complete_over = closes base over.before rs log over.gathered over.all of_before is scripts

    pub run_over : Begins v.seen log.order → IsOfSomeRun log.base log.order rs
    run_over b = closes_run base over.before rs log over.gathered over.all of_before is scripts (begins_on over.before.seen v.seen log.order over.begins b)
