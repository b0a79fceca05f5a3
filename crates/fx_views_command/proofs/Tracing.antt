-- A run with views is a whole run, and some trace prints its report.
use Rattle.std.proofs.Common.{◌≡◌, ℕ, List, ◌++◌, map, refl, subst}
use Rattle.fx_spec.specs.CommandTree.{CommandTree}
use Rattle.fx_spec.specs.Order.{BaseTree, IsComplete, RetriesOk}
use Rattle.fx_board.specs.Board.{last_state}
use Rattle.fx_board.specs.Log.{Log}
use Rattle.fx_machine.specs.declared.retry.Retry.{Retry}
use Rattle.fx_machine.specs.Tried.{retry_tree}
use Rattle.fx_diaries.specs.Runs.{IsOfSomeRun}
use Rattle.fx_report.specs.declared.printed.View.{View}
use Rattle.fx_report.specs.Entries.{report}
use Rattle.fx_report.specs.Views.{views_text}
use Rattle.fx_report.proofs.Tracing.{behind_some_trace}
use Rattle.fx_views.specs.Views.{AreViews}
use Rattle.fx_views_command.specs.Answers.{IsViewsRunFrom}

pub views_run : (base : BaseTree) (views : List (List CommandTree)) (log : Log) (retries : List Retry) (answers : List View) (output : List ℕ) → log.base ≡ base → IsComplete log.base log.order → RetriesOk log.base log.order (map retry_tree retries) → IsOfSomeRun log.base log.order retries → AreViews log.base views log.order answers → output ≡ report log.base log.order retries ++ views_text answers → IsViewsRunFrom base views (last_state log) output
views_run base views log retries answers output begun complete tried ran viewed is =
    subst (λ b. IsViewsRunFrom b views (last_state log) output) begun (record {
      order = log.order;
      retries = retries;
      answers = answers;
      complete = complete;
      tried = tried;
      traced = behind_some_trace log.base log.order retries (report log.base log.order retries) ran refl;
      viewed = viewed;
      printed = is;
      last = refl;
    })
