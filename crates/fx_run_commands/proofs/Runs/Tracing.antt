-- A run on threads is a whole run, and some trace. A run by a schedule is a whole run.
use Rattle.std.proofs.Common.{◌≡◌, List, [], ℕ, map, refl, sym, subst}
use Rattle.fx_spec.specs.Order.{BaseTree, IsComplete, RetriesOk}
use Rattle.fx_board.specs.Board.{last_state}
use Rattle.fx_board.specs.Log.{Log}
use Rattle.fx_machine.specs.declared.retry.Retry.{Retry}
use Rattle.fx_machine.specs.Machine.{Run, resting}
use Rattle.fx_machine.specs.Tried.{retries_of, retry_tree}
use Rattle.fx_machine.specs.Turns.{FollowsSchedule}
use Rattle.fx_diaries.specs.Runs.{IsOfSomeRun}
use Rattle.fx_report.specs.Entries.{report}
use Rattle.fx_sched.specs.declared.schedule.Traced.{Traced}
use Rattle.fx_diaries.specs.Named.{NameConflicts}
use Rattle.fx_sched.specs.Traced.{IsTraced}
use Rattle.fx_words.specs.Job.{Plain, Scheduled}
use Rattle.fx_run_commands.specs.Runs.Answers.{IsPrintedTrace, IsRunFrom}
use Rattle.fx_report.proofs.Tracing.{behind_some_trace}

pub threaded_run : (base : BaseTree) (board : Log) (retries : List Retry) (output : List ℕ) → board.base ≡ base → IsComplete board.base board.order → RetriesOk board.base board.order (map retry_tree retries) → IsOfSomeRun board.base board.order retries → output ≡ report board.base board.order retries → IsRunFrom base Plain (last_state board) output
threaded_run base board retries output begun complete tried ran is =
    subst (λ b. IsRunFrom b Plain (last_state board) output) begun (record {
      order = board.order;
      retries = retries;
      complete = complete;
      tried = tried;
      printed = (is, behind_some_trace board.base board.order retries output ran is);
      last = refl;
    })

pub traced_run : (base : BaseTree) (schedule : List ℕ) (traced : Traced) (output : List ℕ) → IsTraced base schedule traced → IsPrintedTrace traced output → IsRunFrom base (Scheduled schedule) (last_state traced.board) output
traced_run base schedule traced output run is =
    let order = traced.board.order in
    let back = sym run.begun in
    subst (λ b. IsRunFrom b (Scheduled schedule) (last_state traced.board) output) run.begun (record {
      order = order;
      retries = traced.retries;
      complete = subst (λ b. IsComplete b order) back run.complete;
      tried = subst (λ b. RetriesOk b order (map retry_tree traced.retries)) back run.tried;
      printed = record {
        events = traced.events;
        run = subst (λ b. Run b (resting b []) traced.events (resting b order)) back run.run;
        turns = subst (λ b. FollowsSchedule b schedule traced.events) back run.turns;
        named = subst (λ b. NameConflicts b (resting b []) traced.events) back run.named;
        conflicts = subst (λ b. traced.retries ≡ retries_of b traced.events) back run.conflicts;
        printed = is;
      };
      last = refl;
    })
