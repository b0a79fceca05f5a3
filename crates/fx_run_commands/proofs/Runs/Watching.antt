-- A watched run is a whole run.
use Rattle.std.proofs.Common.{ℕ, List, map, refl, sym, subst}
use Rattle.fx_spec.specs.Order.{BaseTree, IsComplete, RetriesOk}
use Rattle.fx_board.specs.Board.{last_state}
use Rattle.fx_board.specs.Log.{Log}
use Rattle.fx_machine.specs.Tried.{retry_tree}
use Rattle.fx_watch.specs.Outcome.{IsWatched, IsWatchedAs}
use Rattle.fx_words.specs.Job.{Watched}
use Rattle.fx_run_commands.specs.Runs.Answers.{IsRunFrom}

pub watched_run : (base : BaseTree) (schedule : List ℕ) (board : Log) (output : List ℕ) → IsWatched base schedule board output → IsRunFrom base (Watched schedule) (last_state board) output
watched_run base schedule board output run =
    subst (λ b. IsRunFrom b (Watched schedule) (last_state board) output) run.begun (record {
      order = board.order;
      retries = run.retries;
      complete = subst (λ b. IsComplete b board.order) (sym run.begun) run.complete;
      tried = subst (λ b. RetriesOk b board.order (map retry_tree run.retries)) (sym run.begun) run.tried;
      printed = subst (λ b. IsWatchedAs b schedule board.order run.retries output) (sym run.begun) run.watched;
      last = refl;
    })
