-- What a watched run comes to.
use Rattle.std.specs.Prelude.{◌≡◌, ℕ, List, map}
use Rattle.fx_spec.specs.Plans.{Turn}
use Rattle.fx_spec.specs.Order.{BaseTree, IsComplete, RetriesOk}
use Rattle.fx_machine.specs.declared.retry.Retry.{Retry}
use Rattle.fx_machine.specs.Tried.{retry_tree}
use Rattle.fx_board.specs.Log.{Log}
use Rattle.fx_report.specs.Traced.{IsTracedBy}
use Rattle.fx_watch.specs.Lines.{watched_lines}

-- of the events themselves and whether there is a value: first of the loaded filestore, and behind each settled event of the state
-- after its entry
abbrev pub IsWatchedAs : BaseTree → List ℕ → List Turn → List Retry → List ℕ → Type 0
IsWatchedAs base schedule order retries output = IsTracedBy (watched_lines base order) base schedule order retries output

-- a whole run: the log has a complete order, its retries are good, and so it is printed
pub record IsWatched (base : BaseTree) (schedule : List ℕ) (board : Log) (output : List ℕ) : Type 0 where
  pub retries : List Retry
  pub begun : board.base ≡ base
  pub complete : IsComplete base board.order
  pub tried : RetriesOk base board.order (map retry_tree retries)
  pub watched : IsWatchedAs base schedule board.order retries output
