-- What a run has come to between its stages.
use Rattle.std.specs.Prelude.{◌≡◌, ◌++◌, ℕ, List, map, length}
use Rattle.fx_store.specs.Whole.{Nodes}
use Rattle.fx_spec.specs.Plans.{Turn}
use Rattle.fx_spec.specs.Order.{BaseTree, IsComplete, RetriesOk, state}
use Rattle.fx_machine.specs.declared.retry.Retry.{Retry}
use Rattle.fx_machine.specs.Tried.{retry_tree}
use Rattle.fx_words.specs.Job.{Mode}
use Rattle.fx_board.specs.Board.{last_state}
use Rattle.fx_report.specs.Entries.{report}
use Rattle.fx_report.specs.Events.{lines}
use Rattle.fx_sched.specs.declared.schedule.Traced.{Traced}
use Rattle.fx_run_commands.specs.declared.running.runs.Answer.{Answer}
use Rattle.fx_run_commands.specs.Runs.Outcome.{IsPrintedAs}

-- a whole run from a base on: the output, and the last filestore
pub record IsRunFrom (base : BaseTree) (mode : Mode) (nodes : Nodes) (output : List ℕ) : Type 0 where
  pub order : List Turn
  pub retries : List Retry
  pub complete : IsComplete base order
  pub tried : RetriesOk base order (map retry_tree retries)
  pub printed : IsPrintedAs mode base order retries output
  pub last : nodes ≡ state base order (length order)

-- the last filestore of a run
abbrev pub last_of : Answer → Nodes
last_of a = last_state a.board

-- the output is the events and then the report of a run by a schedule
abbrev pub IsPrintedTrace : Traced → List ℕ → Type 0
IsPrintedTrace traced output = output ≡ lines traced.events ++ report traced.board.base traced.board.order traced.retries
