-- What a run comes to: the output, and the last filestore.
use Rattle.std.specs.Prelude.{◌≡◌, ℕ, List, map, length}
use Rattle.fx_store.specs.Whole.{Nodes}
use Rattle.fx_outside.specs.Tree.{Tree}
use Rattle.fx_spec.specs.Plans.{Turn}
use Rattle.fx_spec.specs.Order.{BaseTree, IsComplete, RetriesOk, state}
use Rattle.fx_machine.specs.declared.retry.Retry.{Retry}
use Rattle.fx_machine.specs.Tried.{retry_tree}
use Rattle.fx_report.specs.Entries.{report}
use Rattle.fx_report.specs.Traced.{IsTracedAs, IsBehindSomeTrace}
use Rattle.fx_watch.specs.Outcome.{IsWatchedAs}
use Rattle.fx_words.specs.Job.{RunJob, Mode, Plain, Scheduled, Watched}
use Rattle.fx_inputs.specs.Inputs.{HasBase}

-- the report alone, which some `trace` prints too; or the events and the report, with what is said of the tree after each commit
-- where it is watched
abbrev pub IsPrintedAs : Mode → BaseTree → List Turn → List Retry → List ℕ → Type 0
IsPrintedAs Plain base order retries output = (output ≡ report base order retries) × IsBehindSomeTrace base order retries output
IsPrintedAs (Scheduled schedule) base order retries output = IsTracedAs base schedule order retries output
IsPrintedAs (Watched schedule) base order retries output = IsWatchedAs base schedule order retries output

-- a commit order holds every transaction of every script exactly once, each script's in its order; the printed answers and
-- the last filestore are those of these transactions run whole, one after another in that order, on the loaded filestore
pub record IsOutcome (t : Tree) (j : RunJob) (nodes : Nodes) (output : List ℕ) : Type 0 where
  pub base : BaseTree
  pub order : List Turn
  pub retries : List Retry
  pub begins : HasBase t j.inputs base
  pub complete : IsComplete base order
  pub tried : RetriesOk base order (map retry_tree retries)
  pub printed : IsPrintedAs j.mode base order retries output
  pub last : nodes ≡ state base order (length order)
