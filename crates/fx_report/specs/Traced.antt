-- What a run by a schedule prints: the events, and the report.
use Rattle.std.specs.Prelude.{◌≡◌, ℕ, ◌<◌, List, [], ◌++◌, All, length}
use Rattle.fx_spec.specs.Plans.{Turn}
use Rattle.fx_spec.specs.Order.{BaseTree}
use Rattle.fx_machine.specs.declared.event.Event.{Event}
use Rattle.fx_machine.specs.declared.retry.Retry.{Retry}
use Rattle.fx_machine.specs.Machine.{Run, resting}
use Rattle.fx_machine.specs.Tried.{retries_of}
use Rattle.fx_machine.specs.Turns.{FollowsSchedule}
use Rattle.fx_diaries.specs.Named.{NameConflicts}
use Rattle.fx_report.specs.Entries.{report}
use Rattle.fx_report.specs.Events.{lines}

-- the events lead from the empty order to this one by the schedule's turns, each conflict names the least path that was changed and
-- the last entry that changed it, the retries are the conflicts by shell, and this is written of the events before the report
pub record IsTracedBy (written : List Event → List ℕ) (base : BaseTree) (schedule : List ℕ) (order : List Turn) (retries : List Retry) (output : List ℕ) : Type 0 where
  pub events : List Event
  pub run : Run base (resting base []) events (resting base order)
  pub turns : FollowsSchedule base schedule events
  pub named : NameConflicts base (resting base []) events
  pub conflicts : retries ≡ retries_of base events
  pub printed : output ≡ written events ++ report base order retries

-- the events of a run by the schedule are printed before the report, a line for each
abbrev pub IsTracedAs : BaseTree → List ℕ → List Turn → List Retry → List ℕ → Type 0
IsTracedAs base schedule order retries output = IsTracedBy lines base schedule order retries output

-- there is a schedule of the plan's shells by which `trace` may print this behind the lines of its events, of a run to the same order
abbrev pub IsBehindSomeTrace : BaseTree → List Turn → List Retry → List ℕ → Type 0
IsBehindSomeTrace base order retries output = (schedule : List ℕ) × (lines_before : List ℕ) × All (λ shell. shell < length base.plan) schedule × IsTracedAs base schedule order retries (lines_before ++ output)
