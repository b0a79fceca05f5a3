-- A run to an order, and what a shell's diary has to say for it.
use Rattle.std.specs.Prelude.{◌≡◌, ℕ, ◌≤◌, ◌<◌, List, [], All, map, take, length}
use Rattle.fx_spec.specs.Plans.{Turn, count_of}
use Rattle.fx_spec.specs.Order.{BaseTree}
use Rattle.fx_machine.specs.declared.event.Event.{Event}
use Rattle.fx_machine.specs.declared.retry.Retry.{Retry}
use Rattle.fx_machine.specs.Machine.{Run, resting, next_number, shell_of}
use Rattle.fx_machine.specs.Tried.{retries_of}
use Rattle.fx_machine.specs.Turns.{FollowsSchedule}
use Rattle.fx_diaries.specs.Named.{NameConflicts}
use Rattle.fx_diaries.specs.Diaries.{Diary}

-- the shells of events, in order
abbrev pub shells_in : List Event → List ℕ
shells_in events = map shell_of events

-- some events lead from the empty order to this one by the turns of some schedule of the plan's shells, each conflict names the least path that was
-- changed and the last entry that changed it, and the retries are the conflicts, by shell
pub record IsOfSomeRun (base : BaseTree) (order : List Turn) (retries : List Retry) : Type 0 where
  pub events : List Event
  pub schedule : List ℕ
  pub shells : All (λ shell. shell < length base.plan) schedule
  pub run : Run base (resting base []) events (resting base order)
  pub turns : FollowsSchedule base schedule events
  pub named : NameConflicts base (resting base []) events
  pub conflicts : retries ≡ retries_of base events

-- the shell has settled all transactions of its script by some time, and these are its retries
pub record HasWorked (base : BaseTree) (o : List Turn) (shell : ℕ) (retries : List Retry) : Type 0 where
  pub time : ℕ
  pub within : time ≤ length o
  pub diary : Diary base o shell time [] retries
  pub all : next_number (take time o) shell ≡ count_of base.plan shell
