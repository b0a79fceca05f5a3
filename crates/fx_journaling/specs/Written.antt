-- What is written of a run by a schedule: the lines of its events as they come, and then its report.
use Rattle.std.proofs.Common.{inl, inr}
use Rattle.std.specs.Prelude.{◌≡◌, ◌⊎◌, ◌<◌, ℕ, List, [], ◌∷◌, ◌++◌, length, take}
use Rattle.fx_spec.specs.Plans.{Turn}
use Rattle.fx_spec.specs.Order.{BaseTree, IsComplete}
use Rattle.fx_machine.specs.declared.event.Event.{Event}
use Rattle.fx_machine.specs.declared.event.Event.TheVariants as event
use Rattle.fx_machine.specs.Machine.{Machine, Step, Run, resting}
use Rattle.fx_machine.specs.Tried.{retries_of}
use Rattle.fx_machine.specs.Turns.{BeginsTurns, FollowsSchedule}
use Rattle.fx_report.specs.Entries.{report}
use Rattle.fx_report.specs.Events.{event_line, lines}
use Rattle.fx_diaries.specs.Named.{NamesConflict, NameConflicts}

-- a part of the line of the event that comes next, short of its end; it names, if it is a conflict, the least path that was
-- changed and the last entry that changed it
pub record IsPartOfLine (base : BaseTree) (schedule : List ℕ) (events : List Event) (m : Machine) (part : List ℕ) : Type 0 where
  pub next : Event
  pub after : Machine
  pub step : Step base m next after
  pub named : NamesConflict base m next
  pub turns : BeginsTurns base [] schedule (events ++ next ∷ [])
  pub count : ℕ
  pub short : count < length (event_line next)
  pub is : part ≡ take count (event_line next)

-- the bytes are the lines of the events that have led to this state by the schedule's turns so far, and behind them at most a
-- part of the next one's line; each conflict names the least path that was changed and the last entry that changed it
pub record HasWrittenEvents (base : BaseTree) (schedule : List ℕ) (m : Machine) (bytes : List ℕ) : Type 0 where
  pub events : List Event
  pub run : Run base (resting base []) events m
  pub turns : (later : List Event) × BeginsTurns base [] schedule (events ++ later)
  pub named : NameConflicts base (resting base []) events
  pub rest : List ℕ
  pub printed : bytes ≡ lines events ++ rest
  pub behind : (rest ≡ []) ⊎ IsPartOfLine base schedule events m rest

-- the event that comes next has settled an attempt, and nothing behind the lines of those before it is written
pub record IsBeforeSettled (base : BaseTree) (schedule : List ℕ) (events : List Event) (m : Machine) (rest : List ℕ) : Type 0 where
  pub shell : ℕ
  pub entry : ℕ
  pub after : Machine
  pub step : Step base m (event.Settled shell entry) after
  pub turns : BeginsTurns base [] schedule (events ++ event.Settled shell entry ∷ [])
  pub none : rest ≡ []

-- the bytes are the lines of all events of a run, which have led to this state, and a front of its report; each conflict names
-- the least path that was changed and the last entry that changed it
pub record HasWrittenReport (base : BaseTree) (schedule : List ℕ) (m : Machine) (bytes : List ℕ) : Type 0 where
  pub events : List Event
  pub order : List Turn
  pub over : m ≡ resting base order
  pub run : Run base (resting base []) events m
  pub complete : IsComplete base order
  pub turns : FollowsSchedule base schedule events
  pub named : NameConflicts base (resting base []) events
  pub count : ℕ
  pub printed : bytes ≡ lines events ++ take count (report base order (retries_of base events))

abbrev pub HasWritten : BaseTree → List ℕ → Machine → List ℕ → Type 0
HasWritten base schedule m bytes = HasWrittenEvents base schedule m bytes ⊎ HasWrittenReport base schedule m bytes

-- the events whose lines are written
abbrev pub events_written : (base : BaseTree) (schedule : List ℕ) (m : Machine) (bytes : List ℕ) → HasWritten base schedule m bytes → List Event
events_written base schedule m bytes (inl written) = written.events
events_written base schedule m bytes (inr written) = written.events

-- the bytes are a front of the output of a whole run by the schedule: the lines of all its events, and then its report; each
-- conflict of the run names the least path that was changed and the last entry that changed it
pub record IsFrontOfOutput (base : BaseTree) (schedule : List ℕ) (bytes : List ℕ) : Type 0 where
  pub events : List Event
  pub order : List Turn
  pub run : Run base (resting base []) events (resting base order)
  pub complete : IsComplete base order
  pub turns : FollowsSchedule base schedule events
  pub named : NameConflicts base (resting base []) events
  pub rest : List ℕ
  pub output : bytes ++ rest ≡ lines events ++ report base order (retries_of base events)
