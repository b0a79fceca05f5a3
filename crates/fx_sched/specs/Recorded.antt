-- What is recorded of a run.
use Rattle.std.specs.Prelude.{◌≡◌, ℕ, ◌<◌, false, List, [], ◌++◌, length, slice_index_or, Contains}
use Rattle.std.specs.List.{flat_map}
use Rattle.fx_machine.specs.declared.event.Event.{Event}
use Rattle.fx_machine.specs.declared.retry.Retry.{Retry}
use Rattle.fx_machine.specs.Machine.{Run, resting}
use Rattle.fx_machine.specs.Measure.{has_left}
use Rattle.fx_machine.specs.Tried.{conflicts_of}
use Rattle.fx_machine.specs.Turns.{TakesTurns, BeginsTurns}
use Rattle.fx_diaries.specs.Named.{NameConflicts}
use Rattle.fx_sched.specs.Running.{Running}

-- a run up to some moment: the events that have come, and what they have led to
pub record Play : Type 0 where
  pub events : List Event
  pub world : Running

-- the events are a run of the machine from the start, and the retries are its conflicts, each of which names the least path that
-- was changed and the last entry that changed it
pub record IsRecording (r : Play) : Type 0 where
  pub run : Run r.world.base (resting r.world.base []) r.events r.world.machine
  pub named : NameConflicts r.world.base (resting r.world.base []) r.events
  pub count : length r.world.retries ≡ length r.world.base.plan
  pub conflicts : (k : ℕ) → k < length r.world.base.plan → slice_index_or (r.world.retries) k [] ≡ conflicts_of k 0 r.events

-- these shells have had their turns: a run leads from the one state to the other, and no event has come where none of the shells
-- had a transaction left
pub record RunsBy (old : Running) (turns : List ℕ) (new : Running) : Type 0 where
  pub base : new.base ≡ old.base
  pub more : List Event
  pub run : Run old.base old.machine more new.machine
  pub idle : more ≡ [] → (k : ℕ) → Contains turns k → has_left old.base old.machine k ≡ false

-- the same of what has come since the play so far
pub record HadTurns (old : Play) (turns : List ℕ) (new : Play) : Type 0 where
  pub recording : IsRecording new
  pub base : new.world.base ≡ old.world.base
  pub more : List Event
  pub events : new.events ≡ old.events ++ more
  pub run : Run old.world.base old.world.machine more new.world.machine
  pub idle : more ≡ [] → (k : ℕ) → Contains turns k → has_left old.world.base old.world.machine k ≡ false
  pub takes : (later : List ℕ) (events : List Event) → TakesTurns old.world.base new.events later events → TakesTurns old.world.base old.events (turns ++ later) (more ++ events)
  pub begins : (later : List ℕ) (events : List Event) → BeginsTurns old.world.base new.events later events → BeginsTurns old.world.base old.events (turns ++ later) (more ++ events)

-- all shells have had turns in rounds, until none had a transaction left
pub record HadRounds (old new : Play) : Type 0 where
  pub recording : IsRecording new
  pub base : new.world.base ≡ old.world.base
  pub more : List Event
  pub events : new.events ≡ old.events ++ more
  pub over : (k : ℕ) → has_left new.world.base new.world.machine k ≡ false
  pub takes : TakesTurns old.world.base old.events [] more
  pub begins : BeginsTurns old.world.base old.events [] more

-- the retries of all shells, by shell
abbrev pub joined : List (List Retry) → List Retry
joined lists = flat_map (λ list. list) lists
