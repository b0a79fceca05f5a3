-- A watched run up to some moment.
use Rattle.std.specs.Prelude.{◌≡◌, ℕ, suc, List, [], ◌++◌, length, Option, Some, None}
use Rattle.std.specs.FinMap.{get}
use Rattle.fx_spec.specs.Plans.{Turn}
use Rattle.fx_spec.specs.Order.{BaseTree, state}
use Rattle.fx_machine.specs.declared.event.Event.{Event}
use Rattle.fx_machine.specs.declared.event.Event.TheVariants.{Look, Settled, Conflict}
use Rattle.fx_machine.specs.Machine.{Run, resting}
use Rattle.fx_board.specs.Board.{state_at}
use Rattle.fx_board.specs.Log.{Log}
use Rattle.fx_sched.specs.Running.{Running}
use Rattle.fx_watch.specs.WatchView.{WatchView, AnswersFor}
use Rattle.fx_watch.specs.Lines.{watched_lines}

-- the entry that an event has settled
abbrev pub settled_entry : Event → Option ℕ
settled_entry (Look shell path position) = None
settled_entry (Settled shell entry) = Some entry
settled_entry (Conflict shell entry path) = None

-- the watch was told the filestore before the last entry of a log
pub record IsAtEntry (log : Log) (watch : WatchView) (entry : ℕ) : Type 0 where
  pub root : watch.root ≡ log.base.description
  pub last : length log.order ≡ suc entry
  pub told : AnswersFor watch (get (state_at log entry))

-- the events have led from the start to the state, the watch was told the filestore after all entries, and the lines of the events
-- are printed, whatever entries are to come
pub record HasWatched (base : BaseTree) (watch : WatchView) (output : List ℕ) (events : List Event) (running : Running) : Type 0 where
  pub begun : running.base ≡ base
  pub run : Run base (resting base []) events running.machine
  pub root : watch.root ≡ base.description
  pub told : AnswersFor watch (get (state base running.machine.order (length running.machine.order)))
  pub printed : (later : List Turn) → output ≡ watched_lines base (running.machine.order ++ later) events
