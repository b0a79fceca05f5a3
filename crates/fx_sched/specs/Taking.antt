-- Runs whose events were taken as they came, up to their end or to some moment.
use Rattle.std.specs.Prelude.{◌≡◌, ℕ, List, [], ◌∷◌, ◌++◌, Result, Ok, Err}
use Rattle.fx_spec.specs.Order.{BaseTree}
use Rattle.fx_machine.specs.declared.event.Event.{Event}
use Rattle.fx_machine.specs.declared.retry.Retry.{Retry}
use Rattle.fx_machine.specs.Turns.{BeginsTurns}
use Rattle.fx_board.specs.Log.{Log}
use Rattle.fx_sched.specs.declared.taking.Ended.{Ended}
use Rattle.fx_sched.specs.declared.taking.Ended.TheVariants as ended
use Rattle.fx_sched.specs.Running.{Running}
use Rattle.fx_sched.specs.Recorded.{Play, IsRecording, HadTurns, HadRounds}
use Rattle.fx_sched.specs.Traced.{IsTraced}
use Rattle.fx_sched.specs.World.{began}

-- some of these turns were had since the play so far, and of rounds behind them: what came is a run
pub record HadSome (start : Play) (turns : List ℕ) (new : Play) : Type 0 where
  pub recording : IsRecording new
  pub base : new.world.base ≡ start.world.base
  pub more : List Event
  pub events : new.events ≡ start.events ++ more
  pub begins : BeginsTurns start.world.base start.events turns more

-- nothing has come yet
abbrev pub a_start : BaseTree → Play
a_start base = record { events = []; world = began base }

module _ {T : Type 0} (took : T → List Event → Running → Type 0) where
  -- whatever play the taker has taken up to the state
  abbrev pub AfterPlay : Running → T → (Play → Type 0) → Type 0
  AfterPlay world taker P = (p : Play) → p.world ≡ world → IsRecording p → took taker p.events p.world → P p

  -- these shells have had their turns since the play so far, and what came was taken
  pub record HadTurnsWith (start : Play) (turns : List ℕ) (world : Running) (taker : T) : Type 0 where
    pub play : Play
    pub there : play.world ≡ world
    pub taken : took taker play.events play.world
    pub had : HadTurns start turns play

  -- so have all shells in rounds, until none had a transaction left
  pub record HadRoundsWith (start : Play) (world : Running) (taker : T) : Type 0 where
    pub play : Play
    pub there : play.world ≡ world
    pub taken : took taker play.events play.world
    pub had : HadRounds start play

  -- so have the shells of a schedule, and then all in rounds
  pub record HadAllWith (start : Play) (schedule : List ℕ) (world : Running) (taker : T) : Type 0 where
    pub play : Play
    pub there : play.world ≡ world
    pub taken : took taker play.events play.world
    pub between : Play
    pub turns : HadTurns start schedule between
    pub rounds : HadRounds between play

  -- some turns were had, and what came was taken
  pub record HasPaused (start : Play) (turns : List ℕ) (world : Running) (taker : T) : Type 0 where
    pub play : Play
    pub there : play.world ≡ world
    pub taken : took taker play.events play.world
    pub had : HadSome start turns play

  -- the whole run: its events were taken
  pub record IsPlayed (base : BaseTree) (schedule : List ℕ) (taker : T) (board : Log) (retries : List Retry) : Type 0 where
    pub events : List Event
    pub world : Running
    pub taken : took taker events world
    pub traced : IsTraced base schedule (record { board = board; retries = retries; events = events })

  module _ {S : Type 0} (refused : T → S → List Event → Event → Running → Type 0) where
    -- some turns were had, and what came was taken but for the last event, which was refused
    pub record HasStopped (start : Play) (turns : List ℕ) (world : Running) (taker : T) (stop : S) : Type 0 where
      pub events : List Event
      pub event : Event
      pub why : refused taker stop events event world
      pub had : HadSome start turns (record { events = events ++ event ∷ []; world = world })

    -- the run ended before its end
    abbrev pub HasEnded : Play → List ℕ → Running → T → Ended S → Type 0
    HasEnded start turns world taker ended.NoMemory = HasPaused start turns world taker
    HasEnded start turns world taker (ended.Stopped stop) = HasStopped start turns world taker stop

    abbrev pub HasEndedSomewhere : Play → List ℕ → T → Ended S → Type 0
    HasEndedSomewhere start turns taker ended = (world : Running) × HasEnded start turns world taker ended

    -- these shells have had their turns, or the run ended before, whatever turns were to follow
    abbrev pub TookTurns : Play → List ℕ → Running → T → Result Unit (Ended S) → Type 0
    TookTurns start turns world taker (Ok _) = HadTurnsWith start turns world taker
    TookTurns start turns world taker (Err ended) = (later : List ℕ) → HasEnded start (turns ++ later) world taker ended

    -- all shells have had turns in rounds to the end, or the run ended before
    abbrev pub TookRounds : Play → Running → T → Result Unit (Ended S) → Type 0
    TookRounds start world taker (Ok _) = HadRoundsWith start world taker
    TookRounds start world taker (Err ended) = HasEnded start [] world taker ended

    -- the shells of a schedule have had their turns, and then all in rounds to the end, or the run ended before
    abbrev pub TookAll : Play → List ℕ → Running → T → Result Unit (Ended S) → Type 0
    TookAll start schedule world taker (Ok _) = HadAllWith start schedule world taker
    TookAll start schedule world taker (Err ended) = HasEnded start schedule world taker ended
