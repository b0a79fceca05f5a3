-- How a run of the machine goes on, and that it comes to its end.
use Rattle.std.specs.Prelude.{◌≡◌, ℕ, List, [], ◌++◌, IsSome}
use Rattle.std.specs.FinMap.{get}
use Rattle.fx_store.specs.Whole.{IsWhole}
use Rattle.fx_spec.specs.Plans.{Turn}
use Rattle.fx_spec.specs.Order.{BaseTree, IsComplete}
use Rattle.fx_machine.specs.declared.event.Event.{Event}
use Rattle.fx_machine.specs.Laws.{IsReached}
use Rattle.fx_machine.specs.Machine.{Machine, Step, Run, resting, next_txn, shell_of}
use Rattle.fx_machine.specs.Turns.{BeginsTurns, FollowsSchedule}

-- an event of this shell leads on from the state
pub record HasEvent (base : BaseTree) (m : Machine) (shell : ℕ) : Type 0 where
  pub event : Event
  pub after : Machine
  pub whose : shell_of event ≡ shell
  pub step : Step base m event after

abbrev pub GoesOn : Type 0
GoesOn =
    (base : BaseTree) (m : Machine) (shell : ℕ) → IsWhole (get base.loaded) → IsReached base m → IsSome (next_txn base m.order shell) → HasEvent base m shell

-- some events more lead to a complete order with no looks left, and with those before them they are by the schedule's turns
pub record HasEnd (base : BaseTree) (schedule : List ℕ) (before : List Event) (m : Machine) : Type 0 where
  pub later : List Event
  pub order : List Turn
  pub run : Run base m later (resting base order)
  pub complete : IsComplete base order
  pub turns : FollowsSchedule base schedule (before ++ later)

abbrev pub ComesToEnd : Type 0
ComesToEnd =
    (base : BaseTree) (schedule : List ℕ) (events : List Event) (m : Machine) → IsWhole (get base.loaded) → Run base (resting base []) events m → BeginsTurns base [] schedule events → HasEnd base schedule events m
