-- What a whole run by a schedule says.
use Rattle.std.specs.Prelude.{◌≡◌, ℕ, List, [], map}
use Rattle.fx_spec.specs.Order.{BaseTree, IsComplete, RetriesOk}
use Rattle.fx_machine.specs.Machine.{Run, resting}
use Rattle.fx_machine.specs.Tried.{retries_of, retry_tree}
use Rattle.fx_machine.specs.Turns.{FollowsSchedule}
use Rattle.fx_diaries.specs.Named.{NameConflicts}
use Rattle.fx_sched.specs.declared.schedule.Traced.{Traced}

-- the events are a run of the machine from the start to a complete order with no looks left, by the schedule's turns; each
-- conflict names the least path that was changed and the last entry that changed it, and the retries are the conflicts, by shell
pub record IsTraced (base : BaseTree) (schedule : List ℕ) (traced : Traced) : Type 0 where
  pub begun : traced.board.base ≡ base
  pub run : Run base (resting base []) traced.events (resting base traced.board.order)
  pub complete : IsComplete base traced.board.order
  pub turns : FollowsSchedule base schedule traced.events
  pub named : NameConflicts base (resting base []) traced.events
  pub conflicts : traced.retries ≡ retries_of base traced.events
  pub tried : RetriesOk base traced.board.order (map retry_tree traced.retries)
