-- Shells with transactions left.
use Rattle.std.specs.Prelude.{◌≡◌, ℕ, ◌<◌, true, length}
use Rattle.fx_machine.specs.Measure.{has_left}
use Rattle.fx_sched.specs.Running.{Running}

-- some shell of the plan has a transaction left
pub record SomeLeft (running : Running) : Type 0 where
  pub shell : ℕ
  pub within : shell < length running.base.plan
  pub left : has_left running.base running.machine shell ≡ true
