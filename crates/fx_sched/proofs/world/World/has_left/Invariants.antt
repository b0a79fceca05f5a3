use Rattle.std.proofs.Common.{◌≡◌, ℕ, ◌<◌, false}
use Rattle.fx_machine.specs.Measure.{has_left}
use Rattle.fx_sched.proofs.world.World.has_left.Given as goal

abbrev pub invariant-loop-shell : goal.invariant-loop-shell
invariant-loop-shell l = (k : ℕ) → k < l.shell → has_left l.self.base l.self.machine k ≡ false
