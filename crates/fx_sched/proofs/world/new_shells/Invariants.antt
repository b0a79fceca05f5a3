use Rattle.std.proofs.Common.{◌≡◌, replicate}
use Rattle.fx_sched.specs.World.{new_shell}
use Rattle.fx_sched.proofs.world.new_shells.Given as goal

abbrev pub invariant-loop-shell : goal.invariant-loop-shell
invariant-loop-shell l = l.shells.items ≡ replicate l._shell new_shell
