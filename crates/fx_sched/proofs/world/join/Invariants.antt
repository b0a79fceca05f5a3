use Rattle.std.proofs.Common.{◌≡◌, ◌≤◌, length}
use Rattle.std.specs.Vec.{vec_capacity}
use Rattle.fx_sched.specs.Recorded.{joined}
use Rattle.fx_sched.proofs.Worlds.{retries_in}
use Rattle.fx_sched.proofs.world.join.Given as goal

abbrev pub invariant-loop-shell : goal.invariant-loop-shell
invariant-loop-shell l = (l.all.items ≡ joined (retries_in l.yielded)) × (length (joined (retries_in l.fn.shells.items)) ≤ vec_capacity l.all)
