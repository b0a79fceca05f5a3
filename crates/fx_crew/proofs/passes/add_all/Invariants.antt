use Rattle.std.proofs.Common.{◌≡◌, ◌++◌}
use Rattle.fx_crew.proofs.passes.add_all.Given as goal

abbrev pub invariant-loop-retry : goal.invariant-loop-retry
invariant-loop-retry l = l.retries ≡ l.initial.retries ++ l.yielded
