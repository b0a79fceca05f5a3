use Rattle.std.proofs.Common.{◌≡◌}
use Rattle.fx_check.proofs.settling.settled_args.Given as goal

abbrev pub invariant-loop-formula : goal.invariant-loop-formula
invariant-loop-formula l = l.settled ≡ l.yielded
