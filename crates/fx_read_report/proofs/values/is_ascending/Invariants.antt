use Rattle.std.proofs.Common.{◌≡◌, length}
use Rattle.fx_read_report.specs.Limits.{ascends}
use Rattle.fx_read_report.proofs.values.is_ascending.Given as goal

abbrev pub invariant-rising : goal.invariant-rising
invariant-rising l = ascends l.texts ≡ ascends l.rest

abbrev pub decreases-rising : goal.decreases-rising
decreases-rising l = length l.rest
