use Rattle.std.proofs.Common.{◌≡◌}
use Rattle.fx_read_report.proofs.reading.listed.Given as goal

abbrev pub invariant-listing : goal.invariant-listing
invariant-listing l = l.list ≡ l.yielded
