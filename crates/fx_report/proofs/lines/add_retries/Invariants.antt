use Rattle.std.proofs.Common.{◌≡◌, ◌++◌}
use Rattle.std.specs.List.{flat_map}
use Rattle.std.specs.Slice.Iter.{iter_rest}
use Rattle.fx_report.specs.Report.{retry_line}
use Rattle.fx_report.proofs.lines.add_retries.Given as goal

abbrev pub invariant-loop-retry : goal.invariant-loop-retry
invariant-loop-retry l = l.out.items ++ flat_map retry_line (iter_rest l.retry-iterator) ≡ l.fn.out.items ++ flat_map retry_line l.retries
