use Rattle.std.proofs.Common.{◌≡◌, ◌++◌, drop}
use Rattle.fx_report.specs.Report.{entries_text}
use Rattle.fx_report.proofs.lines.add_entries.Given as goal

abbrev pub invariant-loop-i : goal.invariant-loop-i
invariant-loop-i l = l.out.items ++ entries_text l.i (drop l.i l.entries) ≡ l.fn.out.items ++ entries_text 0 l.entries
