use Rattle.std.proofs.Common.{◌≡◌, ◌++◌, drop}
use Rattle.fx_report.specs.Entries.{entries_of}
use Rattle.fx_report.specs.Report.{entries_text}
use Rattle.fx_report.proofs.lines.add_log.Given as goal

abbrev pub invariant-loop-i : goal.invariant-loop-i
invariant-loop-i l = l.out.items ++ entries_text l.i (drop l.i (entries_of l.board.base l.board.order)) ≡ l.fn.out.items ++ entries_text 0 (entries_of l.board.base l.board.order)
