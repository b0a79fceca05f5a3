use Rattle.std.proofs.Common.{◌≡◌, take}
use Rattle.std.specs.List.{count_by}
use Rattle.fx_report.specs.declared.printed.PrintedEntry.{PrintedEntry}
use Rattle.fx_report.specs.Entries.{entries_of}
use Rattle.fx_large_commands.specs.Summary.{is_done}
use Rattle.fx_large_commands.proofs.entries.done.Given as goal

abbrev pub invariant-loop-i : goal.invariant-loop-i
invariant-loop-i l = l.done ≡ count_by (λ (e : PrintedEntry). is_done e.end) (take l.i (entries_of l.board.base l.board.order))
