use Rattle.std.proofs.Common.{◌≡◌, ◌++◌, take}
use Rattle.std.specs.List.{join_by}
use Rattle.fx_report.specs.Print.{comma, quote}
use Rattle.fx_report.proofs.values.add_names.Given as goal

abbrev pub invariant-loop-i : goal.invariant-loop-i
invariant-loop-i l = l.out.items ≡ l.fn.out.items ++ join_by quote comma (take l.i l.names)
