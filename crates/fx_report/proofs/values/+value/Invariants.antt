use Rattle.std.proofs.Common.{◌≡◌, ◌++◌, map, take}
use Rattle.std.specs.List.{join_by, zip}
use Rattle.fx_expr.specs.Views.{tree_of}
use Rattle.fx_report.specs.Print.{comma, row_text}
use Rattle.fx_report.proofs.values.+value.Given as goal

abbrev pub invariant-add_rows-loop-i : goal.invariant-add_rows-loop-i
invariant-add_rows-loop-i l =
    l.out.items ≡ l.fn.out.items ++ join_by row_text comma (take l.i (zip l.keys (map tree_of l.values)))
