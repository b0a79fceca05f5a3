use Rattle.std.proofs.Common.{◌≡◌, ◌++◌, map}
use Rattle.std.specs.List.{flat_map}
use Rattle.std.specs.Slice.Iter.{iter_rest}
use Rattle.fx_expr.specs.Views.{tree_of}
use Rattle.fx_report.specs.Report.{print_line}
use Rattle.fx_report.proofs.lines.add_print_lines.Given as goal

abbrev pub invariant-loop-value : goal.invariant-loop-value
invariant-loop-value l = l.out.items ++ flat_map print_line (map tree_of (iter_rest l.value-iterator)) ≡ l.fn.out.items ++ flat_map print_line l.outputs
