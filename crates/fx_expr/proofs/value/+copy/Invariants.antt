use Rattle.std.proofs.Common.{◌≡◌, map, take}
use Rattle.fx_expr.specs.Views.{tree_of}
use Rattle.fx_expr.proofs.value.+copy.Given as goal

abbrev pub invariant-copy_values-loop-value : goal.invariant-copy_values-loop-value
invariant-copy_values-loop-value l = map tree_of l.copies.items ≡ map tree_of (take l.value-index l.values)
