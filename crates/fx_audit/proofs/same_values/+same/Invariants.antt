use Rattle.std.proofs.Common.{◌≡◌, map, take}
use Rattle.fx_expr.specs.Views.{tree_of}
use Rattle.fx_audit.proofs.same_values.+same.Given as goal

abbrev pub invariant-are_same-loop-i : goal.invariant-are_same-loop-i
invariant-are_same-loop-i l = map tree_of (take l.i l.values) ≡ map tree_of (take l.i l.others)
