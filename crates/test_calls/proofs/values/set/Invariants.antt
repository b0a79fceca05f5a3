use Rattle.std.proofs.Common.{[]}
use Rattle.fx_expr.specs.ShapeTree.{ShapeTree}
use Rattle.fx_expr.specs.Shapes.{HasShape}
use Rattle.fx_expr.specs.Views.{expr_tree}
use Rattle.test_calls.proofs.values.set.Given as goal

abbrev pub invariant-texts : goal.invariant-texts
invariant-texts l = HasShape [] (expr_tree l.set.value) ShapeTree.names
