-- A parameter as a plain pair.
use Rattle.std.specs.Prelude.{ℕ, List}
use Rattle.fx_expr.specs.declared.shape.Shape.{Shape}
use Rattle.fx_expr.specs.ShapeTree.{ShapeTree}
use Rattle.fx_expr.specs.Views.{shape_tree}

abbrev pub param_tree : List ℕ × Shape → List ℕ × ShapeTree
param_tree p = (p.0, shape_tree p.1)
