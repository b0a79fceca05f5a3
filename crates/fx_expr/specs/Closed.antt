-- Which expressions have no names, and what a value kept beside an expression is.
use Rattle.std.specs.Prelude.{◌≡◌, ℕ, Bool, true, false, ◌&&◌, List, Option, Some, None, Ok}
use Rattle.fx_expr.specs.Eval.{eval_of}
use Rattle.fx_expr.specs.ExprTree.{ExprTree}
use Rattle.fx_expr.specs.ShapeTree.{ShapeTree}
use Rattle.fx_expr.specs.Shapes.{HasShape}
use Rattle.fx_expr.specs.Tree.{Tree}

-- whether no name stands in the expression
abbrev pub is_closed : ExprTree → Bool
is_closed (ExprTree.str text) = true
is_closed (ExprTree.int n) = true
is_closed (ExprTree.bool b) = true
is_closed ExprTree.empty = true
is_closed (ExprTree.var word) = false
is_closed (ExprTree.bin op a b) = is_closed a && is_closed b
is_closed (ExprTree.un op a) = is_closed a
is_closed (ExprTree.choose c a b) = is_closed c && (is_closed a && is_closed b)
is_closed (ExprTree.only a glob) = is_closed a

-- a value that is kept beside the expression is its value, whatever its names stand for
abbrev pub IsKept : ExprTree → Option Tree → Type 0
IsKept e None = Unit {0}
IsKept e (Some v) = (env : List (List ℕ × Tree)) → eval_of env e ≡ Ok v

-- the expression has a shape, where its names have some shapes
pub record IsShaped (e : ExprTree) : Type 0 where
  pub names : List (List ℕ × ShapeTree)
  pub shape : ShapeTree
  pub has : HasShape names e shape
