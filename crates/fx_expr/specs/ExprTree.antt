-- Expressions as plain trees.
use Rattle.std.specs.Prelude.{ℕ, ℤ, Bool, List}
use Rattle.fx_expr.specs.declared.expr.BinOp.{BinOp}
use Rattle.fx_expr.specs.declared.expr.UnOp.{UnOp}

pub data ExprTree : Type 0 where
  str : List ℕ → ExprTree
  int : ℤ → ExprTree
  bool : Bool → ExprTree
  empty : ExprTree
  var : List ℕ → ExprTree
  bin : BinOp → ExprTree → ExprTree → ExprTree
  un : UnOp → ExprTree → ExprTree
  choose : ExprTree → ExprTree → ExprTree → ExprTree
  only : ExprTree → List ℕ → ExprTree
