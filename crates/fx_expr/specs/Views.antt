-- Which plain tree a shape, a value and an expression of the program stand for.
use Rattle.std.specs.Prelude.{ℕ, List}
use Rattle.fx_expr.specs.declared.shape.Shape.{Shape, fold-Shape}
use Rattle.fx_expr.specs.declared.shape.Shape.TheOpen.{Shape-F}
use Rattle.fx_expr.specs.declared.value.Value.{Value, fold-Value}
use Rattle.fx_expr.specs.declared.value.Value.TheOpen.{Value-F}
use Rattle.fx_expr.specs.declared.expr.Expr.{Expr, fold-Expr}
use Rattle.fx_expr.specs.declared.expr.Expr.TheOpen.{Expr-F}
use Rattle.fx_expr.specs.Tree.{Tree, rows}
use Rattle.fx_expr.specs.ShapeTree.{ShapeTree}
use Rattle.fx_expr.specs.ExprTree.{ExprTree}

-- one level of a shape, with each shape inside seen as its tree already
abbrev pub shape_step : Shape-F ShapeTree → ShapeTree
shape_step Shape-F.Str = ShapeTree.str
shape_step Shape-F.Int = ShapeTree.int
shape_step Shape-F.Bool = ShapeTree.bool
shape_step Shape-F.Names = ShapeTree.names
shape_step (Shape-F.Pair a b) = ShapeTree.pair a.value b.value
shape_step (Shape-F.Opt a) = ShapeTree.opt a.value
shape_step (Shape-F.Table a) = ShapeTree.table a.value

abbrev pub shape_tree : Shape → ShapeTree
shape_tree = fold-Shape ShapeTree shape_step

-- one level of an expression
abbrev pub expr_step : Expr-F ExprTree → ExprTree
expr_step (Expr-F.Str text) = ExprTree.str text
expr_step (Expr-F.Int n) = ExprTree.int n
expr_step (Expr-F.Bool b) = ExprTree.bool b
expr_step Expr-F.Empty = ExprTree.empty
expr_step (Expr-F.Var word) = ExprTree.var word
expr_step (Expr-F.Bin op a b) = ExprTree.bin op a.value b.value
expr_step (Expr-F.Un op a) = ExprTree.un op a.value
expr_step (Expr-F.Choose c a b) = ExprTree.choose c.value a.value b.value
expr_step (Expr-F.Only a glob) = ExprTree.only a.value glob

abbrev pub expr_tree : Expr → ExprTree
expr_tree = fold-Expr ExprTree expr_step

-- one level of a value
abbrev pub tree_step : Value-F Tree → Tree
tree_step (Value-F.Str t) = Tree.str t
tree_step (Value-F.Int n) = Tree.int n
tree_step (Value-F.Bool b) = Tree.bool b
tree_step (Value-F.Names xs) = Tree.names xs
tree_step (Value-F.Pair a b) = Tree.pair a.value b.value
tree_step Value-F.Nothing = Tree.nothing
tree_step (Value-F.Some a) = Tree.some a.value
tree_step (Value-F.Table entries) = Tree.table (rows entries)

abbrev pub tree_of : Value → Tree
tree_of = fold-Value Tree tree_step

-- a word or text with its value
abbrev pub entry_tree : List ℕ × Value → List ℕ × Tree
entry_tree e = (e.0, tree_of e.1)
