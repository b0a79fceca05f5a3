-- Which shape an expression has, and which values have a shape.
use Rattle.std.specs.Prelude.{◌≡◌, ℕ, List, [], ◌∷◌, Some}
use Rattle.fx_expr.specs.declared.expr.BinOp.{BinOp}
use Rattle.fx_expr.specs.declared.expr.UnOp.{UnOp}
use Rattle.fx_expr.specs.Bindings.{bound}
use Rattle.fx_expr.specs.Tree.{Tree, TreeRows, no_rows, row}
use Rattle.fx_expr.specs.ShapeTree.{ShapeTree}
use Rattle.fx_expr.specs.ExprTree.{ExprTree}

-- the shapes that `==` compares
abbrev pub IsComparable : ShapeTree → Type 0
IsComparable ShapeTree.str = Unit {0}
IsComparable ShapeTree.int = Unit {0}
IsComparable ShapeTree.bool = Unit {0}
IsComparable ShapeTree.names = Unit {0}
IsComparable _ = ⊥

-- the shapes that `<` compares
abbrev pub IsOrdered : ShapeTree → Type 0
IsOrdered ShapeTree.str = Unit {0}
IsOrdered ShapeTree.int = Unit {0}
IsOrdered _ = ⊥

-- the shapes with a size
abbrev pub IsSized : ShapeTree → Type 0
IsSized ShapeTree.str = Unit {0}
IsSized ShapeTree.names = Unit {0}
IsSized _ = ⊥

-- an operator takes values of the shapes u and v, and gives one of shape s
abbrev pub BinShape : BinOp → ShapeTree → ShapeTree → ShapeTree → Type 0
BinShape BinOp.Join u v s = (u ≡ ShapeTree.str) × (v ≡ ShapeTree.str) × (s ≡ ShapeTree.str)
BinShape BinOp.Plus u v s = (u ≡ ShapeTree.int) × (v ≡ ShapeTree.int) × (s ≡ ShapeTree.int)
BinShape BinOp.Minus u v s = (u ≡ ShapeTree.int) × (v ≡ ShapeTree.int) × (s ≡ ShapeTree.int)
BinShape BinOp.Equal u v s = IsComparable u × (v ≡ u) × (s ≡ ShapeTree.bool)
BinShape BinOp.Less u v s = IsOrdered u × (v ≡ u) × (s ≡ ShapeTree.bool)
BinShape BinOp.And u v s = (u ≡ ShapeTree.bool) × (v ≡ ShapeTree.bool) × (s ≡ ShapeTree.bool)
BinShape BinOp.Or u v s = (u ≡ ShapeTree.bool) × (v ≡ ShapeTree.bool) × (s ≡ ShapeTree.bool)
BinShape BinOp.Member u v s = (u ≡ ShapeTree.str) × (v ≡ ShapeTree.names) × (s ≡ ShapeTree.bool)
BinShape _ u v s = (u ≡ ShapeTree.names) × (v ≡ ShapeTree.names) × (s ≡ ShapeTree.names)

-- an operator takes a value of shape u, and gives one of shape s
abbrev pub UnShape : UnOp → ShapeTree → ShapeTree → Type 0
UnShape UnOp.Not u s = (u ≡ ShapeTree.bool) × (s ≡ ShapeTree.bool)
UnShape UnOp.One u s = (u ≡ ShapeTree.str) × (s ≡ ShapeTree.names)
UnShape UnOp.Lines u s = (u ≡ ShapeTree.str) × (s ≡ ShapeTree.names)
UnShape UnOp.Size u s = IsSized u × (s ≡ ShapeTree.int)
UnShape UnOp.Int u s = (u ≡ ShapeTree.str) × (s ≡ ShapeTree.int)
UnShape UnOp.Text u s = (u ≡ ShapeTree.int) × (s ≡ ShapeTree.str)
UnShape UnOp.First u s = (t : ShapeTree) × (u ≡ ShapeTree.pair s t)
UnShape UnOp.Second u s = (t : ShapeTree) × (u ≡ ShapeTree.pair t s)
UnShape UnOp.Keys u s = (t : ShapeTree) × (u ≡ ShapeTree.table t) × (s ≡ ShapeTree.names)
UnShape UnOp.Present u s = (t : ShapeTree) × (u ≡ ShapeTree.opt t) × (s ≡ ShapeTree.bool)

-- the expression has the shape s, where the bound words have theirs
abbrev pub HasShape : List (List ℕ × ShapeTree) → ExprTree → ShapeTree → Type 0
HasShape g (ExprTree.str text) s = s ≡ ShapeTree.str
HasShape g (ExprTree.int n) s = s ≡ ShapeTree.int
HasShape g (ExprTree.bool b) s = s ≡ ShapeTree.bool
HasShape g ExprTree.empty s = s ≡ ShapeTree.names
HasShape g (ExprTree.var word) s = bound g word ≡ Some s
HasShape g (ExprTree.bin op a b) s = (u : ShapeTree) × (v : ShapeTree) × BinShape op u v s × HasShape g a u × HasShape g b v
HasShape g (ExprTree.un op a) s = (u : ShapeTree) × UnShape op u s × HasShape g a u
HasShape g (ExprTree.choose c a b) s = HasShape g c ShapeTree.bool × HasShape g a s × HasShape g b s
HasShape g (ExprTree.only a glob) s = (s ≡ ShapeTree.names) × HasShape g a ShapeTree.names

-- the value has the shape s; an optional value has every shape of options where it is not there
abbrev mutual
  pub ValueHas : Tree → ShapeTree → Type 0
  ValueHas (Tree.str text) s = s ≡ ShapeTree.str
  ValueHas (Tree.int n) s = s ≡ ShapeTree.int
  ValueHas (Tree.bool b) s = s ≡ ShapeTree.bool
  ValueHas (Tree.names names) s = s ≡ ShapeTree.names
  ValueHas (Tree.pair a b) s = (t : ShapeTree) × (u : ShapeTree) × (s ≡ ShapeTree.pair t u) × ValueHas a t × ValueHas b u
  ValueHas Tree.nothing s = (t : ShapeTree) × (s ≡ ShapeTree.opt t)
  ValueHas (Tree.some a) s = (t : ShapeTree) × (s ≡ ShapeTree.opt t) × ValueHas a t
  ValueHas (Tree.table rows) s = (t : ShapeTree) × (s ≡ ShapeTree.table t) × RowsHave rows t

  pub RowsHave : TreeRows → ShapeTree → Type 0
  RowsHave no_rows t = Unit {0}
  RowsHave (row text v rest) t = ValueHas v t × RowsHave rest t

-- the same words in the same order, each value with the word's shape
abbrev pub BindingsHave : List (List ℕ × Tree) → List (List ℕ × ShapeTree) → Type 0
BindingsHave [] [] = Unit {0}
BindingsHave [] (s ∷ g) = ⊥
BindingsHave (b ∷ env) [] = ⊥
BindingsHave (b ∷ env) (s ∷ g) = (b.0 ≡ s.0) × ValueHas b.1 s.1 × BindingsHave env g

-- the expression has a shape in some shapes that the environment's values have
pub record IsWellShaped (env : List (List ℕ × Tree)) (e : ExprTree) : Type 0 where
  pub shapes : List (List ℕ × ShapeTree)
  pub shape : ShapeTree
  pub bindings : BindingsHave env shapes
  pub expression : HasShape shapes e shape
