-- How the logic stores a value, a shape and an expression: each is written as a term, and is read back from it.
use Rattle.std.proofs.Common.{◌≡◌, ◌⊎◌, inl, inr, ℕ, ℤ, pos, true, false, List, [], ◌∷◌, get_or, refl}
use Rattle.std.specs.Coded.{Coded, code_by, coded×, coded⊎, coded_ℕ, coded_ℤ, coded_list}
use Rattle.fx_base.proofs.Terms.{Term, leaf, node, coded_term, text, text_of, form, form1, form2}
use Rattle.fx_expr.specs.contracts.expr.BinOp as binary
use Rattle.fx_expr.specs.contracts.expr.UnOp as unary
use Rattle.fx_expr.specs.declared.expr.BinOp.{BinOp}
use Rattle.fx_expr.specs.declared.expr.BinOp.TheVariants.{Join}
use Rattle.fx_expr.specs.declared.expr.UnOp.{UnOp}
use Rattle.fx_expr.specs.declared.expr.UnOp.TheVariants.{Not}
use Rattle.fx_expr.specs.Tree.{Tree, TreeRows}
use Rattle.fx_expr.specs.ShapeTree.{ShapeTree}
use Rattle.fx_expr.specs.ExprTree.{ExprTree}

abbrev pub coded_bytes : Coded (List ℕ)
coded_bytes = coded_list coded_ℕ

-- ---- leaves: texts, integers, sets, operators

abbrev pub Leaf : Type 0
Leaf = List ℕ ⊎ (ℤ ⊎ (List (List ℕ) ⊎ (BinOp ⊎ UnOp)))

abbrev pub coded_leaf : Coded Leaf
coded_leaf = coded⊎ coded_bytes (coded⊎ coded_ℤ (coded⊎ (coded_list coded_bytes) (coded⊎ (binary.the_row).coded (unary.the_row).coded)))

abbrev int_of : Term Leaf → ℤ
int_of (leaf (inr (inl z))) = z
int_of _ = pos 0

abbrev names_of : Term Leaf → List (List ℕ)
names_of (leaf (inr (inr (inl ts)))) = ts
names_of _ = []

abbrev binary_of : Term Leaf → BinOp
binary_of (leaf (inr (inr (inr (inl op))))) = op
binary_of _ = Join

abbrev unary_of : Term Leaf → UnOp
unary_of (leaf (inr (inr (inr (inr op))))) = op
unary_of _ = Not

-- ---- values

abbrev mutual
  pub tree_term : Tree → Term Leaf
  tree_term (Tree.str t) = form1 0 (text t)
  tree_term (Tree.int z) = form1 1 (leaf (inr (inl z)))
  tree_term (Tree.bool false) = form 2
  tree_term (Tree.bool true) = form 3
  tree_term (Tree.names ts) = form1 4 (leaf (inr (inr (inl ts))))
  tree_term (Tree.pair a b) = form2 5 (tree_term a) (tree_term b)
  tree_term Tree.nothing = form 6
  tree_term (Tree.some a) = form1 7 (tree_term a)
  tree_term (Tree.table r) = form1 8 (rows_term r)

  pub rows_term : TreeRows → Term Leaf
  rows_term TreeRows.no_rows = text []
  rows_term (TreeRows.row t a r) = node 0 (text t) (tree_term a) (rows_term r)

abbrev mutual
  pub term_tree : Term Leaf → Tree
  term_tree (leaf _) = Tree.nothing
  term_tree (node n a b c) = get_or
      (Tree.str (text_of a) ∷ Tree.int (int_of a) ∷ Tree.bool false ∷ Tree.bool true ∷ Tree.names (names_of a) ∷
      Tree.pair (term_tree a) (term_tree b) ∷ Tree.nothing ∷ Tree.some (term_tree a) ∷ Tree.table (term_rows a) ∷ [])
      n Tree.nothing

  pub term_rows : Term Leaf → TreeRows
  term_rows (leaf _) = TreeRows.no_rows
  term_rows (node _ a b c) = TreeRows.row (text_of a) (term_tree b) (term_rows c)

mutual
  pub tree_back : (t : Tree) → term_tree (tree_term t) ≡ t
  tree_back (Tree.bool false) = refl
  tree_back (Tree.bool true) = refl
  tree_back (Tree.pair a b) = λ i. Tree.pair (tree_back a i) (tree_back b i)
  tree_back (Tree.some a) = λ i. Tree.some (tree_back a i)
  tree_back (Tree.table r) = λ i. Tree.table (rows_back r i)
  tree_back _ = refl

  pub rows_back : (r : TreeRows) → term_rows (rows_term r) ≡ r
  rows_back TreeRows.no_rows = refl
  rows_back (TreeRows.row t a r) = λ i. TreeRows.row t (tree_back a i) (rows_back r i)

abbrev pub coded_tree : Coded Tree
coded_tree = code_by (Term Leaf) (coded_term coded_leaf) tree_term term_tree tree_back

abbrev pub coded_trees : Coded (List Tree)
coded_trees = coded_list coded_tree

abbrev pub coded_bindings : Coded (List (List ℕ × Tree))
coded_bindings = coded_list (coded× coded_bytes coded_tree)

-- ---- shapes

abbrev pub shape_term : ShapeTree → Term Leaf
shape_term ShapeTree.str = form 0
shape_term ShapeTree.int = form 1
shape_term ShapeTree.bool = form 2
shape_term ShapeTree.names = form 3
shape_term (ShapeTree.pair a b) = form2 4 (shape_term a) (shape_term b)
shape_term (ShapeTree.opt a) = form1 5 (shape_term a)
shape_term (ShapeTree.table a) = form1 6 (shape_term a)

abbrev pub term_shape : Term Leaf → ShapeTree
term_shape (leaf _) = ShapeTree.str
term_shape (node n a b c) = get_or
    (ShapeTree.str ∷ ShapeTree.int ∷ ShapeTree.bool ∷ ShapeTree.names ∷
    ShapeTree.pair (term_shape a) (term_shape b) ∷ ShapeTree.opt (term_shape a) ∷ ShapeTree.table (term_shape a) ∷ [])
    n ShapeTree.str

pub shape_back : (t : ShapeTree) → term_shape (shape_term t) ≡ t
shape_back (ShapeTree.pair a b) = λ i. ShapeTree.pair (shape_back a i) (shape_back b i)
shape_back (ShapeTree.opt a) = λ i. ShapeTree.opt (shape_back a i)
shape_back (ShapeTree.table a) = λ i. ShapeTree.table (shape_back a i)
shape_back _ = refl

abbrev pub coded_shape : Coded ShapeTree
coded_shape = code_by (Term Leaf) (coded_term coded_leaf) shape_term term_shape shape_back

-- ---- expressions

abbrev pub expr_term : ExprTree → Term Leaf
expr_term (ExprTree.str t) = form1 0 (text t)
expr_term (ExprTree.int z) = form1 1 (leaf (inr (inl z)))
expr_term (ExprTree.bool false) = form 2
expr_term (ExprTree.bool true) = form 3
expr_term ExprTree.empty = form 4
expr_term (ExprTree.var x) = form1 5 (text x)
expr_term (ExprTree.bin op a b) = node 6 (leaf (inr (inr (inr (inl op))))) (expr_term a) (expr_term b)
expr_term (ExprTree.un op a) = form2 7 (leaf (inr (inr (inr (inr op))))) (expr_term a)
expr_term (ExprTree.choose a b c) = node 8 (expr_term a) (expr_term b) (expr_term c)
expr_term (ExprTree.only a t) = form2 9 (expr_term a) (text t)

abbrev pub term_expr : Term Leaf → ExprTree
term_expr (leaf _) = ExprTree.empty
term_expr (node n a b c) = get_or
    (ExprTree.str (text_of a) ∷ ExprTree.int (int_of a) ∷ ExprTree.bool false ∷ ExprTree.bool true ∷
    ExprTree.empty ∷ ExprTree.var (text_of a) ∷ ExprTree.bin (binary_of a) (term_expr b) (term_expr c) ∷
    ExprTree.un (unary_of a) (term_expr b) ∷ ExprTree.choose (term_expr a) (term_expr b) (term_expr c) ∷
    ExprTree.only (term_expr a) (text_of b) ∷ [])
    n ExprTree.empty

pub expr_back : (e : ExprTree) → term_expr (expr_term e) ≡ e
expr_back (ExprTree.bool false) = refl
expr_back (ExprTree.bool true) = refl
expr_back (ExprTree.bin op a b) = λ i. ExprTree.bin op (expr_back a i) (expr_back b i)
expr_back (ExprTree.un op a) = λ i. ExprTree.un op (expr_back a i)
expr_back (ExprTree.choose a b c) = λ i. ExprTree.choose (expr_back a i) (expr_back b i) (expr_back c i)
expr_back (ExprTree.only a t) = λ i. ExprTree.only (expr_back a i) t
expr_back _ = refl

abbrev pub coded_expr : Coded ExprTree
coded_expr = code_by (Term Leaf) (coded_term coded_leaf) expr_term term_expr expr_back
