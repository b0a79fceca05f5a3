-- How deep the forms of a description and of a transaction are nested. A form's level is one more than that of the form
-- around it; a move or an edit is one form with its command.
use Rattle.std.specs.Prelude.{ℕ, ◌+◌, max, List, [], ◌∷◌}
use Rattle.fx_expr.specs.ExprTree.{ExprTree}
use Rattle.fx_expr.specs.ShapeTree.{ShapeTree}
use Rattle.fx_spec.specs.Written.{WrittenTree, DefTree, TextTree}
use Rattle.fx_spec.specs.CommandTree.{ActTree, CommandTree, Block, block}

abbrev pub expr_levels : ExprTree → ℕ
expr_levels (ExprTree.bin op a b) = 1 + max (expr_levels a) (expr_levels b)
expr_levels (ExprTree.un op a) = 1 + expr_levels a
expr_levels (ExprTree.choose c a b) = 1 + max (expr_levels c) (max (expr_levels a) (expr_levels b))
expr_levels (ExprTree.only a glob) = 1 + expr_levels a
expr_levels _ = 1

abbrev pub shape_levels : ShapeTree → ℕ
shape_levels (ShapeTree.pair a b) = 1 + max (shape_levels a) (shape_levels b)
shape_levels (ShapeTree.opt a) = 1 + shape_levels a
shape_levels (ShapeTree.table a) = 1 + shape_levels a
shape_levels _ = 1

abbrev pub exprs_levels : List ExprTree → ℕ
exprs_levels [] = 0
exprs_levels (e ∷ es) = max (expr_levels e) (exprs_levels es)

abbrev pub spec_levels : WrittenTree → ℕ
spec_levels (WrittenTree.focus e s) = 1 + max (expr_levels e) (spec_levels s)
spec_levels (WrittenTree.pair x a b) = 1 + max (spec_levels a) (spec_levels b)
spec_levels (WrittenTree.comp s x e) = 1 + max (spec_levels s) (expr_levels e)
spec_levels (WrittenTree.opt s) = 1 + spec_levels s
spec_levels (WrittenTree.pred e) = 1 + expr_levels e
spec_levels (WrittenTree.call f args) = 1 + exprs_levels args
spec_levels _ = 1

abbrev pub params_levels : List (List ℕ × ShapeTree) → ℕ
params_levels [] = 0
params_levels (p ∷ ps) = max (shape_levels p.1) (params_levels ps)

-- a definition is a form, and so are the shapes of its parameters and its body inside it
abbrev pub def_levels : DefTree → ℕ
def_levels d = 1 + max (params_levels d.params) (spec_levels d.body)

abbrev pub defs_levels : List DefTree → ℕ
defs_levels [] = 0
defs_levels (d ∷ ds) = max (def_levels d) (defs_levels ds)

abbrev pub text_levels : TextTree → ℕ
text_levels t = max (defs_levels t.defs) (spec_levels t.root)

abbrev pub act_levels : ActTree → ℕ
act_levels (ActTree.to e) = 1 + expr_levels e
act_levels (ActTree.store e) = 1 + expr_levels e
act_levels _ = 1

abbrev mutual
  pub command_levels : CommandTree → ℕ
  command_levels (CommandTree.act a) = act_levels a
  command_levels (CommandTree.attempt x a) = act_levels a
  command_levels (CommandTree.bind x e) = 1 + expr_levels e
  command_levels (CommandTree.assign x e) = 1 + expr_levels e
  command_levels (CommandTree.fetch x shape) = 1 + shape_levels shape
  command_levels (CommandTree.whole x shape) = 1 + shape_levels shape
  command_levels (CommandTree.validate x) = 1
  command_levels (CommandTree.print e) = 1 + expr_levels e
  command_levels (CommandTree.branch e a b) = 1 + max (expr_levels e) (max (block_levels a) (block_levels b))
  command_levels (CommandTree.each x e a) = 1 + max (expr_levels e) (block_levels a)
  command_levels CommandTree.abort = 1

  pub block_levels : Block → ℕ
  block_levels Block.none = 0
  block_levels (Block.then c cs) = max (command_levels c) (block_levels cs)

abbrev pub txn_levels : List CommandTree → ℕ
txn_levels commands = 1 + block_levels (block commands)
