-- Commands as plain trees.
use Rattle.std.specs.Prelude.{ℕ, ◌+◌, List, [], ◌∷◌}
use Rattle.fx_expr.specs.ExprTree.{ExprTree}
use Rattle.fx_expr.specs.ShapeTree.{ShapeTree}

-- a move or an edit
pub data ActTree : Type 0 where
  into : ActTree
  to : ExprTree → ActTree
  next prev out down up top : ActTree
  store : ExprTree → ActTree
  create remove : ActTree

mutual
  pub data CommandTree : Type 0 where
    act : ActTree → CommandTree
    attempt : List ℕ → ActTree → CommandTree
    bind : List ℕ → ExprTree → CommandTree
    assign : List ℕ → ExprTree → CommandTree
    fetch : List ℕ → ShapeTree → CommandTree
    whole : List ℕ → ShapeTree → CommandTree
    validate : List ℕ → CommandTree
    print : ExprTree → CommandTree
    branch : ExprTree → Block → Block → CommandTree
    each : List ℕ → ExprTree → Block → CommandTree
    abort : CommandTree

  -- commands one after another
  pub data Block : Type 0 where
    none : Block
    then : CommandTree → Block → Block

abbrev pub block : List CommandTree → Block
block [] = none
block (c ∷ cs) = then c (block cs)

-- the number of commands of a command and of a block, nested ones included
abbrev mutual
  pub count : CommandTree → ℕ
  count (CommandTree.branch e a b) = 1 + (count_block a + count_block b)
  count (CommandTree.each x e a) = 1 + count_block a
  count _ = 1

  pub count_block : Block → ℕ
  count_block none = 0
  count_block (then c cs) = count c + count_block cs

-- a number that falls from commands to those inside them
abbrev pub commands_size : List CommandTree → ℕ
commands_size cs = count_block (block cs)
