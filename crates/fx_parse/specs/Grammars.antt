-- The tokens of expressions and shapes.
use Rattle.std.specs.Prelude.{ℕ, suc, Bool, true, false, not, ◌&&◌, List, [], ◌∷◌, ◌++◌, codes, bytes_eq}
use Rattle.std.specs.List.{list_any}
use Rattle.fx_expr.specs.ExprTree.{ExprTree}
use Rattle.fx_expr.specs.ShapeTree.{ShapeTree}
use Rattle.fx_expr.specs.declared.expr.BinOp.{BinOp}
use Rattle.fx_expr.specs.declared.expr.BinOp.TheVariants as binary
use Rattle.fx_expr.specs.declared.expr.UnOp.{UnOp}
use Rattle.fx_expr.specs.declared.expr.UnOp.TheVariants as unary
use Rattle.fx_lex.specs.declared.token.Token.{Token}
use Rattle.fx_lex.specs.declared.token.Token.TheVariants as token
use Rattle.fx_lex.specs.declared.token.Mark.TheVariants as mark
use Rattle.fx_parse.specs.Keywords.{kept_words}
use Rattle.fx_parse.specs.Readable.{Grammar}

abbrev pub opening : Token
opening = token.Mark mark.LeftParen

abbrev pub closing : Token
closing = token.Mark mark.RightParen

abbrev pub comma : Token
comma = token.Mark mark.Comma

-- the operator between two expressions
abbrev pub binary_token : BinOp → Token
binary_token binary.Join = token.Mark mark.PlusPlus
binary_token binary.Plus = token.Mark mark.Plus
binary_token binary.Minus = token.Mark mark.Minus
binary_token binary.Equal = token.Mark mark.EqualEqual
binary_token binary.Less = token.Mark mark.LeftAngle
binary_token binary.And = token.Word (codes "and")
binary_token binary.Or = token.Word (codes "or")
binary_token binary.Member = token.Word (codes "in")
binary_token binary.Union = token.Word (codes "union")
binary_token binary.Without = token.Word (codes "minus")

-- the operator before one expression
abbrev pub unary_word : UnOp → List ℕ
unary_word unary.Not = codes "not"
unary_word unary.One = codes "one"
unary_word unary.Lines = codes "lines"
unary_word unary.Size = codes "size"
unary_word unary.Int = codes "int"
unary_word unary.Text = codes "text"
unary_word unary.First = codes "first"
unary_word unary.Second = codes "second"
unary_word unary.Keys = codes "keys"
unary_word unary.Present = codes "present"

abbrev pub bool_word : Bool → List ℕ
bool_word true = codes "true"
bool_word false = codes "false"

-- `( a op b )`, `( a only GLOB )`, `op ( a )`, `if ( c , a , b )`
abbrev pub expr_tokens : ExprTree → List Token
expr_tokens (ExprTree.str v) = token.Str v ∷ []
expr_tokens (ExprTree.int n) = token.Number n ∷ []
expr_tokens (ExprTree.bool b) = token.Word (bool_word b) ∷ []
expr_tokens ExprTree.empty = token.Word (codes "empty") ∷ []
expr_tokens (ExprTree.var w) = token.Word w ∷ []
expr_tokens (ExprTree.bin op a b) = opening ∷ (expr_tokens a ++ (binary_token op ∷ (expr_tokens b ++ closing ∷ [])))
expr_tokens (ExprTree.un op a) = token.Word (unary_word op) ∷ opening ∷ (expr_tokens a ++ closing ∷ [])
expr_tokens (ExprTree.choose c a b) = token.Word (codes "if") ∷ opening ∷ (expr_tokens c ++ (comma ∷ (expr_tokens a ++ (comma ∷ (expr_tokens b ++ closing ∷ [])))))
expr_tokens (ExprTree.only a glob) = opening ∷ (expr_tokens a ++ token.Word (codes "only") ∷ token.Str glob ∷ closing ∷ [])

-- each part of a form is a form of the next level
abbrev pub expr_levels : ℕ → ExprTree → List ℕ
expr_levels d (ExprTree.bin op a b) = d ∷ (expr_levels (suc d) a ++ (0 ∷ (expr_levels (suc d) b ++ 0 ∷ [])))
expr_levels d (ExprTree.un op a) = d ∷ 0 ∷ (expr_levels (suc d) a ++ 0 ∷ [])
expr_levels d (ExprTree.choose c a b) = d ∷ 0 ∷ (expr_levels (suc d) c ++ (0 ∷ (expr_levels (suc d) a ++ (0 ∷ (expr_levels (suc d) b ++ 0 ∷ [])))))
expr_levels d (ExprTree.only a glob) = d ∷ (expr_levels (suc d) a ++ 0 ∷ 0 ∷ 0 ∷ [])
expr_levels d _ = d ∷ []

-- a name is a word that is not kept
abbrev pub is_name : List ℕ → Bool
is_name w = not (list_any (λ kept. bytes_eq kept w) kept_words)

-- each name of the expression is one
abbrev pub has_names : ExprTree → Bool
has_names (ExprTree.var w) = is_name w
has_names (ExprTree.bin op a b) = has_names a && has_names b
has_names (ExprTree.un op a) = has_names a
has_names (ExprTree.choose c a b) = has_names c && (has_names a && has_names b)
has_names (ExprTree.only a glob) = has_names a
has_names _ = true

abbrev pub exprs : Grammar ExprTree
exprs = record { tokens = expr_tokens; levels = expr_levels; IsRight = has_names }

abbrev pub shape_tokens : ShapeTree → List Token
shape_tokens ShapeTree.str = token.Word (codes "str") ∷ []
shape_tokens ShapeTree.int = token.Word (codes "int") ∷ []
shape_tokens ShapeTree.bool = token.Word (codes "bool") ∷ []
shape_tokens ShapeTree.names = token.Word (codes "names") ∷ []
shape_tokens (ShapeTree.pair a b) = token.Word (codes "pair") ∷ opening ∷ (shape_tokens a ++ (comma ∷ (shape_tokens b ++ closing ∷ [])))
shape_tokens (ShapeTree.opt a) = token.Word (codes "opt") ∷ opening ∷ (shape_tokens a ++ closing ∷ [])
shape_tokens (ShapeTree.table a) = token.Word (codes "table") ∷ opening ∷ (shape_tokens a ++ closing ∷ [])

abbrev pub shape_levels : ℕ → ShapeTree → List ℕ
shape_levels d (ShapeTree.pair a b) = d ∷ 0 ∷ (shape_levels (suc d) a ++ (0 ∷ (shape_levels (suc d) b ++ 0 ∷ [])))
shape_levels d (ShapeTree.opt a) = d ∷ 0 ∷ (shape_levels (suc d) a ++ 0 ∷ [])
shape_levels d (ShapeTree.table a) = d ∷ 0 ∷ (shape_levels (suc d) a ++ 0 ∷ [])
shape_levels d _ = d ∷ []

abbrev pub shapes : Grammar ShapeTree
shapes = record { tokens = shape_tokens; levels = shape_levels; IsRight = λ _. true }
