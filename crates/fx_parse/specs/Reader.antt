-- Reading an expression or a shape from the front of tokens, with so many levels left.
use Rattle.std.specs.Prelude.{ℕ, zero, suc, Bool, true, false, Option, Some, None, Result, Ok, Err, List, [], ◌∷◌, length, map, if◌then◌else◌}
use Rattle.fx_expr.specs.ExprTree.{ExprTree}
use Rattle.fx_expr.specs.declared.expr.BinOp.{BinOp}
use Rattle.fx_expr.specs.declared.expr.BinOp.TheVariants as binary
use Rattle.fx_expr.specs.declared.expr.UnOp.{UnOp}
use Rattle.fx_expr.specs.declared.expr.UnOp.TheVariants as unary
use Rattle.fx_lex.specs.declared.token.Token.{Token}
use Rattle.fx_lex.specs.declared.token.Token.TheVariants as token
use Rattle.fx_lex.specs.declared.token.Spanned.{Spanned}
use Rattle.fx_lex.specs.declared.token.Mark.{Mark}
use Rattle.fx_lex.specs.declared.token.Mark.TheVariants as mark
use Rattle.fx_parse.specs.declared.keyword.Keyword.{Keyword}
use Rattle.fx_parse.specs.declared.keyword.Keyword.TheVariants as keyword
use Rattle.fx_parse.specs.Keywords.{keyword_of}
use Rattle.fx_parse.specs.Stuck.{Stuck, Unexpected, TooNested, ◌>>=◌}

-- tokens without their spans
abbrev pub kinds : List Spanned → List Token
kinds tokens = map (λ s. s.token) tokens

-- the first token does not fit
abbrev pub unexpected : {A : Type 0} → List Token → Result A Stuck
unexpected ts = Err (Unexpected (length ts))

abbrev pub is_opening : Token → Bool
is_opening (token.Mark mark.LeftParen) = true
is_opening _ = false

abbrev pub is_closing : Token → Bool
is_closing (token.Mark mark.RightParen) = true
is_closing _ = false

abbrev pub is_comma : Token → Bool
is_comma (token.Mark mark.Comma) = true
is_comma _ = false

-- a token that passes, and the rest
abbrev pub expect : (Token → Bool) → List Token → Result (List Token) Stuck
expect p [] = Err (Unexpected 0)
expect p (x ∷ ts) = if p x then Ok ts else unexpected (x ∷ ts)

-- what a token begins
pub data Head : Type 0 where
  Leaf : ExprTree → Head
  Bracket : Head
  Before : UnOp → Head
  Choice : Head
  Nothing : Head

abbrev pub keyword_head : Keyword → Head
keyword_head keyword.True = Leaf (ExprTree.bool true)
keyword_head keyword.False = Leaf (ExprTree.bool false)
keyword_head keyword.Empty = Leaf ExprTree.empty
keyword_head keyword.Not = Before unary.Not
keyword_head keyword.One = Before unary.One
keyword_head keyword.Lines = Before unary.Lines
keyword_head keyword.Size = Before unary.Size
keyword_head keyword.Int = Before unary.Int
keyword_head keyword.Text = Before unary.Text
keyword_head keyword.First = Before unary.First
keyword_head keyword.Second = Before unary.Second
keyword_head keyword.Keys = Before unary.Keys
keyword_head keyword.Present = Before unary.Present
keyword_head keyword.If = Choice
keyword_head _ = Nothing

abbrev pub word_head : List ℕ → Option Keyword → Head
word_head w None = Leaf (ExprTree.var w)
word_head w (Some k) = keyword_head k

abbrev pub head_of : Token → Head
head_of (token.Word w) = word_head w (keyword_of w)
head_of (token.Number n) = Leaf (ExprTree.int n)
head_of (token.Str v) = Leaf (ExprTree.str v)
head_of (token.Mark mark.LeftParen) = Bracket
head_of (token.Mark _) = Nothing
head_of token.Def = Nothing

-- what may follow the first part in brackets
pub data Middle : Type 0 where
  Binary : BinOp → Middle
  Glob : Middle
  Neither : Middle

abbrev pub keyword_middle : Keyword → Middle
keyword_middle keyword.And = Binary binary.And
keyword_middle keyword.Or = Binary binary.Or
keyword_middle keyword.In = Binary binary.Member
keyword_middle keyword.Union = Binary binary.Union
keyword_middle keyword.Minus = Binary binary.Without
keyword_middle keyword.Only = Glob
keyword_middle _ = Neither

abbrev pub mark_middle : Mark → Middle
mark_middle mark.PlusPlus = Binary binary.Join
mark_middle mark.Plus = Binary binary.Plus
mark_middle mark.Minus = Binary binary.Minus
mark_middle mark.EqualEqual = Binary binary.Equal
mark_middle mark.LeftAngle = Binary binary.Less
mark_middle _ = Neither

abbrev pub word_middle : Option Keyword → Middle
word_middle None = Neither
word_middle (Some k) = keyword_middle k

abbrev pub middle_of : Token → Middle
middle_of (token.Word w) = word_middle (keyword_of w)
middle_of (token.Number n) = Neither
middle_of (token.Str v) = Neither
middle_of (token.Mark m) = mark_middle m
middle_of token.Def = Neither

abbrev pub glob_at : List Token → Result (List ℕ × List Token) Stuck
glob_at [] = Err (Unexpected 0)
glob_at (token.Str v ∷ ts) = Ok (v, ts)
glob_at (x ∷ ts) = unexpected (x ∷ ts)

abbrev pub middle_found : Middle → Token → List Token → Result (Middle × List Token) Stuck
middle_found (Binary op) x ts = Ok (Binary op, ts)
middle_found Glob x ts = Ok (Glob, ts)
middle_found Neither x ts = unexpected (x ∷ ts)

abbrev pub middle_at : List Token → Result (Middle × List Token) Stuck
middle_at [] = Err (Unexpected 0)
middle_at (x ∷ ts) = middle_found (middle_of x) x ts

abbrev pub ReadExpr : Type 0
ReadExpr = List Token → Result (ExprTree × List Token) Stuck

-- behind the operator
unfoldable pub second_at : ReadExpr → ExprTree → Middle → ReadExpr
second_at read a (Binary op) ts = do
  b ← read ts
  rest ← expect is_closing b.1
  Ok (ExprTree.bin op a b.0, rest)
second_at read a Glob ts = do
  glob ← glob_at ts
  rest ← expect is_closing glob.1
  Ok (ExprTree.only a glob.0, rest)
second_at read a Neither ts = unexpected ts

-- behind `(`
unfoldable pub bracket_at : ReadExpr → ReadExpr
bracket_at read ts = do
  a ← read ts
  op ← middle_at a.1
  second_at read a.0 op.0 op.1

-- behind an operator of one expression
unfoldable pub before_at : ReadExpr → UnOp → ReadExpr
before_at read op ts = do
  inside ← expect is_opening ts
  a ← read inside
  rest ← expect is_closing a.1
  Ok (ExprTree.un op a.0, rest)

-- behind `if`
unfoldable pub choice_at : ReadExpr → ReadExpr
choice_at read ts = do
  inside ← expect is_opening ts
  c ← read inside
  second ← expect is_comma c.1
  a ← read second
  third ← expect is_comma a.1
  b ← read third
  rest ← expect is_closing b.1
  Ok (ExprTree.choose c.0 a.0 b.0, rest)

-- behind the first token
unfoldable pub form_at : ReadExpr → Head → ReadExpr
form_at read (Leaf t) ts = Ok (t, ts)
form_at read Bracket ts = bracket_at read ts
form_at read (Before op) ts = before_at read op ts
form_at read Choice ts = choice_at read ts
form_at read Nothing ts = unexpected ts

-- an expression at a level that is none any more
abbrev pub too_nested : Head → List Token → Result (ExprTree × List Token) Stuck
too_nested Nothing ts = Err (Unexpected (length ts))
too_nested _ ts = Err (TooNested (length ts))

abbrev pub is_nothing : Head → Bool
is_nothing Nothing = true
is_nothing _ = false

unfoldable pub read_expr : ℕ → ReadExpr
read_expr left [] = Err (Unexpected 0)
read_expr zero (x ∷ ts) = too_nested (head_of x) (x ∷ ts)
read_expr (suc n) (x ∷ ts) = if is_nothing (head_of x) then unexpected (x ∷ ts) else form_at (read_expr n) (head_of x) ts
