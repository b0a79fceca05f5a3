-- Reading a shape from the front of tokens, with so many levels left.
use Rattle.std.specs.Prelude.{ℕ, zero, suc, Bool, true, false, Option, Some, None, Result, Ok, Err, List, [], ◌∷◌, length, if◌then◌else◌}
use Rattle.fx_expr.specs.ShapeTree.{ShapeTree}
use Rattle.fx_lex.specs.declared.token.Token.{Token}
use Rattle.fx_lex.specs.declared.token.Token.TheVariants as token
use Rattle.fx_parse.specs.declared.keyword.Keyword.{Keyword}
use Rattle.fx_parse.specs.declared.keyword.Keyword.TheVariants as keyword
use Rattle.fx_parse.specs.Keywords.{keyword_of}
use Rattle.fx_parse.specs.Stuck.{Stuck, Unexpected, TooNested, ◌>>=◌}
use Rattle.fx_parse.specs.Reader.{unexpected, expect, is_opening, is_closing, is_comma}
use Rattle.fx_parse.specs.declared.shape_head.ShapeStart.{ShapeStart}
use Rattle.fx_parse.specs.declared.shape_head.ShapeStart.TheVariants.{Str, Int, Bool as BoolStart, Names, Pair, Opt, Table, Nothing}

abbrev pub keyword_shape : Keyword → ShapeStart
keyword_shape keyword.Str = Str
keyword_shape keyword.Int = Int
keyword_shape keyword.Bool = BoolStart
keyword_shape keyword.Names = Names
keyword_shape keyword.Pair = Pair
keyword_shape keyword.Opt = Opt
keyword_shape keyword.Table = Table
keyword_shape _ = Nothing

abbrev pub word_shape : Option Keyword → ShapeStart
word_shape None = Nothing
word_shape (Some k) = keyword_shape k

-- what a token begins
abbrev pub shape_of : Token → ShapeStart
shape_of (token.Word w) = word_shape (keyword_of w)
shape_of (token.Number n) = Nothing
shape_of (token.Str v) = Nothing
shape_of (token.Mark m) = Nothing
shape_of token.Def = Nothing

abbrev pub ReadShape : Type 0
ReadShape = List Token → Result (ShapeTree × List Token) Stuck

-- behind `pair`
unfoldable pub pair_at : ReadShape → ReadShape
pair_at read ts = do
  inside ← expect is_opening ts
  a ← read inside
  second ← expect is_comma a.1
  b ← read second
  rest ← expect is_closing b.1
  Ok (ShapeTree.pair a.0 b.0, rest)

-- behind `opt`
unfoldable pub opt_at : ReadShape → ReadShape
opt_at read ts = do
  inside ← expect is_opening ts
  a ← read inside
  rest ← expect is_closing a.1
  Ok (ShapeTree.opt a.0, rest)

-- behind `table`
unfoldable pub table_at : ReadShape → ReadShape
table_at read ts = do
  inside ← expect is_opening ts
  a ← read inside
  rest ← expect is_closing a.1
  Ok (ShapeTree.table a.0, rest)

-- behind the first token
unfoldable pub shape_form_at : ReadShape → ShapeStart → ReadShape
shape_form_at read Str ts = Ok (ShapeTree.str, ts)
shape_form_at read Int ts = Ok (ShapeTree.int, ts)
shape_form_at read BoolStart ts = Ok (ShapeTree.bool, ts)
shape_form_at read Names ts = Ok (ShapeTree.names, ts)
shape_form_at read Pair ts = pair_at read ts
shape_form_at read Opt ts = opt_at read ts
shape_form_at read Table ts = table_at read ts
shape_form_at read Nothing ts = unexpected ts

abbrev pub is_no_shape : ShapeStart → Bool
is_no_shape Nothing = true
is_no_shape _ = false

-- a shape at a level that is none any more
abbrev pub shape_too_nested : ShapeStart → List Token → Result (ShapeTree × List Token) Stuck
shape_too_nested Nothing ts = Err (Unexpected (length ts))
shape_too_nested _ ts = Err (TooNested (length ts))

unfoldable pub read_shape : ℕ → ReadShape
read_shape left [] = Err (Unexpected 0)
read_shape zero (x ∷ ts) = shape_too_nested (shape_of x) (x ∷ ts)
read_shape (suc n) (x ∷ ts) = if is_no_shape (shape_of x) then unexpected (x ∷ ts) else shape_form_at (read_shape n) (shape_of x) ts
