-- Reading a description and its definitions from the front of tokens, with so many levels left.
use Rattle.std.specs.Prelude.{ℕ, zero, suc, Bool, true, false, Option, Some, None, Result, Ok, Err, List, [], ◌∷◌, length, if◌then◌else◌}
use Rattle.fx_expr.specs.ShapeTree.{ShapeTree}
use Rattle.fx_lex.specs.declared.token.Token.{Token}
use Rattle.fx_lex.specs.declared.token.Token.TheVariants as token
use Rattle.fx_lex.specs.declared.token.Mark.{Mark}
use Rattle.fx_lex.specs.declared.token.Mark.TheVariants as mark
use Rattle.fx_parse.specs.declared.keyword.Keyword.{Keyword}
use Rattle.fx_parse.specs.declared.keyword.Keyword.TheVariants as keyword
use Rattle.fx_parse.specs.declared.sign.Sign.TheVariants as sign
use Rattle.fx_parse.specs.Keywords.{keyword_of}
use Rattle.fx_parse.specs.Stuck.{Stuck, Unexpected, TooNested, ◌>>=◌}
use Rattle.fx_parse.specs.Reader.{unexpected, expect, ReadExpr, read_expr}
use Rattle.fx_parse.specs.ShapeReader.{read_shape}
use Rattle.fx_parse.specs.Signs.{is_sign, name_at}
use Rattle.fx_spec.specs.Written.{WrittenTree, DefTree, TextTree}
use Rattle.fx_source_parse.specs.declared.spec.start.Start.{Start}
use Rattle.fx_source_parse.specs.declared.spec.start.Start.TheVariants as start
use Rattle.fx_source_parse.specs.Descriptions.Lists.{added_at, listed_at}
use Rattle.fx_source_parse.specs.Reading.{Read}

abbrev pub keyword_start : Keyword → Start
keyword_start keyword.File = start.File
keyword_start keyword.Dir = start.Dir
keyword_start keyword.Link = start.Link
keyword_start keyword.Opt = start.Opt
keyword_start keyword.Pred = start.Pred
keyword_start _ = start.Nothing

abbrev pub word_start : List ℕ → Option Keyword → Start
word_start w None = start.Call w
word_start w (Some k) = keyword_start k

abbrev pub mark_start : Mark → Start
mark_start mark.LeftParen = start.Focus
mark_start mark.LeftAngle = start.Pair
mark_start mark.LeftBrace = start.Comp
mark_start _ = start.Nothing

-- what a token begins
abbrev pub start_of : Token → Start
start_of (token.Word w) = word_start w (keyword_of w)
start_of (token.Number n) = start.Nothing
start_of (token.Str v) = start.Nothing
start_of (token.Mark m) = mark_start m
start_of token.Def = start.Nothing

abbrev pub ReadSpec : Type 0
ReadSpec = Read WrittenTree

-- behind `(`
unfoldable pub focus_at : ReadExpr → ReadSpec → ReadSpec
focus_at expr spec ts = do
  e ← expr ts
  below ← expect (is_sign sign.ColonColon) e.1
  s ← spec below
  rest ← expect (is_sign sign.RightParen) s.1
  Ok (WrittenTree.focus e.0 s.0, rest)

-- behind `<`
unfoldable pub pair_at : ReadSpec → ReadSpec
pair_at spec ts = do
  x ← name_at ts
  first ← expect (is_sign sign.Colon) x.1
  s ← spec first
  second ← expect (is_sign sign.Comma) s.1
  t ← spec second
  rest ← expect (is_sign sign.RightAngle) t.1
  Ok (WrittenTree.pair x.0 s.0 t.0, rest)

-- behind `{`
unfoldable pub comp_at : ReadExpr → ReadSpec → ReadSpec
comp_at expr spec ts = do
  s ← spec ts
  named ← expect (is_sign sign.Bar) s.1
  x ← name_at named
  set ← expect (is_sign sign.In) x.1
  e ← expr set
  rest ← expect (is_sign sign.RightBrace) e.1
  Ok (WrittenTree.comp s.0 x.0 e.0, rest)

-- behind `opt`
unfoldable pub opt_at : ReadSpec → ReadSpec
opt_at spec ts = do
  inside ← expect (is_sign sign.LeftParen) ts
  s ← spec inside
  rest ← expect (is_sign sign.RightParen) s.1
  Ok (WrittenTree.opt s.0, rest)

-- behind `pred`
unfoldable pub pred_at : ReadExpr → ReadSpec
pred_at expr ts = do
  inside ← expect (is_sign sign.LeftParen) ts
  e ← expr inside
  rest ← expect (is_sign sign.RightParen) e.1
  Ok (WrittenTree.pred e.0, rest)

-- behind a name: `( args )`
unfoldable pub call_at : ReadExpr → List ℕ → ReadSpec
call_at expr f ts = do
  inside ← expect (is_sign sign.LeftParen) ts
  args ← listed_at expr inside
  Ok (WrittenTree.call f args.0, args.1)

-- behind the first token
unfoldable pub form_at : ReadExpr → ReadSpec → Start → ReadSpec
form_at expr spec start.File ts = Ok (WrittenTree.file, ts)
form_at expr spec start.Dir ts = Ok (WrittenTree.dir, ts)
form_at expr spec start.Link ts = Ok (WrittenTree.link, ts)
form_at expr spec start.Focus ts = focus_at expr spec ts
form_at expr spec start.Pair ts = pair_at spec ts
form_at expr spec start.Comp ts = comp_at expr spec ts
form_at expr spec start.Opt ts = opt_at spec ts
form_at expr spec start.Pred ts = pred_at expr ts
form_at expr spec (start.Call f) ts = call_at expr f ts
form_at expr spec start.Nothing ts = unexpected ts

abbrev pub is_nothing : Start → Bool
is_nothing start.Nothing = true
is_nothing _ = false

-- a description at a level that is none any more
abbrev pub too_nested : Start → List Token → Result (WrittenTree × List Token) Stuck
too_nested start.Nothing ts = Err (Unexpected (length ts))
too_nested _ ts = Err (TooNested (length ts))

unfoldable pub read_spec : ℕ → ReadSpec
read_spec left [] = Err (Unexpected 0)
read_spec zero (x ∷ ts) = too_nested (start_of x) (x ∷ ts)
read_spec (suc n) (x ∷ ts) = if is_nothing (start_of x) then unexpected (x ∷ ts) else form_at (read_expr n) (read_spec n) (start_of x) ts

-- `NAME : shape`
unfoldable pub param_at : Read ShapeTree → Read (List ℕ × ShapeTree)
param_at shape ts = do
  x ← name_at ts
  typed ← expect (is_sign sign.Colon) x.1
  s ← shape typed
  Ok ((x.0, s.0), s.1)

-- behind `def`: `NAME ( params ) = spec`
unfoldable pub def_at : Read ShapeTree → ReadSpec → Read DefTree
def_at shape spec ts = do
  f ← name_at ts
  inside ← expect (is_sign sign.LeftParen) f.1
  ps ← listed_at (param_at shape) inside
  body ← expect (is_sign sign.Equal) ps.1
  s ← spec body
  Ok (record { name = f.0; params = ps.0; body = s.0 }, s.1)

-- a definition
unfoldable pub read_def : ℕ → Read DefTree
read_def zero ts = do
  rest ← expect (is_sign sign.Def) ts
  Err (TooNested (length ts))
read_def (suc n) ts = do
  rest ← expect (is_sign sign.Def) ts
  def_at (read_shape n) (read_spec n) rest

abbrev pub begins_def : List Token → Bool
begins_def [] = false
begins_def (x ∷ ts) = is_sign sign.Def x

-- the definitions at the front behind those that were read, so many at most
unfoldable pub defs_from : ℕ → ℕ → List DefTree → Read (List DefTree)
defs_from left zero done ts = Ok (done, ts)
defs_from left (suc n) done ts = if begins_def ts then (added_at (read_def left) done ts >>= (λ c. defs_from left n c.0 c.1)) else Ok (done, ts)

-- the definitions at the front: each has a token at least
unfoldable pub defs_at : ℕ → Read (List DefTree)
defs_at left ts = defs_from left (length ts) [] ts

-- a description behind its definitions
unfoldable pub read_text : ℕ → Read TextTree
read_text left ts = do
  ds ← defs_at left ts
  s ← read_spec left ds.1
  Ok (record { defs = ds.0; root = s.0 }, s.1)

-- a description and nothing behind it
abbrev pub ended : TextTree × List Token → Result TextTree Stuck
ended (t, []) = Ok t
ended (t, x ∷ ts) = unexpected (x ∷ ts)

unfoldable pub read_whole : List Token → Result TextTree Stuck
read_whole ts = read_text 64 ts >>= ended
