-- Reading commands, transactions and scripts from the front of tokens, with so many levels left.
use Rattle.std.specs.Prelude.{ℕ, zero, suc, Bool, true, false, Option, Some, None, Result, Ok, Err, List, [], ◌∷◌, ◌++◌, length, if◌then◌else◌}
use Rattle.fx_expr.specs.ExprTree.{ExprTree}
use Rattle.fx_expr.specs.ShapeTree.{ShapeTree}
use Rattle.fx_lex.specs.declared.token.Token.{Token}
use Rattle.fx_lex.specs.declared.token.Token.TheVariants as token
use Rattle.fx_parse.specs.declared.keyword.Keyword.{Keyword}
use Rattle.fx_parse.specs.declared.keyword.Keyword.TheVariants as keyword
use Rattle.fx_parse.specs.declared.sign.Sign.TheVariants as sign
use Rattle.fx_parse.specs.Keywords.{keyword_of}
use Rattle.fx_parse.specs.Stuck.{Stuck, Unexpected, TooNested, ◌>>=◌}
use Rattle.fx_parse.specs.Reader.{unexpected, expect, read_expr}
use Rattle.fx_parse.specs.ShapeReader.{read_shape}
use Rattle.fx_parse.specs.Signs as signs
use Rattle.fx_parse.specs.Signs.{is_sign, name_at}
use Rattle.fx_spec.specs.CommandTree.{ActTree, CommandTree, block}
use Rattle.fx_source_parse.specs.declared.script.start.Plain.{Plain}
use Rattle.fx_source_parse.specs.declared.script.start.Plain.TheVariants as plain
use Rattle.fx_source_parse.specs.declared.script.start.ActStart.{ActStart}
use Rattle.fx_source_parse.specs.declared.script.start.ActStart.TheVariants as act
use Rattle.fx_source_parse.specs.declared.script.start.Start.{Start}
use Rattle.fx_source_parse.specs.declared.script.start.Start.TheVariants as start
use Rattle.fx_source_parse.specs.Reading.{Read}

abbrev pub plain_tree : Plain → ActTree
plain_tree plain.Into = ActTree.into
plain_tree plain.Next = ActTree.next
plain_tree plain.Prev = ActTree.prev
plain_tree plain.Out = ActTree.out
plain_tree plain.Down = ActTree.down
plain_tree plain.Up = ActTree.up
plain_tree plain.Top = ActTree.top
plain_tree plain.Create = ActTree.create
plain_tree plain.Remove = ActTree.remove

abbrev pub keyword_start : Keyword → Start
keyword_start keyword.Into = start.Act (act.Plain plain.Into)
keyword_start keyword.Next = start.Act (act.Plain plain.Next)
keyword_start keyword.Prev = start.Act (act.Plain plain.Prev)
keyword_start keyword.Out = start.Act (act.Plain plain.Out)
keyword_start keyword.Down = start.Act (act.Plain plain.Down)
keyword_start keyword.Up = start.Act (act.Plain plain.Up)
keyword_start keyword.Top = start.Act (act.Plain plain.Top)
keyword_start keyword.Create = start.Act (act.Plain plain.Create)
keyword_start keyword.Remove = start.Act (act.Plain plain.Remove)
keyword_start keyword.To = start.Act act.To
keyword_start keyword.Store = start.Act act.Store
keyword_start keyword.Try = start.Try
keyword_start keyword.Let = start.Let
keyword_start keyword.Set = start.Set
keyword_start keyword.Fetch = start.Fetch
keyword_start keyword.Value = start.Value
keyword_start keyword.Validate = start.Validate
keyword_start keyword.Print = start.Print
keyword_start keyword.If = start.If
keyword_start keyword.Each = start.Each
keyword_start keyword.Abort = start.Abort
keyword_start _ = start.Nothing

abbrev pub word_start : Option Keyword → Start
word_start None = start.Nothing
word_start (Some k) = keyword_start k

-- what a token begins
abbrev pub start_of : Token → Start
start_of (token.Word w) = word_start (keyword_of w)
start_of (token.Number n) = start.Nothing
start_of (token.Str v) = start.Nothing
start_of (token.Mark m) = start.Nothing
start_of token.Def = start.Nothing

-- the act that begins so
abbrev pub act_start : Start → Option ActStart
act_start (start.Act a) = Some a
act_start _ = None

abbrev pub is_nothing : Start → Bool
is_nothing start.Nothing = true
is_nothing _ = false

-- `( expr )`
unfoldable pub bracketed_at : Read ExprTree → Read ExprTree
bracketed_at expr ts = do
  inside ← expect (is_sign sign.LeftParen) ts
  e ← expr inside
  rest ← expect (is_sign sign.RightParen) e.1
  Ok (e.0, rest)

abbrev pub ReadValued : Type 0
ReadValued = List Token → Result (List ℕ × ExprTree × List Token) Stuck

abbrev pub ReadTyped : Type 0
ReadTyped = List Token → Result (List ℕ × ShapeTree × List Token) Stuck

-- `NAME = expr`
unfoldable pub valued_at : Read ExprTree → ReadValued
valued_at expr ts = do
  x ← name_at ts
  value ← expect (is_sign sign.Equal) x.1
  e ← expr value
  Ok (x.0, e.0, e.1)

-- `NAME : shape`
unfoldable pub typed_at : Read ShapeTree → ReadTyped
typed_at shape ts = do
  x ← name_at ts
  typed ← expect (is_sign sign.Colon) x.1
  s ← shape typed
  Ok (x.0, s.0, s.1)

-- behind `to`
unfoldable pub to_at : Read ExprTree → Read ActTree
to_at expr ts = do
  e ← bracketed_at expr ts
  Ok (ActTree.to e.0, e.1)

-- behind `store`
unfoldable pub store_at : Read ExprTree → Read ActTree
store_at expr ts = do
  e ← bracketed_at expr ts
  Ok (ActTree.store e.0, e.1)

-- behind the first token of an act
unfoldable pub act_form_at : Read ExprTree → ActStart → Read ActTree
act_form_at expr (act.Plain p) ts = Ok (plain_tree p, ts)
act_form_at expr act.To ts = to_at expr ts
act_form_at expr act.Store ts = store_at expr ts

abbrev pub act_found : Read ExprTree → Option ActStart → Token → Read ActTree
act_found expr None x ts = unexpected (x ∷ ts)
act_found expr (Some a) x ts = act_form_at expr a ts

-- an act behind the first token of its command
abbrev pub act_at : Read ExprTree → Read ActTree
act_at expr [] = Err (Unexpected 0)
act_at expr (x ∷ ts) = act_found expr (act_start (start_of x)) x ts

-- behind the first token of an act that is a command
unfoldable pub do_at : Read ExprTree → ActStart → Read CommandTree
do_at expr a ts = do
  r ← act_form_at expr a ts
  Ok (CommandTree.act r.0, r.1)

-- behind `try`
unfoldable pub try_at : Read ExprTree → Read CommandTree
try_at expr ts = do
  x ← name_at ts
  a ← act_at expr x.1
  Ok (CommandTree.attempt x.0 a.0, a.1)

-- behind `let`
unfoldable pub let_at : Read ExprTree → Read CommandTree
let_at expr ts = do
  r ← valued_at expr ts
  Ok (CommandTree.bind r.0 r.1, r.2)

-- behind `set`
unfoldable pub set_at : Read ExprTree → Read CommandTree
set_at expr ts = do
  r ← valued_at expr ts
  Ok (CommandTree.assign r.0 r.1, r.2)

-- behind `fetch`
unfoldable pub fetch_at : Read ShapeTree → Read CommandTree
fetch_at shape ts = do
  r ← typed_at shape ts
  Ok (CommandTree.fetch r.0 r.1, r.2)

-- behind `value`
unfoldable pub value_at : Read ShapeTree → Read CommandTree
value_at shape ts = do
  r ← typed_at shape ts
  Ok (CommandTree.whole r.0 r.1, r.2)

-- behind `validate`
unfoldable pub validate_at : Read CommandTree
validate_at ts = do
  x ← name_at ts
  Ok (CommandTree.validate x.0, x.1)

-- behind `print`
unfoldable pub print_at : Read ExprTree → Read CommandTree
print_at expr ts = do
  e ← bracketed_at expr ts
  Ok (CommandTree.print e.0, e.1)

-- one command more behind those that were read
unfoldable pub added_at : Read CommandTree → List CommandTree → Read (List CommandTree)
added_at command done ts = do
  c ← command ts
  Ok (done ++ c.0 ∷ [], c.1)

-- behind `}`
abbrev pub closed : List Token → Option (List Token)
closed ts = signs.closed sign.RightBrace ts

abbrev pub ended_or : Option (List Token) → List CommandTree → Result (List CommandTree × List Token) Stuck → Result (List CommandTree × List Token) Stuck
ended_or None done more = more
ended_or (Some rest) done more = Ok (done, rest)

-- commands up to the brace that closes them, so many at most
unfoldable pub items_at : Read CommandTree → ℕ → List CommandTree → Read (List CommandTree)
items_at command zero done ts = unexpected ts
items_at command (suc n) done ts = ended_or (closed ts) done (added_at command done ts >>= (λ c. items_at command n c.0 c.1))

-- commands up to the brace that closes them: each has a token at least
unfoldable pub many_at : Read CommandTree → Read (List CommandTree)
many_at command ts = items_at command (length ts) [] ts

-- `{ command* }`
unfoldable pub braced_at : Read CommandTree → Read (List CommandTree)
braced_at command ts = do
  inside ← expect (is_sign sign.LeftBrace) ts
  many_at command inside

-- behind `if`
unfoldable pub branch_at : Read ExprTree → Read CommandTree → Read CommandTree
branch_at expr command ts = do
  e ← bracketed_at expr ts
  a ← braced_at command e.1
  second ← expect (is_sign sign.Else) a.1
  b ← braced_at command second
  Ok (CommandTree.branch e.0 (block a.0) (block b.0), b.1)

-- behind `each`
unfoldable pub each_at : Read ExprTree → Read CommandTree → Read CommandTree
each_at expr command ts = do
  x ← name_at ts
  set ← expect (is_sign sign.In) x.1
  e ← bracketed_at expr set
  a ← braced_at command e.1
  Ok (CommandTree.each x.0 e.0 (block a.0), a.1)

-- behind the first token
unfoldable pub form_at : Read ExprTree → Read ShapeTree → Read CommandTree → Start → Read CommandTree
form_at expr shape command (start.Act a) ts = do_at expr a ts
form_at expr shape command start.Try ts = try_at expr ts
form_at expr shape command start.Let ts = let_at expr ts
form_at expr shape command start.Set ts = set_at expr ts
form_at expr shape command start.Fetch ts = fetch_at shape ts
form_at expr shape command start.Value ts = value_at shape ts
form_at expr shape command start.Validate ts = validate_at ts
form_at expr shape command start.Print ts = print_at expr ts
form_at expr shape command start.If ts = branch_at expr command ts
form_at expr shape command start.Each ts = each_at expr command ts
form_at expr shape command start.Abort ts = Ok (CommandTree.abort, ts)
form_at expr shape command start.Nothing ts = unexpected ts

-- a command at a level that is none any more
abbrev pub too_nested : Start → List Token → Result (CommandTree × List Token) Stuck
too_nested start.Nothing ts = Err (Unexpected (length ts))
too_nested _ ts = Err (TooNested (length ts))

unfoldable pub read_command : ℕ → Read CommandTree
read_command left [] = Err (Unexpected 0)
read_command zero (x ∷ ts) = too_nested (start_of x) (x ∷ ts)
read_command (suc n) (x ∷ ts) = if is_nothing (start_of x) then unexpected (x ∷ ts) else form_at (read_expr n) (read_shape n) (read_command n) (start_of x) ts

-- `txn { command* }`
unfoldable pub read_txn : ℕ → Read (List CommandTree)
read_txn zero ts = do
  rest ← expect (is_sign sign.Txn) ts
  Err (TooNested (length ts))
read_txn (suc n) ts = do
  rest ← expect (is_sign sign.Txn) ts
  braced_at (read_command n) rest

-- one transaction more behind those that were read
unfoldable pub txn_added_at : List (List CommandTree) → Read (List (List CommandTree))
txn_added_at done ts = do
  t ← read_txn 64 ts
  Ok (done ++ t.0 ∷ [], t.1)

-- transactions up to the end, so many at most
unfoldable pub txns_at : ℕ → List (List CommandTree) → List Token → Result (List (List CommandTree)) Stuck
txns_at n done [] = Ok done
txns_at zero done (x ∷ ts) = unexpected (x ∷ ts)
txns_at (suc n) done (x ∷ ts) = txn_added_at done (x ∷ ts) >>= (λ t. txns_at n t.0 t.1)

-- transactions up to the end: each has a token at least
unfoldable pub read_script : List Token → Result (List (List CommandTree)) Stuck
read_script ts = txns_at (length ts) [] ts
