-- The reader reads the tokens of each command, block and transaction.
use Rattle.std.proofs.Common.{◌≡◌, ℕ, zero, suc, ◌-◌, ◌+◌, ◌≤◌, Bool, true, false, cond, ◌&&◌, None, Result, Ok, Err, List, [], ◌∷◌, ◌++◌, length, refl, sym, ap, ◌∙◌, arith, append_assoc, length-append}
use Rattle.std.proofs.lemmas.List.{append-nil}
use Rattle.std.proofs.lemmas.Bool.{and_parts, leb-true}
use Rattle.fx_expr.specs.ExprTree.{ExprTree}
use Rattle.fx_expr.specs.ShapeTree.{ShapeTree}
use Rattle.fx_lex.specs.declared.token.Token.{Token}
use Rattle.fx_lex.specs.declared.token.Token.TheVariants as token
use Rattle.fx_lex.specs.declared.token.Mark.TheVariants as mark
use Rattle.fx_parse.specs.declared.keyword.Keyword.TheVariants as keyword
use Rattle.fx_parse.specs.declared.sign.Sign.TheVariants as sign
use Rattle.fx_parse.specs.Stuck.{Stuck, Unexpected, ◌>>=◌}
use Rattle.fx_parse.specs.Keywords.{word}
use Rattle.fx_parse.specs.Grammars.{opening, closing, expr_tokens, expr_levels, shape_tokens, shape_levels, is_name, has_names}
use Rattle.fx_parse.specs.Reader.{read_expr}
use Rattle.fx_parse.specs.ShapeReader.{read_shape}
use Rattle.fx_parse.specs.Signs.{is_sign, closed_by}
use Rattle.fx_parse.proofs.Machine.{at_most, Runs}
use Rattle.fx_parse.proofs.ReaderPlaces.{Follows}
use Rattle.fx_parse.proofs.ExprLink.{expr_again, front_low, rest_low}
use Rattle.fx_parse.proofs.ShapeLink.{shape_reader}
use Rattle.fx_parse.proofs.Signs.{name_then, sign_is}
use Rattle.fx_parse.proofs.Steps.{part_then, then_ok}
use Rattle.fx_spec.specs.CommandTree.{ActTree, CommandTree, Block, block}
use Rattle.fx_grammar.specs.Tokens.{act_tokens, command_tokens, block_tokens, txn_tokens, act_names, command_names, block_names, txn_names}
use Rattle.fx_grammar.specs.TokenLevels.{act_rest_levels, command_token_levels, block_token_levels, txn_token_levels}
use Rattle.fx_grammar.specs.Grammars.{transactions}
use Rattle.fx_grammar.proofs.Deep.{Low, tail, front, rest}
use Rattle.fx_source_parse.specs.declared.script.start.Start.{Start}
use Rattle.fx_source_parse.specs.declared.script.start.Start.TheVariants as start
use Rattle.fx_source_parse.specs.Scripts.Reader.{start_of, act_start, is_nothing, bracketed_at, valued_at, typed_at, to_at, store_at, act_form_at, act_found, act_at, do_at, try_at, let_at, set_at, fetch_at, value_at, validate_at, print_at, added_at, closed, ended_or, items_at, many_at, braced_at, branch_at, each_at, form_at, read_command, read_txn}
use Rattle.fx_source_parse.proofs.Scripts.Machine.{Txn, Command, table, start_word, act_word, act_of, act_rest, act_parts, act_starts, brace, end_brace, branch_tokens, each_tokens, command_runs}
use Rattle.fx_source_parse.proofs.Scripts.Means.{txn_fits}
use Rattle.fx_source_parse.proofs.Scripts.Link.{txn_follows}
use Rattle.fx_source_parse.specs.Reading.{Read}

-- the commands of a block
abbrev pub list_of : Block → List CommandTree
list_of Block.none = []
list_of (Block.then c cs) = c ∷ list_of cs

pub block_again : (b : Block) → block (list_of b) ≡ b
block_again Block.none = refl
block_again (Block.then c cs) = ap (Block.then c) (block_again cs)

pub list_again : (cs : List CommandTree) → list_of (block cs) ≡ cs
list_again [] = refl
list_again (c ∷ cs) = ap (λ l. c ∷ l) (list_again cs)

-- what readers read again
abbrev ExprAgain : Read ExprTree → ExprTree → Type 0
ExprAgain read e = (r : List Token) → read (expr_tokens e ++ r) ≡ Ok (e, r)

abbrev ShapeAgain : Read ShapeTree → ShapeTree → Type 0
ShapeAgain read s = (r : List Token) → read (shape_tokens s ++ r) ≡ Ok (s, r)

abbrev BlockAgain : Read CommandTree → Block → Type 0
BlockAgain read b = (n : ℕ) (done : List CommandTree) (r : List Token) → length (block_tokens b ++ end_brace ∷ r) ≤ n → items_at read n done (block_tokens b ++ end_brace ∷ r) ≡ Ok (done ++ list_of b, r)

module _ (expr : Read ExprTree) where
  again_bracket : (e : ExprTree) (b rest : List Token) → ExprAgain expr e → bracketed_at expr (opening ∷ ((expr_tokens e ++ closing ∷ b) ++ rest)) ≡ Ok (e, b ++ rest)
  unfolding bracketed_at
  again_bracket e b rest one = part_then expr (expr_tokens e) (closing ∷ b) rest e _ one

  again_valued : (x : List ℕ) (e : ExprTree) (rest : List Token) → is_name x ≡ true → ExprAgain expr e → valued_at expr (token.Word x ∷ token.Mark mark.Equal ∷ (expr_tokens e ++ rest)) ≡ Ok (x, e, rest)
  unfolding valued_at
  again_valued x e rest h one = name_then x _ _ h ∙ then_ok (expr (expr_tokens e ++ rest)) (e, rest) _ (one rest)

  -- an act, whose expression is read again
  abbrev ActAgain : ActTree → Type 0
  ActAgain (ActTree.to e) = ExprAgain expr e
  ActAgain (ActTree.store e) = ExprAgain expr e
  ActAgain _ = Unit {0}

  again_act_form : (a : ActTree) (rest : List Token) → ActAgain a → act_form_at expr (act_of a) (act_rest a ++ rest) ≡ Ok (a, rest)
  unfolding act_form_at to_at store_at
  again_act_form (ActTree.to e) rest one = then_ok (bracketed_at expr (opening ∷ ((expr_tokens e ++ closing ∷ []) ++ rest))) (e, rest) _ (again_bracket e [] rest one)
  again_act_form (ActTree.store e) rest one = then_ok (bracketed_at expr (opening ∷ ((expr_tokens e ++ closing ∷ []) ++ rest))) (e, rest) _ (again_bracket e [] rest one)
  again_act_form ActTree.into rest one = refl
  again_act_form ActTree.next rest one = refl
  again_act_form ActTree.prev rest one = refl
  again_act_form ActTree.out rest one = refl
  again_act_form ActTree.down rest one = refl
  again_act_form ActTree.up rest one = refl
  again_act_form ActTree.top rest one = refl
  again_act_form ActTree.create rest one = refl
  again_act_form ActTree.remove rest one = refl

  again_act : (a : ActTree) (rest : List Token) → ActAgain a → act_at expr (act_tokens a ++ rest) ≡ Ok (a, rest)
  again_act a rest one =
      ap (λ l. act_at expr (l ++ rest)) (act_parts a) ∙ ap (λ s. act_found expr (act_start s) (word (act_word a)) (act_rest a ++ rest)) (act_starts a) ∙ again_act_form a rest one

  again_do : (a : ActTree) (rest : List Token) → ActAgain a → do_at expr (act_of a) (act_rest a ++ rest) ≡ Ok (CommandTree.act a, rest)
  unfolding do_at
  again_do a rest one = then_ok (act_form_at expr (act_of a) (act_rest a ++ rest)) (a, rest) _ (again_act_form a rest one)

  again_try : (x : List ℕ) (a : ActTree) (rest : List Token) → is_name x ≡ true → ActAgain a → try_at expr (token.Word x ∷ (act_tokens a ++ rest)) ≡ Ok (CommandTree.attempt x a, rest)
  unfolding try_at
  again_try x a rest h one = name_then x _ _ h ∙ then_ok (act_at expr (act_tokens a ++ rest)) (a, rest) _ (again_act a rest one)

  again_let : (x : List ℕ) (e : ExprTree) (rest : List Token) → is_name x ≡ true → ExprAgain expr e → let_at expr (token.Word x ∷ token.Mark mark.Equal ∷ (expr_tokens e ++ rest)) ≡ Ok (CommandTree.bind x e, rest)
  unfolding let_at
  again_let x e rest h one = ap (λ r. r >>= (λ r. Ok (CommandTree.bind r.0 r.1, r.2))) (again_valued x e rest h one)

  again_set : (x : List ℕ) (e : ExprTree) (rest : List Token) → is_name x ≡ true → ExprAgain expr e → set_at expr (token.Word x ∷ token.Mark mark.Equal ∷ (expr_tokens e ++ rest)) ≡ Ok (CommandTree.assign x e, rest)
  unfolding set_at
  again_set x e rest h one = ap (λ r. r >>= (λ r. Ok (CommandTree.assign r.0 r.1, r.2))) (again_valued x e rest h one)

  again_print : (e : ExprTree) (rest : List Token) → ExprAgain expr e → print_at expr (opening ∷ ((expr_tokens e ++ closing ∷ []) ++ rest)) ≡ Ok (CommandTree.print e, rest)
  unfolding print_at
  again_print e rest one = then_ok (bracketed_at expr (opening ∷ ((expr_tokens e ++ closing ∷ []) ++ rest))) (e, rest) _ (again_bracket e [] rest one)

module _ (shape : Read ShapeTree) where
  again_typed : (x : List ℕ) (s : ShapeTree) (rest : List Token) → is_name x ≡ true → ShapeAgain shape s → typed_at shape (token.Word x ∷ token.Mark mark.Colon ∷ (shape_tokens s ++ rest)) ≡ Ok (x, s, rest)
  unfolding typed_at
  again_typed x s rest h one = name_then x _ _ h ∙ then_ok (shape (shape_tokens s ++ rest)) (s, rest) _ (one rest)

  again_fetch : (x : List ℕ) (s : ShapeTree) (rest : List Token) → is_name x ≡ true → ShapeAgain shape s → fetch_at shape (token.Word x ∷ token.Mark mark.Colon ∷ (shape_tokens s ++ rest)) ≡ Ok (CommandTree.fetch x s, rest)
  unfolding fetch_at
  again_fetch x s rest h one = ap (λ r. r >>= (λ r. Ok (CommandTree.fetch r.0 r.1, r.2))) (again_typed x s rest h one)

  again_value : (x : List ℕ) (s : ShapeTree) (rest : List Token) → is_name x ≡ true → ShapeAgain shape s → value_at shape (token.Word x ∷ token.Mark mark.Colon ∷ (shape_tokens s ++ rest)) ≡ Ok (CommandTree.whole x s, rest)
  unfolding value_at
  again_value x s rest h one = ap (λ r. r >>= (λ r. Ok (CommandTree.whole r.0 r.1, r.2))) (again_typed x s rest h one)

again_validate : (x : List ℕ) (rest : List Token) → is_name x ≡ true → validate_at (token.Word x ∷ rest) ≡ Ok (CommandTree.validate x, rest)
unfolding validate_at
again_validate x rest h = name_then x rest _ h

module _ (command : Read CommandTree) where
  again_many : (b : Block) (rest : List Token) → BlockAgain command b → many_at command (block_tokens b ++ end_brace ∷ rest) ≡ Ok (list_of b, rest)
  unfolding many_at
  again_many b rest one = one (length (block_tokens b ++ end_brace ∷ rest)) [] rest (omega arith)

  again_braced : (b : Block) (c rest : List Token) → BlockAgain command b → braced_at command (brace ∷ ((block_tokens b ++ end_brace ∷ c) ++ rest)) ≡ Ok (list_of b, c ++ rest)
  unfolding braced_at
  again_braced b c rest one =
      ap (many_at command) (append_assoc (block_tokens b) (end_brace ∷ c) rest) ∙ again_many b (c ++ rest) one

  again_branch : (expr : Read ExprTree) (e : ExprTree) (a b : Block) (rest : List Token) → ExprAgain expr e → BlockAgain command a → BlockAgain command b → branch_at expr command (opening ∷ ((expr_tokens e ++ closing ∷ brace ∷ (block_tokens a ++ end_brace ∷ word keyword.Else ∷ brace ∷ (block_tokens b ++ end_brace ∷ []))) ++ rest)) ≡ Ok (CommandTree.branch e a b, rest)
  unfolding branch_at
  again_branch expr e a b rest one first second =
      let other = word keyword.Else ∷ brace ∷ (block_tokens b ++ end_brace ∷ []) in
      then_ok (bracketed_at expr (opening ∷ ((expr_tokens e ++ closing ∷ brace ∷ (block_tokens a ++ end_brace ∷ other)) ++ rest))) (e, brace ∷ ((block_tokens a ++ end_brace ∷ other) ++ rest)) _ (again_bracket expr e (brace ∷ (block_tokens a ++ end_brace ∷ other)) rest one)
      ∙ then_ok (braced_at command (brace ∷ ((block_tokens a ++ end_brace ∷ other) ++ rest))) (list_of a, other ++ rest) _ (again_braced a other rest first)
      ∙ then_ok (braced_at command (brace ∷ ((block_tokens b ++ end_brace ∷ []) ++ rest))) (list_of b, rest) _ (again_braced b [] rest second)
      ∙ ap (λ z. Ok (CommandTree.branch e z (block (list_of b)), rest)) (block_again a) ∙ ap (λ z. Ok (CommandTree.branch e a z, rest)) (block_again b)

  again_each : (expr : Read ExprTree) (x : List ℕ) (e : ExprTree) (a : Block) (rest : List Token) → is_name x ≡ true → ExprAgain expr e → BlockAgain command a → each_at expr command (token.Word x ∷ word keyword.In ∷ opening ∷ ((expr_tokens e ++ closing ∷ brace ∷ (block_tokens a ++ end_brace ∷ [])) ++ rest)) ≡ Ok (CommandTree.each x e a, rest)
  unfolding each_at
  again_each expr x e a rest h one body =
      name_then x _ _ h
      ∙ then_ok (bracketed_at expr (opening ∷ ((expr_tokens e ++ closing ∷ brace ∷ (block_tokens a ++ end_brace ∷ [])) ++ rest))) (e, brace ∷ ((block_tokens a ++ end_brace ∷ []) ++ rest)) _ (again_bracket expr e (brace ∷ (block_tokens a ++ end_brace ∷ [])) rest one)
      ∙ then_ok (braced_at command (brace ∷ ((block_tokens a ++ end_brace ∷ []) ++ rest))) (list_of a, rest) _ (again_braced a [] rest body)
      ∙ ap (λ z. Ok (CommandTree.each x e z, rest)) (block_again a)

-- one level of the reader, at a token that begins a form
pub opens : (n : ℕ) (x : Token) (ts : List Token) (h : Start) → start_of x ≡ h → is_nothing h ≡ false → read_command (suc n) (x ∷ ts) ≡ form_at (read_expr n) (read_shape n) (read_command n) h ts
unfolding read_command
opens n x ts h e some =
    ap (λ k. cond (is_nothing k) (Err (Unexpected (suc (length ts)))) (form_at (read_expr n) (read_shape n) (read_command n) k ts)) e ∙ ap (λ b. cond b (Err (Unexpected (suc (length ts)))) (form_at (read_expr n) (read_shape n) (read_command n) h ts)) some

-- where a command is read, no brace closes the block
at_brace : (left : ℕ) (ts : List Token) → read_command left (end_brace ∷ ts) ≡ Err (Unexpected (suc (length ts)))
unfolding read_command
at_brace zero ts = refl
at_brace (suc n) ts = refl

open_by : (left : ℕ) (x : Token) (ts : List Token) (c : CommandTree × List Token) (b : Bool) → is_sign sign.RightBrace x ≡ b → read_command left (x ∷ ts) ≡ Ok c → closed_by b ts ≡ None
open_by left x ts c false h e = refl
open_by left x ts c true h e =
    let no : Err (Unexpected (suc (length ts))) ≡ Ok c = sym (at_brace left ts) ∙ ap (λ y. read_command left (y ∷ ts)) (sym (sign_is sign.RightBrace x h)) ∙ e in
    absurd cc

is_open : (left : ℕ) (ts : List Token) (c : CommandTree × List Token) → read_command left ts ≡ Ok c → closed ts ≡ None
is_open left [] c e = refl
is_open left (x ∷ ts) c e = open_by left x ts c (is_sign sign.RightBrace x) refl e

-- a command and those behind it
items_next : (left n : ℕ) (done : List CommandTree) (ts rest : List Token) (c : CommandTree) → read_command left ts ≡ Ok (c, rest) → items_at (read_command left) (suc n) done ts ≡ items_at (read_command left) n (done ++ c ∷ []) rest
unfolding items_at added_at
items_next left n done ts rest c e =
    let more : CommandTree × List Token → Result (List CommandTree × List Token) Stuck = λ c. Ok (done ++ c.0 ∷ [], c.1) in
    let go : List CommandTree × List Token → Result (List CommandTree × List Token) Stuck = λ c. items_at (read_command left) n c.0 c.1 in
    ap (λ o. ended_or o done ((read_command left ts >>= more) >>= go)) (is_open left ts (c, rest) e) ∙ ap (λ r. (r >>= more) >>= go) e

items_end : (command : Read CommandTree) (n : ℕ) (done : List CommandTree) (rest : List Token) → items_at command (suc n) done (end_brace ∷ rest) ≡ Ok (done, rest)
unfolding items_at
items_end command n done rest = refl

has_token : (c : CommandTree) → command_names c ≡ true → 1 ≤ length (command_tokens c)
has_token c h = at (command_tokens c) (command_token_levels 0 c) (command_runs 0 c [] h).runs
  where
    at : (ts : List Token) (l : List ℕ) → Runs table (Command 0 ∷ []) ts l [] → 1 ≤ length ts
    at [] l r = let no : [] ≡ Command 0 ∷ [] = r.1 in absurd cc
    at (x ∷ ts) l r = omega arith

level_fits : (bound d : ℕ) (c : CommandTree) → at_most bound (command_token_levels d c) ≡ true → d ≤ bound
level_fits bound d (CommandTree.act a) h = leb-true d bound (and_parts _ _ h).0
level_fits bound d (CommandTree.attempt x a) h = leb-true d bound (and_parts _ _ h).0
level_fits bound d (CommandTree.bind x e) h = leb-true d bound (and_parts _ _ h).0
level_fits bound d (CommandTree.assign x e) h = leb-true d bound (and_parts _ _ h).0
level_fits bound d (CommandTree.fetch x s) h = leb-true d bound (and_parts _ _ h).0
level_fits bound d (CommandTree.whole x s) h = leb-true d bound (and_parts _ _ h).0
level_fits bound d (CommandTree.validate x) h = leb-true d bound (and_parts _ _ h).0
level_fits bound d (CommandTree.print e) h = leb-true d bound (and_parts _ _ h).0
level_fits bound d (CommandTree.branch e a b) h = leb-true d bound (and_parts _ _ h).0
level_fits bound d (CommandTree.each x e a) h = leb-true d bound (and_parts _ _ h).0
level_fits bound d CommandTree.abort h = leb-true d bound (and_parts _ _ h).0

-- the parts of a command of level d
module _ (bound d n : ℕ) (next : n ≡ suc bound - suc d) where
  expr_read : (e : ExprTree) → has_names e ≡ true → Low bound (expr_levels (suc d) e) → ExprAgain (read_expr n) e
  expr_read e h l = λ r. expr_again e bound n (suc d) r next h l.low

  shape_read : (s : ShapeTree) → Low bound (shape_levels (suc d) s) → ShapeAgain (read_shape n) s
  shape_read s l = λ r. shape_reader.again s bound n (suc d) r next refl l.low

  act_read : (a : ActTree) → act_names a ≡ true → Low bound (act_rest_levels d a) → ActAgain (read_expr n) a
  act_read (ActTree.to e) h l = expr_read e h (front (expr_levels (suc d) e) _ (tail l))
  act_read (ActTree.store e) h l = expr_read e h (front (expr_levels (suc d) e) _ (tail l))
  act_read ActTree.into h l = tt
  act_read ActTree.next h l = tt
  act_read ActTree.prev h l = tt
  act_read ActTree.out h l = tt
  act_read ActTree.down h l = tt
  act_read ActTree.up h l = tt
  act_read ActTree.top h l = tt
  act_read ActTree.create h l = tt
  act_read ActTree.remove h l = tt

mutual
  unfolding form_at

  command_again : (t : CommandTree) (bound left d : ℕ) (more : List Token) → left ≡ suc bound - d → command_names t ≡ true → at_most bound (command_token_levels d t) ≡ true → read_command left (command_tokens t ++ more) ≡ Ok (t, more)
  command_again t bound zero d more e h low = let fits = level_fits bound d t low in absurd (omega (arith, e, fits))
  command_again (CommandTree.act a) bound (suc n) d more e h low =
      let next : n ≡ suc bound - suc d = omega (arith, e) in
      let all : Low bound (d ∷ act_rest_levels d a) = record { low = low } in
      ap (λ l. read_command (suc n) (l ++ more)) (act_parts a) ∙ opens n (word (act_word a)) _ (start.Act (act_of a)) (act_starts a) refl ∙ again_do (read_expr n) a more (act_read bound d n next a h (tail all))
  command_again (CommandTree.attempt x a) bound (suc n) d more e h low =
      let next : n ≡ suc bound - suc d = omega (arith, e) in
      let hs = and_parts (is_name x) (act_names a) h in
      let all : Low bound (d ∷ 0 ∷ 0 ∷ act_rest_levels d a) = record { low = low } in
      opens n (word keyword.Try) _ start.Try (start_word keyword.Try) refl ∙ again_try (read_expr n) x a more hs.0 (act_read bound d n next a hs.1 (tail (tail (tail all))))
  command_again (CommandTree.bind x y) bound (suc n) d more e h low =
      let next : n ≡ suc bound - suc d = omega (arith, e) in
      let hs = and_parts (is_name x) (has_names y) h in
      let all : Low bound (d ∷ 0 ∷ 0 ∷ expr_levels (suc d) y) = record { low = low } in
      opens n (word keyword.Let) _ start.Let (start_word keyword.Let) refl ∙ again_let (read_expr n) x y more hs.0 (expr_read bound d n next y hs.1 (tail (tail (tail all))))
  command_again (CommandTree.assign x y) bound (suc n) d more e h low =
      let next : n ≡ suc bound - suc d = omega (arith, e) in
      let hs = and_parts (is_name x) (has_names y) h in
      let all : Low bound (d ∷ 0 ∷ 0 ∷ expr_levels (suc d) y) = record { low = low } in
      opens n (word keyword.Set) _ start.Set (start_word keyword.Set) refl ∙ again_set (read_expr n) x y more hs.0 (expr_read bound d n next y hs.1 (tail (tail (tail all))))
  command_again (CommandTree.fetch x s) bound (suc n) d more e h low =
      let next : n ≡ suc bound - suc d = omega (arith, e) in
      let all : Low bound (d ∷ 0 ∷ 0 ∷ shape_levels (suc d) s) = record { low = low } in
      opens n (word keyword.Fetch) _ start.Fetch (start_word keyword.Fetch) refl ∙ again_fetch (read_shape n) x s more h (shape_read bound d n next s (tail (tail (tail all))))
  command_again (CommandTree.whole x s) bound (suc n) d more e h low =
      let next : n ≡ suc bound - suc d = omega (arith, e) in
      let all : Low bound (d ∷ 0 ∷ 0 ∷ shape_levels (suc d) s) = record { low = low } in
      opens n (word keyword.Value) _ start.Value (start_word keyword.Value) refl ∙ again_value (read_shape n) x s more h (shape_read bound d n next s (tail (tail (tail all))))
  command_again (CommandTree.validate x) bound (suc n) d more e h low =
      opens n (word keyword.Validate) _ start.Validate (start_word keyword.Validate) refl ∙ again_validate x more h
  command_again (CommandTree.print y) bound (suc n) d more e h low =
      let next : n ≡ suc bound - suc d = omega (arith, e) in
      let all : Low bound (d ∷ 0 ∷ (expr_levels (suc d) y ++ 0 ∷ [])) = record { low = low } in
      opens n (word keyword.Print) _ start.Print (start_word keyword.Print) refl ∙ again_print (read_expr n) y more (expr_read bound d n next y h (front (expr_levels (suc d) y) _ (tail (tail all))))
  command_again (CommandTree.branch y a b) bound (suc n) d more e h low =
      let next : n ≡ suc bound - suc d = omega (arith, e) in
      let hs = and_parts (has_names y) (block_names a && block_names b) h in
      let is = and_parts (block_names a) (block_names b) hs.1 in
      let all : Low bound (command_token_levels d (CommandTree.branch y a b)) = record { low = low } in
      let test = tail (tail all) in
      let first = tail (tail (rest (expr_levels (suc d) y) _ test)) in
      let second = tail (tail (tail (rest (block_token_levels (suc d) a) _ first))) in
      ap (λ l. read_command (suc n) (l ++ more)) (branch_tokens y a b) ∙ opens n (word keyword.If) _ start.If (start_word keyword.If) refl ∙ again_branch (read_command n) (read_expr n) y a b more (expr_read bound d n next y hs.0 (front (expr_levels (suc d) y) _ test)) (λ m done r few. block_read a bound n (suc d) m done r next is.0 (front (block_token_levels (suc d) a) _ first).low few) (λ m done r few. block_read b bound n (suc d) m done r next is.1 (front (block_token_levels (suc d) b) _ second).low few)
  command_again (CommandTree.each x y a) bound (suc n) d more e h low =
      let next : n ≡ suc bound - suc d = omega (arith, e) in
      let hs = and_parts (is_name x) (has_names y && block_names a) h in
      let is = and_parts (has_names y) (block_names a) hs.1 in
      let all : Low bound (command_token_levels d (CommandTree.each x y a)) = record { low = low } in
      let set = tail (tail (tail (tail all))) in
      let body = tail (tail (rest (expr_levels (suc d) y) _ set)) in
      ap (λ l. read_command (suc n) (l ++ more)) (each_tokens x y a) ∙ opens n (word keyword.Each) _ start.Each (start_word keyword.Each) refl ∙ again_each (read_command n) (read_expr n) x y a more hs.0 (expr_read bound d n next y is.0 (front (expr_levels (suc d) y) _ set)) (λ m done r few. block_read a bound n (suc d) m done r next is.1 (front (block_token_levels (suc d) a) _ body).low few)
  command_again CommandTree.abort bound (suc n) d more e h low = opens n (word keyword.Abort) _ start.Abort (start_word keyword.Abort) refl

  block_read : (b : Block) (bound left d m : ℕ) (done : List CommandTree) (r : List Token) → left ≡ suc bound - d → block_names b ≡ true → at_most bound (block_token_levels d b) ≡ true → length (block_tokens b ++ end_brace ∷ r) ≤ m → items_at (read_command left) m done (block_tokens b ++ end_brace ∷ r) ≡ Ok (done ++ list_of b, r)
  block_read Block.none bound left d zero done r e h low few = absurd (omega (arith, few))
  block_read Block.none bound left d (suc m) done r e h low few = items_end (read_command left) m done r ∙ ap (λ l. Ok (l, r)) (sym (append-nil done))
  block_read (Block.then c cs) bound left d zero done r e h low few =
      let size = length-append (command_tokens c ++ block_tokens cs) (end_brace ∷ r) in
      absurd (omega (arith, few, size))
  block_read (Block.then c cs) bound left d (suc m) done r e h low few =
      let hs = and_parts (command_names c) (block_names cs) h in
      let behind = block_tokens cs ++ end_brace ∷ r in
      let parts : (command_tokens c ++ block_tokens cs) ++ end_brace ∷ r ≡ command_tokens c ++ behind = append_assoc (command_tokens c) (block_tokens cs) (end_brace ∷ r) in
      let one = command_again c bound left d behind e hs.0 (front_low bound (command_token_levels d c) (block_token_levels d cs) low) in
      let size : length ((command_tokens c ++ block_tokens cs) ++ end_brace ∷ r) ≡ length (command_tokens c) + length behind = ap length parts ∙ length-append (command_tokens c) behind in
      let some = has_token c hs.0 in
      ap (items_at (read_command left) (suc m) done) parts ∙ items_next left m done (command_tokens c ++ behind) behind c one ∙ block_read cs bound left d m (done ++ c ∷ []) r e hs.1 (rest_low bound (command_token_levels d c) (block_token_levels d cs) low) (omega (arith, few, size, some)) ∙ ap (λ l. Ok (l, r)) (append_assoc done (c ∷ []) (list_of cs))

txn_read : (n : ℕ) (t : List CommandTree) (more : List Token) → BlockAgain (read_command n) (block t) → read_txn (suc n) (txn_tokens t ++ more) ≡ Ok (t, more)
unfolding read_txn
txn_read n t more one = again_braced (read_command n) (block t) [] more one ∙ ap (λ l. Ok (l, more)) (list_again t)

txn_again : (t : List CommandTree) (bound left d : ℕ) (more : List Token) → left ≡ suc bound - d → txn_names t ≡ true → at_most bound (txn_token_levels d t) ≡ true → read_txn left (txn_tokens t ++ more) ≡ Ok (t, more)
txn_again t bound zero d more e h low =
    let fits = leb-true d bound (and_parts _ _ low).0 in
    absurd (omega (arith, e, fits))
txn_again t bound (suc n) d more e h low =
    let next : n ≡ suc bound - suc d = omega (arith, e) in
    let all : Low bound (d ∷ 0 ∷ (block_token_levels (suc d) (block t) ++ 0 ∷ [])) = record { low = low } in
    txn_read n t more (λ m done r few. block_read (block t) bound n (suc d) m done r next h (front (block_token_levels (suc d) (block t)) _ (tail (tail all))).low few)

pub txn_reader : Follows table transactions Txn read_txn
txn_reader = record { fits = txn_fits; follows = txn_follows; again = txn_again }
