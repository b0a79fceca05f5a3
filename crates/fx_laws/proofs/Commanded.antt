-- The tokens of moves, edits, commands, transactions and scripts are read in one way.
use Rattle.std.proofs.Common.{◌≡◌, ℕ, true, ◌&&◌, List, [], ◌∷◌, ◌++◌, refl, sym, ap, ◌∙◌, append_assoc}
use Rattle.std.specs.List.{list_all}
use Rattle.std.proofs.lemmas.Bool.{eqb-false}
use Rattle.fx_base.proofs.Booleans.{first_true, second_true}
use Rattle.fx_expr.specs.ExprTree.{ExprTree}
use Rattle.fx_expr.specs.ShapeTree.{ShapeTree}
use Rattle.fx_lex.specs.declared.token.Mark.{Mark}
use Rattle.fx_lex.specs.declared.token.Mark.TheVariants as mark
use Rattle.fx_lex.specs.declared.token.Token.{Token}
use Rattle.fx_lex.specs.declared.token.Token.TheVariants as token
use Rattle.fx_parse.specs.declared.keyword.Keyword.{Keyword}
use Rattle.fx_parse.specs.declared.keyword.Keyword.TheVariants as keyword
use Rattle.fx_parse.specs.Keywords.{word}
use Rattle.fx_parse.specs.Grammars.{closing, expr_tokens, shape_tokens, is_name, has_names}
use Rattle.fx_spec.specs.CommandTree.{ActTree, CommandTree, Block, block}
use Rattle.fx_grammar.specs.Tokens.{Tokens, bracketed, braced, act_tokens, command_tokens, block_tokens, txn_tokens, script_tokens, act_names, command_names, block_names, txn_names}
use Rattle.fx_laws.specs.TokenLaws.{HasOneReading, BlocksHaveOneReading, ScriptsDiffer}
use Rattle.fx_laws.proofs.Parts.{expr_reading, shape_reading}
use Rattle.fx_laws.proofs.Tokened.{tail_of, word_of, behind_two, behind_three, first, number, number_word, same_number}

-- --------------------------------------------------------------------------------------------------- moves and edits

-- each has a number, which its first token shows
abbrev act_form : ActTree → ℕ
act_form ActTree.into = 1
act_form (ActTree.to e) = 2
act_form ActTree.next = 3
act_form ActTree.prev = 4
act_form ActTree.out = 5
act_form ActTree.down = 6
act_form ActTree.up = 7
act_form ActTree.top = 8
act_form (ActTree.store e) = 9
act_form ActTree.create = 10
act_form ActTree.remove = 11

abbrev act_keys : Keyword → ℕ
act_keys keyword.Into = 1
act_keys keyword.To = 2
act_keys keyword.Next = 3
act_keys keyword.Prev = 4
act_keys keyword.Out = 5
act_keys keyword.Down = 6
act_keys keyword.Up = 7
act_keys keyword.Top = 8
act_keys keyword.Store = 9
act_keys keyword.Create = 10
act_keys keyword.Remove = 11
act_keys _ = 0

abbrev no_marks : Mark → ℕ
no_marks m = 0

act_numbered : (t : ActTree) (x : Tokens) → number act_keys no_marks (first (act_tokens t ++ x)) ≡ act_form t
act_numbered ActTree.into x = number_word act_keys no_marks keyword.Into
act_numbered (ActTree.to e) x = number_word act_keys no_marks keyword.To
act_numbered ActTree.next x = number_word act_keys no_marks keyword.Next
act_numbered ActTree.prev x = number_word act_keys no_marks keyword.Prev
act_numbered ActTree.out x = number_word act_keys no_marks keyword.Out
act_numbered ActTree.down x = number_word act_keys no_marks keyword.Down
act_numbered ActTree.up x = number_word act_keys no_marks keyword.Up
act_numbered ActTree.top x = number_word act_keys no_marks keyword.Top
act_numbered (ActTree.store e) x = number_word act_keys no_marks keyword.Store
act_numbered ActTree.create x = number_word act_keys no_marks keyword.Create
act_numbered ActTree.remove x = number_word act_keys no_marks keyword.Remove

-- an expression in round brackets
bracket_reading : (e f : ExprTree) (x y : Tokens) → has_names e ≡ true → has_names f ≡ true → bracketed (expr_tokens e) ++ x ≡ bracketed (expr_tokens f) ++ y → (e ≡ f) × (x ≡ y)
bracket_reading e f x y p q h =
    let one = expr_reading e f (closing ∷ x) (closing ∷ y) p q (behind_two (expr_tokens e) (closing ∷ []) x (expr_tokens f) (closing ∷ []) y (tail_of _ _ _ _ h)) in
    (one.0, tail_of _ _ _ _ one.1)

pub act_reading : HasOneReading act_tokens act_names
act_reading ActTree.into ActTree.into x y p q h = (refl, tail_of _ _ _ _ h)
act_reading (ActTree.to e) (ActTree.to f) x y p q h = let one = bracket_reading e f x y p q (tail_of _ _ _ _ h) in (ap ActTree.to one.0, one.1)
act_reading ActTree.next ActTree.next x y p q h = (refl, tail_of _ _ _ _ h)
act_reading ActTree.prev ActTree.prev x y p q h = (refl, tail_of _ _ _ _ h)
act_reading ActTree.out ActTree.out x y p q h = (refl, tail_of _ _ _ _ h)
act_reading ActTree.down ActTree.down x y p q h = (refl, tail_of _ _ _ _ h)
act_reading ActTree.up ActTree.up x y p q h = (refl, tail_of _ _ _ _ h)
act_reading ActTree.top ActTree.top x y p q h = (refl, tail_of _ _ _ _ h)
act_reading (ActTree.store e) (ActTree.store f) x y p q h = let one = bracket_reading e f x y p q (tail_of _ _ _ _ h) in (ap ActTree.store one.0, one.1)
act_reading ActTree.create ActTree.create x y p q h = (refl, tail_of _ _ _ _ h)
act_reading ActTree.remove ActTree.remove x y p q h = (refl, tail_of _ _ _ _ h)
act_reading t u x y p q h =
    absurd (eqb-false (act_form t) (act_form u) refl (same_number act_keys no_marks (act_tokens t ++ x) (act_tokens u ++ y) (act_form t) (act_form u) (act_numbered t x) (act_numbered u y) h))

-- ---------------------------------------------------------------------------------------------------- commands and blocks

abbrev form : CommandTree → ℕ
form (CommandTree.act a) = 1
form (CommandTree.attempt v a) = 2
form (CommandTree.bind v e) = 3
form (CommandTree.assign v e) = 4
form (CommandTree.fetch v s) = 5
form (CommandTree.whole v s) = 6
form (CommandTree.validate v) = 7
form (CommandTree.print e) = 8
form (CommandTree.branch e a b) = 9
form (CommandTree.each v e a) = 10
form CommandTree.abort = 11

abbrev keys : Keyword → ℕ
keys keyword.Into = 1
keys keyword.To = 1
keys keyword.Next = 1
keys keyword.Prev = 1
keys keyword.Out = 1
keys keyword.Down = 1
keys keyword.Up = 1
keys keyword.Top = 1
keys keyword.Store = 1
keys keyword.Create = 1
keys keyword.Remove = 1
keys keyword.Try = 2
keys keyword.Let = 3
keys keyword.Set = 4
keys keyword.Fetch = 5
keys keyword.Value = 6
keys keyword.Validate = 7
keys keyword.Print = 8
keys keyword.If = 9
keys keyword.Each = 10
keys keyword.Abort = 11
keys _ = 0

by_act : (a : ActTree) (x : Tokens) → number keys no_marks (first (act_tokens a ++ x)) ≡ 1
by_act ActTree.into x = number_word keys no_marks keyword.Into
by_act (ActTree.to e) x = number_word keys no_marks keyword.To
by_act ActTree.next x = number_word keys no_marks keyword.Next
by_act ActTree.prev x = number_word keys no_marks keyword.Prev
by_act ActTree.out x = number_word keys no_marks keyword.Out
by_act ActTree.down x = number_word keys no_marks keyword.Down
by_act ActTree.up x = number_word keys no_marks keyword.Up
by_act ActTree.top x = number_word keys no_marks keyword.Top
by_act (ActTree.store e) x = number_word keys no_marks keyword.Store
by_act ActTree.create x = number_word keys no_marks keyword.Create
by_act ActTree.remove x = number_word keys no_marks keyword.Remove

numbered : (t : CommandTree) (x : Tokens) → number keys no_marks (first (command_tokens t ++ x)) ≡ form t
numbered (CommandTree.act a) x = by_act a x
numbered (CommandTree.attempt v a) x = number_word keys no_marks keyword.Try
numbered (CommandTree.bind v e) x = number_word keys no_marks keyword.Let
numbered (CommandTree.assign v e) x = number_word keys no_marks keyword.Set
numbered (CommandTree.fetch v s) x = number_word keys no_marks keyword.Fetch
numbered (CommandTree.whole v s) x = number_word keys no_marks keyword.Value
numbered (CommandTree.validate v) x = number_word keys no_marks keyword.Validate
numbered (CommandTree.print e) x = number_word keys no_marks keyword.Print
numbered (CommandTree.branch e a b) x = number_word keys no_marks keyword.If
numbered (CommandTree.each v e a) x = number_word keys no_marks keyword.Each
numbered CommandTree.abort x = number_word keys no_marks keyword.Abort

-- no command begins with a closing brace
not_zero : (t : CommandTree) → 0 ≡ form t → ⊥
not_zero (CommandTree.act a) e = eqb-false 0 1 refl e
not_zero (CommandTree.attempt v a) e = eqb-false 0 2 refl e
not_zero (CommandTree.bind v f) e = eqb-false 0 3 refl e
not_zero (CommandTree.assign v f) e = eqb-false 0 4 refl e
not_zero (CommandTree.fetch v s) e = eqb-false 0 5 refl e
not_zero (CommandTree.whole v s) e = eqb-false 0 6 refl e
not_zero (CommandTree.validate v) e = eqb-false 0 7 refl e
not_zero (CommandTree.print f) e = eqb-false 0 8 refl e
not_zero (CommandTree.branch f a b) e = eqb-false 0 9 refl e
not_zero (CommandTree.each v f a) e = eqb-false 0 10 refl e
not_zero CommandTree.abort e = eqb-false 0 11 refl e

abbrev right_brace : Token
right_brace = token.Mark mark.RightBrace

no_end : (t : CommandTree) (x y : Tokens) → right_brace ∷ x ≡ command_tokens t ++ y → ⊥
no_end t x y h = not_zero t (same_number keys no_marks (right_brace ∷ x) (command_tokens t ++ y) 0 (form t) refl (numbered t y) h)

-- a word and what follows a sign behind it
named_expr : (v w : List ℕ) (s : Token) (e f : ExprTree) (x y : Tokens) → is_name v && has_names e ≡ true → is_name w && has_names f ≡ true → token.Word v ∷ s ∷ (expr_tokens e ++ x) ≡ token.Word w ∷ s ∷ (expr_tokens f ++ y) → (v ≡ w) × (e ≡ f) × (x ≡ y)
named_expr v w s e f x y p q h =
    let one = expr_reading e f x y (second_true (is_name v) (has_names e) p) (second_true (is_name w) (has_names f) q) (tail_of _ _ _ _ (tail_of _ _ _ _ h)) in
    (word_of _ _ _ _ h, one.0, one.1)

named_shape : (v w : List ℕ) (t : Token) (s r : ShapeTree) (x y : Tokens) → token.Word v ∷ t ∷ (shape_tokens s ++ x) ≡ token.Word w ∷ t ∷ (shape_tokens r ++ y) → (v ≡ w) × (s ≡ r) × (x ≡ y)
named_shape v w t s r x y h =
    let one = shape_reading s r x y refl refl (tail_of _ _ _ _ (tail_of _ _ _ _ h)) in
    (word_of _ _ _ _ h, one.0, one.1)

mutual
  pub command_reading : HasOneReading command_tokens command_names
  command_reading (CommandTree.act a) (CommandTree.act b) x y p q h = let one = act_reading a b x y p q h in (ap CommandTree.act one.0, one.1)
  command_reading (CommandTree.attempt v a) (CommandTree.attempt w b) x y p q h =
      let words = tail_of _ _ _ _ h in
      let one = act_reading a b x y (second_true (is_name v) (act_names a) p) (second_true (is_name w) (act_names b) q) (tail_of _ _ _ _ words) in
      (let name : v ≡ w = word_of _ _ _ _ words in let same : a ≡ b = one.0 in cc, one.1)
  command_reading (CommandTree.bind v e) (CommandTree.bind w f) x y p q h =
      let one = named_expr v w (token.Mark mark.Equal) e f x y p q (tail_of _ _ _ _ h) in
      (let name : v ≡ w = one.0 in let same : e ≡ f = one.1 in cc, one.2)
  command_reading (CommandTree.assign v e) (CommandTree.assign w f) x y p q h =
      let one = named_expr v w (token.Mark mark.Equal) e f x y p q (tail_of _ _ _ _ h) in
      (let name : v ≡ w = one.0 in let same : e ≡ f = one.1 in cc, one.2)
  command_reading (CommandTree.fetch v s) (CommandTree.fetch w r) x y p q h =
      let one = named_shape v w (token.Mark mark.Colon) s r x y (tail_of _ _ _ _ h) in
      (let name : v ≡ w = one.0 in let same : s ≡ r = one.1 in cc, one.2)
  command_reading (CommandTree.whole v s) (CommandTree.whole w r) x y p q h =
      let one = named_shape v w (token.Mark mark.Colon) s r x y (tail_of _ _ _ _ h) in
      (let name : v ≡ w = one.0 in let same : s ≡ r = one.1 in cc, one.2)
  command_reading (CommandTree.validate v) (CommandTree.validate w) x y p q h =
      let words = tail_of _ _ _ _ h in
      (ap CommandTree.validate (word_of _ _ _ _ words), tail_of _ _ _ _ words)
  command_reading (CommandTree.print e) (CommandTree.print f) x y p q h = let one = bracket_reading e f x y p q (tail_of _ _ _ _ h) in (ap CommandTree.print one.0, one.1)
  command_reading (CommandTree.branch e a b) (CommandTree.branch f c d) x y p q h =
      let p' = second_true (has_names e) (block_names a && block_names b) p in
      let q' = second_true (has_names f) (block_names c && block_names d) q in
      let one = bracket_reading e f _ _ (first_true (has_names e) (block_names a && block_names b) p) (first_true (has_names f) (block_names c && block_names d) q) (behind_three (bracketed (expr_tokens e)) (braced (block_tokens a)) (word keyword.Else ∷ braced (block_tokens b)) x (bracketed (expr_tokens f)) (braced (block_tokens c)) (word keyword.Else ∷ braced (block_tokens d)) y (tail_of _ _ _ _ h)) in
      let two = block_reading a c _ _ (first_true (block_names a) (block_names b) p') (first_true (block_names c) (block_names d) q') (behind_two (block_tokens a) (right_brace ∷ []) ((word keyword.Else ∷ braced (block_tokens b)) ++ x) (block_tokens c) (right_brace ∷ []) ((word keyword.Else ∷ braced (block_tokens d)) ++ y) (tail_of _ _ _ _ one.1)) in
      let three = block_reading b d x y (second_true (block_names a) (block_names b) p') (second_true (block_names c) (block_names d) q') (behind_two (block_tokens b) (right_brace ∷ []) x (block_tokens d) (right_brace ∷ []) y (tail_of _ _ _ _ (tail_of _ _ _ _ two.1))) in
      (let test : e ≡ f = one.0 in let same : a ≡ c = two.0 in let rest : b ≡ d = three.0 in cc, three.1)
  command_reading (CommandTree.each v e a) (CommandTree.each w f b) x y p q h =
      let words = tail_of _ _ _ _ h in
      let p' = second_true (is_name v) (has_names e && block_names a) p in
      let q' = second_true (is_name w) (has_names f && block_names b) q in
      let one = bracket_reading e f _ _ (first_true (has_names e) (block_names a) p') (first_true (has_names f) (block_names b) q') (behind_two (bracketed (expr_tokens e)) (braced (block_tokens a)) x (bracketed (expr_tokens f)) (braced (block_tokens b)) y (tail_of _ _ _ _ (tail_of _ _ _ _ words))) in
      let two = block_reading a b x y (second_true (has_names e) (block_names a) p') (second_true (has_names f) (block_names b) q') (behind_two (block_tokens a) (right_brace ∷ []) x (block_tokens b) (right_brace ∷ []) y (tail_of _ _ _ _ one.1)) in
      (let name : v ≡ w = word_of _ _ _ _ words in let set : e ≡ f = one.0 in let same : a ≡ b = two.0 in cc, two.1)
  command_reading CommandTree.abort CommandTree.abort x y p q h = (refl, tail_of _ _ _ _ h)
  command_reading t u x y p q h =
      absurd (eqb-false (form t) (form u) refl (same_number keys no_marks (command_tokens t ++ x) (command_tokens u ++ y) (form t) (form u) (numbered t x) (numbered u y) h))

  pub block_reading : BlocksHaveOneReading
  block_reading Block.none Block.none x y p q h = (refl, tail_of _ _ _ _ h)
  block_reading Block.none (Block.then d ds) x y p q h = absurd (no_end d x (block_tokens ds ++ right_brace ∷ y) (h ∙ append_assoc (command_tokens d) (block_tokens ds) (right_brace ∷ y)))
  block_reading (Block.then c cs) Block.none x y p q h = absurd (no_end c y (block_tokens cs ++ right_brace ∷ x) (sym h ∙ append_assoc (command_tokens c) (block_tokens cs) (right_brace ∷ x)))
  block_reading (Block.then c cs) (Block.then d ds) x y p q h =
      let one = command_reading c d _ _ (first_true (command_names c) (block_names cs) p) (first_true (command_names d) (block_names ds) q) (behind_two (command_tokens c) (block_tokens cs) (right_brace ∷ x) (command_tokens d) (block_tokens ds) (right_brace ∷ y) h) in
      let two = block_reading cs ds x y (second_true (command_names c) (block_names cs) p) (second_true (command_names d) (block_names ds) q) one.1 in
      (let same : c ≡ d = one.0 in let rest : cs ≡ ds = two.0 in cc, two.1)

-- ------------------------------------------------------------------------------------------------ transactions and scripts

-- the commands of a block
abbrev listed : Block → List CommandTree
listed Block.none = []
listed (Block.then c cs) = c ∷ listed cs

listed_again : (commands : List CommandTree) → listed (block commands) ≡ commands
listed_again [] = refl
listed_again (c ∷ cs) = ap (λ rest. c ∷ rest) (listed_again cs)

pub txn_reading : HasOneReading txn_tokens txn_names
txn_reading a b x y p q h =
    let one = block_reading (block a) (block b) x y p q (behind_two (block_tokens (block a)) (right_brace ∷ []) x (block_tokens (block b)) (right_brace ∷ []) y (tail_of _ _ _ _ (tail_of _ _ _ _ h))) in
    (sym (listed_again a) ∙ ap listed one.0 ∙ listed_again b, one.1)

pub scripts_differ : ScriptsDiffer
scripts_differ [] [] p q h = refl
scripts_differ [] (b ∷ others) p q h = cc
scripts_differ (a ∷ txns) [] p q h = cc
scripts_differ (a ∷ txns) (b ∷ others) p q h =
    let one = txn_reading a b (script_tokens txns) (script_tokens others) (first_true (txn_names a) (list_all txn_names txns) p) (first_true (txn_names b) (list_all txn_names others) q) h in
    let rest : txns ≡ others = scripts_differ txns others (second_true (txn_names a) (list_all txn_names txns) p) (second_true (txn_names b) (list_all txn_names others) q) one.1 in
    let same : a ≡ b = one.0 in
    cc
