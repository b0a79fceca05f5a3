-- What empties the stack of the machine is the tokens of commands and transactions.
use Rattle.std.proofs.Common.{◌≡◌, ℕ, suc, Bool, true, false, Option, Some, None, List, [], ◌∷◌, ◌++◌, refl, sym, ap, ◌∙◌, subst, append_assoc}
use Rattle.std.proofs.lemmas.List.{append-nil}
use Rattle.std.proofs.lemmas.Bool.{and_from}
use Rattle.fx_expr.specs.ExprTree.{ExprTree}
use Rattle.fx_expr.specs.ShapeTree.{ShapeTree}
use Rattle.fx_lex.specs.declared.token.Token.{Token}
use Rattle.fx_lex.specs.declared.token.Token.TheVariants as token
use Rattle.fx_lex.specs.declared.token.Mark.TheVariants as mark
use Rattle.fx_parse.specs.declared.keyword.Keyword.{Keyword}
use Rattle.fx_parse.specs.declared.keyword.Keyword.TheVariants as keyword
use Rattle.fx_parse.specs.declared.sign.Sign.{Sign}
use Rattle.fx_parse.specs.declared.sign.Sign.TheVariants as sign
use Rattle.fx_parse.specs.Keywords.{keyword_of, word}
use Rattle.fx_parse.specs.Grammars.{opening, closing, expr_tokens, shape_tokens, is_name, has_names}
use Rattle.fx_parse.specs.Signs.{sign_token, is_sign}
use Rattle.fx_parse.proofs.Machine.{Runs, MeansAll, means_split, built}
use Rattle.fx_parse.proofs.Places.{Fits}
use Rattle.fx_parse.proofs.ExprMachine as inner
use Rattle.fx_parse.proofs.ExprMachine.{Expr, keyword_spelled, expr_fits}
use Rattle.fx_parse.proofs.ShapeMachine as shape
use Rattle.fx_parse.proofs.ShapeMachine.{Shape, shape_fits}
use Rattle.fx_parse.proofs.Signs.{sign_is, names, name_is}
use Rattle.fx_parse.proofs.Steps.{ran}
use Rattle.fx_parse.proofs.Tests.{passed_step}
use Rattle.fx_parse.proofs.Within.{run_within, Over, part_step}
use Rattle.fx_spec.specs.CommandTree.{ActTree, CommandTree, Block, block}
use Rattle.fx_grammar.specs.Tokens.{act_tokens, command_tokens, block_tokens, txn_tokens, act_names, command_names, block_names, txn_names}
use Rattle.fx_grammar.specs.Grammars.{transactions}
use Rattle.fx_source_parse.specs.declared.script.start.Plain.{Plain}
use Rattle.fx_source_parse.specs.declared.script.start.Plain.TheVariants as plain
use Rattle.fx_source_parse.specs.declared.script.start.ActStart.{ActStart}
use Rattle.fx_source_parse.specs.declared.script.start.ActStart.TheVariants as act
use Rattle.fx_source_parse.specs.declared.script.start.Start.{Start}
use Rattle.fx_source_parse.specs.declared.script.start.Start.TheVariants as start
use Rattle.fx_source_parse.specs.Scripts.Reader.{plain_tree, keyword_start, word_start, start_of, act_start}
use Rattle.fx_source_parse.proofs.Scripts.Machine.{Sym, Txn, Command, Commands, Act, Part, Shaped, Name, Fixed, act_stack, found_stack, start_stack, items_stack, txn_stack, table, holds, shape_holds, brace, end_brace, branch_list, branch_tokens, each_list, each_tokens, a_sign, a_name, command_runs, a_block, txn_runs, act_runs}

record IsTxn (ts : List Token) : Type 0 where
  commands : List CommandTree
  right : txn_names commands ≡ true
  spelled : ts ≡ txn_tokens commands

record IsCommand (ts : List Token) : Type 0 where
  tree : CommandTree
  right : command_names tree ≡ true
  spelled : ts ≡ command_tokens tree

record AreCommands (ts : List Token) : Type 0 where
  commands : List CommandTree
  right : block_names (block commands) ≡ true
  spelled : ts ≡ block_tokens (block commands) ++ end_brace ∷ []

record IsAct (ts : List Token) : Type 0 where
  tree : ActTree
  right : act_names tree ≡ true
  spelled : ts ≡ act_tokens tree

abbrev Means : Sym → List Token → Type 0
Means (Txn d) ts = IsTxn ts
Means (Command d) ts = IsCommand ts
Means (Commands d) ts = AreCommands ts
Means (Act d) ts = IsAct ts
Means (Part s) ts = Over inner.table s ts
Means (Shaped s) ts = Over shape.table s ts
Means Name ts = (w : List ℕ) × (is_name w ≡ true) × (ts ≡ token.Word w ∷ [])
Means (Fixed s) ts = ts ≡ sign_token s ∷ []

abbrev All : List Sym → List Token → Type 0
All stack ts = MeansAll table Means stack ts

-- the tokens are what the stack stands for
record Reads (stack : List Sym) (ts : List Token) : Type 0 where
  means : All stack ts

-- what stands behind a first symbol
record AfterSign (s : Sign) (stack : List Sym) (ts : List Token) : Type 0 where
  rest : List Token
  parts : ts ≡ sign_token s ∷ rest
  reads : Reads stack rest

record AfterName (stack : List Sym) (ts : List Token) : Type 0 where
  name : List ℕ
  right : is_name name ≡ true
  rest : List Token
  parts : ts ≡ token.Word name ∷ rest
  reads : Reads stack rest

record AfterExpr (stack : List Sym) (ts : List Token) : Type 0 where
  tree : ExprTree
  right : has_names tree ≡ true
  rest : List Token
  parts : ts ≡ expr_tokens tree ++ rest
  reads : Reads stack rest

record AfterShape (stack : List Sym) (ts : List Token) : Type 0 where
  tree : ShapeTree
  rest : List Token
  parts : ts ≡ shape_tokens tree ++ rest
  reads : Reads stack rest

record AfterAct (stack : List Sym) (ts : List Token) : Type 0 where
  tree : ActTree
  right : act_names tree ≡ true
  rest : List Token
  parts : ts ≡ act_tokens tree ++ rest
  reads : Reads stack rest

record AfterCommands (stack : List Sym) (ts : List Token) : Type 0 where
  commands : List CommandTree
  right : block_names (block commands) ≡ true
  rest : List Token
  parts : ts ≡ block_tokens (block commands) ++ end_brace ∷ rest
  reads : Reads stack rest

-- `( expr )`
record AfterBracket (stack : List Sym) (ts : List Token) : Type 0 where
  tree : ExprTree
  right : has_names tree ≡ true
  rest : List Token
  parts : ts ≡ opening ∷ (expr_tokens tree ++ closing ∷ rest)
  reads : Reads stack rest

after_sign : {s : Sign} {stack : List Sym} {ts : List Token} → Reads (Fixed s ∷ stack) ts → AfterSign s stack ts
after_sign r = let p = r.means in record { rest = p.1; parts = p.2 ∙ ap (λ a. a ++ p.1) p.3; reads = record { means = p.4 } }

after_name : {stack : List Sym} {ts : List Token} → Reads (Name ∷ stack) ts → AfterName stack ts
after_name r =
    let p = r.means in
    record { name = p.3.0; right = p.3.1; rest = p.1; parts = p.2 ∙ ap (λ a. a ++ p.1) p.3.2; reads = record { means = p.4 } }

after_expr : {d : ℕ} {stack : List Sym} {ts : List Token} → Reads (Part (Expr d) ∷ stack) ts → AfterExpr stack ts
after_expr {d} r =
    let p = r.means in
    let e = expr_fits.means d p.0 p.3.0 p.3.1 in
    record { tree = e.0; right = e.1; rest = p.1; parts = p.2 ∙ ap (λ a. a ++ p.1) e.2; reads = record { means = p.4 } }

after_shape : {d : ℕ} {stack : List Sym} {ts : List Token} → Reads (Shaped (Shape d) ∷ stack) ts → AfterShape stack ts
after_shape {d} r =
    let p = r.means in
    let e = shape_fits.means d p.0 p.3.0 p.3.1 in
    record { tree = e.0; rest = p.1; parts = p.2 ∙ ap (λ a. a ++ p.1) e.2; reads = record { means = p.4 } }

after_act : {d : ℕ} {stack : List Sym} {ts : List Token} → Reads (Act d ∷ stack) ts → AfterAct stack ts
after_act r =
    let p = r.means in
    record { tree = p.3.tree; right = p.3.right; rest = p.1; parts = p.2 ∙ ap (λ a. a ++ p.1) p.3.spelled; reads = record { means = p.4 } }

after_commands : {d : ℕ} {stack : List Sym} {ts : List Token} → Reads (Commands d ∷ stack) ts → AfterCommands stack ts
after_commands r =
    let p = r.means in
    record {
      commands = p.3.commands;
      right = p.3.right;
      rest = p.1;
      parts = p.2 ∙ ap (λ a. a ++ p.1) p.3.spelled ∙ append_assoc (block_tokens (block p.3.commands)) (end_brace ∷ []) p.1;
      reads = record { means = p.4 };
    }

after_bracket : {d : ℕ} {stack : List Sym} {ts : List Token} → Reads (Fixed sign.LeftParen ∷ Part (Expr d) ∷ Fixed sign.RightParen ∷ stack) ts → AfterBracket stack ts
after_bracket r =
    let b = after_sign r in
    let e = after_expr b.reads in
    let z = after_sign e.reads in
    record {
      tree = e.tree;
      right = e.right;
      rest = z.rest;
      parts = b.parts ∙ ap (λ l. opening ∷ l) (e.parts ∙ ap (λ l. expr_tokens e.tree ++ l) z.parts);
      reads = z.reads;
    }

empty : {ts : List Token} → Reads [] ts → ts ≡ []
empty r = r.means

-- the tokens that begin so
abbrev ActSpells : ActStart → Token → Type 0
ActSpells (act.Plain p) x = act_tokens (plain_tree p) ≡ x ∷ []
ActSpells act.To x = x ≡ word keyword.To
ActSpells act.Store x = x ≡ word keyword.Store

abbrev StartSpells : Start → Token → Type 0
StartSpells (start.Act a) x = ActSpells a x
StartSpells start.Try x = x ≡ word keyword.Try
StartSpells start.Let x = x ≡ word keyword.Let
StartSpells start.Set x = x ≡ word keyword.Set
StartSpells start.Fetch x = x ≡ word keyword.Fetch
StartSpells start.Value x = x ≡ word keyword.Value
StartSpells start.Validate x = x ≡ word keyword.Validate
StartSpells start.Print x = x ≡ word keyword.Print
StartSpells start.If x = x ≡ word keyword.If
StartSpells start.Each x = x ≡ word keyword.Each
StartSpells start.Abort x = x ≡ word keyword.Abort
StartSpells start.Nothing x = Unit {0}

keyword_spells : (k : Keyword) → StartSpells (keyword_start k) (word k)
keyword_spells keyword.Into = refl
keyword_spells keyword.Next = refl
keyword_spells keyword.Prev = refl
keyword_spells keyword.Out = refl
keyword_spells keyword.Down = refl
keyword_spells keyword.Up = refl
keyword_spells keyword.Top = refl
keyword_spells keyword.Create = refl
keyword_spells keyword.Remove = refl
keyword_spells keyword.To = refl
keyword_spells keyword.Store = refl
keyword_spells keyword.Try = refl
keyword_spells keyword.Let = refl
keyword_spells keyword.Set = refl
keyword_spells keyword.Fetch = refl
keyword_spells keyword.Value = refl
keyword_spells keyword.Validate = refl
keyword_spells keyword.Print = refl
keyword_spells keyword.If = refl
keyword_spells keyword.Each = refl
keyword_spells keyword.Abort = refl
keyword_spells _ = tt

word_spells : (w : List ℕ) (o : Option Keyword) → keyword_of w ≡ o → StartSpells (word_start o) (token.Word w)
word_spells w None e = tt
word_spells w (Some k) e = subst (λ x. StartSpells (keyword_start k) x) (sym (keyword_spelled w k e)) (keyword_spells k)

start_spells : (x : Token) → StartSpells (start_of x) x
start_spells (token.Word w) = word_spells w (keyword_of w) refl
start_spells (token.Number n) = tt
start_spells (token.Str v) = tt
start_spells (token.Mark m) = tt
start_spells token.Def = tt

-- the parts of a form
parts_of : (stack more : List Sym) (ts : List Token) → Some stack ≡ Some more → All more ts → Reads stack ts
parts_of stack more ts e r =
    let same : stack ≡ more = cc in
    record { means = subst (λ m. All m ts) (sym same) r }

plain_names : (p : Plain) → act_names (plain_tree p) ≡ true
plain_names plain.Into = refl
plain_names plain.Next = refl
plain_names plain.Prev = refl
plain_names plain.Out = refl
plain_names plain.Down = refl
plain_names plain.Up = refl
plain_names plain.Top = refl
plain_names plain.Create = refl
plain_names plain.Remove = refl

act_step : (d : ℕ) (x : Token) (a : ActStart) (ts : List Token) → ActSpells a x → Reads (act_stack d a) ts → IsAct (x ∷ ts)
act_step d x (act.Plain p) ts s r =
    record { tree = plain_tree p; right = plain_names p; spelled = ap (λ l. x ∷ l) (empty r) ∙ sym s }
act_step d x act.To ts s r =
    let b = after_bracket r in
    record { tree = ActTree.to b.tree; right = b.right; spelled = ap (λ y. y ∷ ts) s ∙ ap (λ l. word keyword.To ∷ l) (b.parts ∙ ap (λ l. opening ∷ (expr_tokens b.tree ++ closing ∷ l)) (empty b.reads)) }
act_step d x act.Store ts s r =
    let b = after_bracket r in
    record { tree = ActTree.store b.tree; right = b.right; spelled = ap (λ y. y ∷ ts) s ∙ ap (λ l. word keyword.Store ∷ l) (b.parts ∙ ap (λ l. opening ∷ (expr_tokens b.tree ++ closing ∷ l)) (empty b.reads)) }

found_step : (d : ℕ) (x : Token) (h : Start) (more : List Sym) (ts : List Token) → StartSpells h x → found_stack d (act_start h) ≡ Some more → All more ts → IsAct (x ∷ ts)
found_step d x (start.Act a) more ts s e r = act_step d x a ts s (parts_of (act_stack d a) more ts e r)
found_step d x _ more ts s e r = absurd cc

command_step : (d : ℕ) (x : Token) (h : Start) (more : List Sym) (ts : List Token) → StartSpells h x → start_stack d h ≡ Some more → All more ts → IsCommand (x ∷ ts)
command_step d x (start.Act a) more ts s e r =
    let t = act_step d x a ts s (parts_of (act_stack d a) more ts e r) in
    record { tree = CommandTree.act t.tree; right = t.right; spelled = t.spelled }
command_step d x start.Try more ts s e r =
    let n = after_name (parts_of (Name ∷ Act d ∷ []) more ts e r) in
    let a = after_act n.reads in
    record { tree = CommandTree.attempt n.name a.tree; right = and_from _ _ n.right a.right; spelled = ap (λ y. y ∷ ts) s ∙ ap (λ l. word keyword.Try ∷ l) (n.parts ∙ ap (λ l. token.Word n.name ∷ l) (a.parts ∙ ap (λ l. act_tokens a.tree ++ l) (empty a.reads) ∙ append-nil (act_tokens a.tree))) }
command_step d x start.Let more ts s e r =
    let n = after_name (parts_of (Name ∷ Fixed sign.Equal ∷ Part (Expr (suc d)) ∷ []) more ts e r) in
    let b = after_sign n.reads in
    let a = after_expr b.reads in
    record { tree = CommandTree.bind n.name a.tree; right = and_from _ _ n.right a.right; spelled = ap (λ y. y ∷ ts) s ∙ ap (λ l. word keyword.Let ∷ l) (n.parts ∙ ap (λ l. token.Word n.name ∷ l) (b.parts ∙ ap (λ l. token.Mark mark.Equal ∷ l) (a.parts ∙ ap (λ l. expr_tokens a.tree ++ l) (empty a.reads) ∙ append-nil (expr_tokens a.tree)))) }
command_step d x start.Set more ts s e r =
    let n = after_name (parts_of (Name ∷ Fixed sign.Equal ∷ Part (Expr (suc d)) ∷ []) more ts e r) in
    let b = after_sign n.reads in
    let a = after_expr b.reads in
    record { tree = CommandTree.assign n.name a.tree; right = and_from _ _ n.right a.right; spelled = ap (λ y. y ∷ ts) s ∙ ap (λ l. word keyword.Set ∷ l) (n.parts ∙ ap (λ l. token.Word n.name ∷ l) (b.parts ∙ ap (λ l. token.Mark mark.Equal ∷ l) (a.parts ∙ ap (λ l. expr_tokens a.tree ++ l) (empty a.reads) ∙ append-nil (expr_tokens a.tree)))) }
command_step d x start.Fetch more ts s e r =
    let n = after_name (parts_of (Name ∷ Fixed sign.Colon ∷ Shaped (Shape (suc d)) ∷ []) more ts e r) in
    let b = after_sign n.reads in
    let a = after_shape b.reads in
    record { tree = CommandTree.fetch n.name a.tree; right = n.right; spelled = ap (λ y. y ∷ ts) s ∙ ap (λ l. word keyword.Fetch ∷ l) (n.parts ∙ ap (λ l. token.Word n.name ∷ l) (b.parts ∙ ap (λ l. token.Mark mark.Colon ∷ l) (a.parts ∙ ap (λ l. shape_tokens a.tree ++ l) (empty a.reads) ∙ append-nil (shape_tokens a.tree)))) }
command_step d x start.Value more ts s e r =
    let n = after_name (parts_of (Name ∷ Fixed sign.Colon ∷ Shaped (Shape (suc d)) ∷ []) more ts e r) in
    let b = after_sign n.reads in
    let a = after_shape b.reads in
    record { tree = CommandTree.whole n.name a.tree; right = n.right; spelled = ap (λ y. y ∷ ts) s ∙ ap (λ l. word keyword.Value ∷ l) (n.parts ∙ ap (λ l. token.Word n.name ∷ l) (b.parts ∙ ap (λ l. token.Mark mark.Colon ∷ l) (a.parts ∙ ap (λ l. shape_tokens a.tree ++ l) (empty a.reads) ∙ append-nil (shape_tokens a.tree)))) }
command_step d x start.Validate more ts s e r =
    let n = after_name (parts_of (Name ∷ []) more ts e r) in
    record { tree = CommandTree.validate n.name; right = n.right; spelled = ap (λ y. y ∷ ts) s ∙ ap (λ l. word keyword.Validate ∷ l) (n.parts ∙ ap (λ l. token.Word n.name ∷ l) (empty n.reads)) }
command_step d x start.Print more ts s e r =
    let b = after_bracket (parts_of (Fixed sign.LeftParen ∷ Part (Expr (suc d)) ∷ Fixed sign.RightParen ∷ []) more ts e r) in
    record { tree = CommandTree.print b.tree; right = b.right; spelled = ap (λ y. y ∷ ts) s ∙ ap (λ l. word keyword.Print ∷ l) (b.parts ∙ ap (λ l. opening ∷ (expr_tokens b.tree ++ closing ∷ l)) (empty b.reads)) }
command_step d x start.If more ts s e r =
    let t = after_bracket (parts_of (Fixed sign.LeftParen ∷ Part (Expr (suc d)) ∷ Fixed sign.RightParen ∷ Fixed sign.LeftBrace ∷ Commands (suc d) ∷ Fixed sign.Else ∷ Fixed sign.LeftBrace ∷ Commands (suc d) ∷ []) more ts e r) in
    let o = after_sign t.reads in
    let a = after_commands o.reads in
    let k = after_sign a.reads in
    let p = after_sign k.reads in
    let b = after_commands p.reads in
    let last : b.rest ≡ [] = empty b.reads in
    let spelled : x ∷ ts ≡ branch_list t.tree (block a.commands) (block b.commands) = cc (t.parts, o.parts, a.parts, k.parts, p.parts, b.parts, last, s) in
    record { tree = CommandTree.branch t.tree (block a.commands) (block b.commands); right = and_from _ _ t.right (and_from _ _ a.right b.right); spelled = spelled ∙ sym (branch_tokens t.tree (block a.commands) (block b.commands)) }
command_step d x start.Each more ts s e r =
    let n = after_name (parts_of (Name ∷ Fixed sign.In ∷ Fixed sign.LeftParen ∷ Part (Expr (suc d)) ∷ Fixed sign.RightParen ∷ Fixed sign.LeftBrace ∷ Commands (suc d) ∷ []) more ts e r) in
    let i = after_sign n.reads in
    let t = after_bracket i.reads in
    let o = after_sign t.reads in
    let a = after_commands o.reads in
    let last : a.rest ≡ [] = empty a.reads in
    let spelled : x ∷ ts ≡ each_list n.name t.tree (block a.commands) = cc (n.parts, i.parts, t.parts, o.parts, a.parts, last, s) in
    record { tree = CommandTree.each n.name t.tree (block a.commands); right = and_from _ _ n.right (and_from _ _ t.right a.right); spelled = spelled ∙ sym (each_tokens n.name t.tree (block a.commands)) }
command_step d x start.Abort more ts s e r =
    record { tree = CommandTree.abort; right = refl; spelled = ap (λ l. x ∷ l) (empty (parts_of [] more ts e r)) ∙ ap (λ y. y ∷ []) s }
command_step d x start.Nothing more ts s e r = absurd cc

-- a command and those behind it
more_commands : (x : Token) (a b : List Token) → IsCommand (x ∷ a) → AreCommands b → AreCommands (x ∷ (a ++ b))
more_commands x a b c cs = record {
  commands = c.tree ∷ cs.commands;
  right = and_from _ _ c.right cs.right;
  spelled = ap (λ l. l ++ b) c.spelled ∙ ap (λ l. command_tokens c.tree ++ l) cs.spelled ∙ sym (append_assoc (command_tokens c.tree) (block_tokens (block cs.commands)) (end_brace ∷ []));
}

items_step : (d : ℕ) (x : Token) (close : Bool) (o : Option (List Sym)) (more : List Sym) (ts : List Token) → is_sign sign.RightBrace x ≡ close → start_stack d (start_of x) ≡ o → items_stack d close o ≡ Some more → All more ts → AreCommands (x ∷ ts)
items_step d x true o more ts h g e r =
    record { commands = []; right = refl; spelled = ap (λ l. x ∷ l) (empty (parts_of [] more ts e r)) ∙ ap (λ y. y ∷ []) (sign_is sign.RightBrace x h) }
items_step d x false None more ts h g e r = absurd cc
items_step d x false (Some k) more ts h g e r =
    let all = parts_of (k ++ Commands d ∷ []) more ts e r in
    let p = means_split table Means k (Commands d ∷ []) ts all.means in
    let one = command_step d x (start_of x) k p.0 (start_spells x) g p.3 in
    let others : Reads (Commands d ∷ []) p.1 = record { means = p.4 } in
    let rest = after_commands others in
    let behind : AreCommands p.1 = record { commands = rest.commands; right = rest.right; spelled = rest.parts ∙ ap (λ l. block_tokens (block rest.commands) ++ end_brace ∷ l) (empty rest.reads) } in
    subst AreCommands (ap (λ l. x ∷ l) (sym p.2)) (more_commands x p.0 p.1 one behind)

txn_step : (d : ℕ) (x : Token) (b : Bool) (more : List Sym) (ts : List Token) → is_sign sign.Txn x ≡ b → txn_stack d b ≡ Some more → All more ts → IsTxn (x ∷ ts)
txn_step d x true more ts h e r =
    let o = after_sign (parts_of (Fixed sign.LeftBrace ∷ Commands (suc d) ∷ []) more ts e r) in
    let a = after_commands o.reads in
    record {
      commands = a.commands;
      right = a.right;
      spelled = ap (λ y. y ∷ ts) (sign_is sign.Txn x h) ∙ ap (λ l. word keyword.Txn ∷ l) (o.parts ∙ ap (λ l. brace ∷ l) (a.parts ∙ ap (λ l. block_tokens (block a.commands) ++ end_brace ∷ l) (empty a.reads)));
    }
txn_step d x false more ts h e r = absurd cc

step : (s : Sym) (x : Token) (more : List Sym) (ts : List Token) → table.expand s x ≡ Some more → All more ts → Means s (x ∷ ts)
step (Txn d) x more ts e r = txn_step d x (is_sign sign.Txn x) more ts refl e r
step (Command d) x more ts e r = command_step d x (start_of x) more ts (start_spells x) e r
step (Commands d) x more ts e r = items_step d x (is_sign sign.RightBrace x) (start_stack d (start_of x)) more ts refl refl e r
step (Act d) x more ts e r = found_step d x (start_of x) more ts (start_spells x) e r
step (Part s) x more ts e r = part_step inner.table table Part holds Means (λ s ts over. over) s x more ts e r
step (Shaped s) x more ts e r = part_step shape.table table Shaped shape_holds Means (λ s ts over. over) s x more ts e r
step Name x more ts e r =
    let p = passed_step (λ m. All m ts) (names x) more e r in
    let n = name_is x p.0 in
    (n.0, n.1, ap (λ l. x ∷ l) p.1 ∙ ap (λ y. y ∷ []) n.2)
step (Fixed s) x more ts e r = let p = passed_step (λ m. All m ts) (is_sign s x) more e r in ap (λ l. x ∷ l) p.1 ∙ ap (λ y. y ∷ []) (sign_is s x p.0)

a_word : is_name (95 ∷ []) ≡ true
a_word = refl

whole : (s : Sym) → (ts : List Token) × (l : List ℕ) × Runs table (s ∷ []) ts l []
whole (Txn d) = (txn_tokens [], _, (txn_runs d [] [] refl).runs)
whole (Command d) = (word keyword.Abort ∷ [], d ∷ [], (command_runs d CommandTree.abort [] refl).runs)
whole (Commands d) = (end_brace ∷ [], 0 ∷ [], (a_block d Block.none refl (ran table)).runs)
whole (Act d) = (act_tokens ActTree.into, _, (act_runs d ActTree.into [] refl).runs)
whole (Part s) = let w = expr_fits.whole s in (w.0, w.1, run_within inner.table table Part holds w.0 (s ∷ []) [] w.1 w.2)
whole (Shaped s) = let w = shape_fits.whole s in (w.0, w.1, run_within shape.table table Shaped shape_holds w.0 (s ∷ []) [] w.1 w.2)
whole Name = (token.Word (95 ∷ []) ∷ [], 0 ∷ [], (a_name (95 ∷ []) a_word (ran table)).runs)
whole (Fixed s) = (sign_token s ∷ [], 0 ∷ [], (a_sign s (ran table)).runs)

txn_means : (d : ℕ) (ts : List Token) (l : List ℕ) → Runs table (Txn d ∷ []) ts l [] → (t : List CommandTree) × (txn_names t ≡ true) × (ts ≡ txn_tokens t)
txn_means d ts l r =
    let p = built table Means step ts (Txn d ∷ []) l r in
    (p.3.commands, p.3.right, p.2 ∙ ap (λ z. p.0 ++ z) p.4 ∙ append-nil p.0 ∙ p.3.spelled)

pub txn_fits : Fits table transactions Txn
txn_fits = record { runs = λ d t h. (txn_runs d t [] h).runs; means = txn_means; whole = whole }
