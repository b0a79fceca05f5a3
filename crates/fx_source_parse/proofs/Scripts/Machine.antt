-- The machine of commands and transactions.
use Rattle.std.proofs.Common.{◌≡◌, ℕ, suc, Bool, true, false, cond, ◌&&◌, Option, Some, None, List, [], ◌∷◌, ◌++◌, refl, sym, ap, ◌∙◌, subst, append_assoc}
use Rattle.std.proofs.lemmas.Bool.{and_parts}
use Rattle.fx_expr.specs.ExprTree.{ExprTree}
use Rattle.fx_expr.specs.ShapeTree.{ShapeTree}
use Rattle.fx_lex.specs.declared.token.Token.{Token}
use Rattle.fx_lex.specs.declared.token.Token.TheVariants as token
use Rattle.fx_lex.specs.declared.token.Mark.TheVariants as mark
use Rattle.fx_parse.specs.declared.keyword.Keyword.{Keyword}
use Rattle.fx_parse.specs.declared.keyword.Keyword.TheVariants as keyword
use Rattle.fx_parse.specs.declared.sign.Sign.{Sign}
use Rattle.fx_parse.specs.declared.sign.Sign.TheVariants as sign
use Rattle.fx_parse.specs.Keywords.{word}
use Rattle.fx_parse.specs.Grammars.{opening, closing, expr_tokens, expr_levels, shape_tokens, shape_levels, is_name, has_names}
use Rattle.fx_parse.specs.Signs.{sign_token, is_sign}
use Rattle.fx_parse.proofs.KeywordLaws.{keyword_again}
use Rattle.fx_parse.proofs.Machine.{Table, Runs, run_under}
use Rattle.fx_parse.proofs.ExprMachine as inner
use Rattle.fx_parse.proofs.ExprMachine.{Expr, expr_runs}
use Rattle.fx_parse.proofs.ShapeMachine as shape
use Rattle.fx_parse.proofs.ShapeMachine.{Shape, shape_runs}
use Rattle.fx_parse.proofs.Signs.{sign_again, names}
use Rattle.fx_parse.proofs.Steps.{Run, ran, takes, goes}
use Rattle.fx_parse.proofs.Tests.{passed}
use Rattle.fx_parse.proofs.Within.{lifted, Holds, run_within}
use Rattle.fx_spec.specs.CommandTree.{ActTree, CommandTree, Block, block}
use Rattle.fx_grammar.specs.Tokens.{act_tokens, command_tokens, block_tokens, txn_tokens, act_names, command_names, block_names, txn_names}
use Rattle.fx_grammar.specs.TokenLevels.{act_rest_levels, command_token_levels, block_token_levels, txn_token_levels}
use Rattle.fx_source_parse.specs.declared.script.start.Plain.TheVariants as plain
use Rattle.fx_source_parse.specs.declared.script.start.ActStart.{ActStart}
use Rattle.fx_source_parse.specs.declared.script.start.ActStart.TheVariants as act
use Rattle.fx_source_parse.specs.declared.script.start.Start.{Start}
use Rattle.fx_source_parse.specs.declared.script.start.Start.TheVariants as start
use Rattle.fx_source_parse.specs.Scripts.Reader.{keyword_start, word_start, start_of, act_start}

-- What may be still to come. Commands stands for commands up to the brace that closes them; Act for the act of a `try`.
pub data Sym : Type 0 where
  Txn : ℕ → Sym
  Command : ℕ → Sym
  Commands : ℕ → Sym
  Act : ℕ → Sym
  Part : inner.Sym → Sym
  Shaped : shape.Sym → Sym
  Name : Sym
  Fixed : Sign → Sym

-- behind the first token of an act, in a command of level d
abbrev pub act_stack : ℕ → ActStart → List Sym
act_stack d (act.Plain p) = []
act_stack d act.To = Fixed sign.LeftParen ∷ Part (Expr (suc d)) ∷ Fixed sign.RightParen ∷ []
act_stack d act.Store = Fixed sign.LeftParen ∷ Part (Expr (suc d)) ∷ Fixed sign.RightParen ∷ []

abbrev pub found_stack : ℕ → Option ActStart → Option (List Sym)
found_stack d None = None
found_stack d (Some a) = Some (act_stack d a)

abbrev pub start_stack : ℕ → Start → Option (List Sym)
start_stack d (start.Act a) = Some (act_stack d a)
start_stack d start.Try = Some (Name ∷ Act d ∷ [])
start_stack d start.Let = Some (Name ∷ Fixed sign.Equal ∷ Part (Expr (suc d)) ∷ [])
start_stack d start.Set = Some (Name ∷ Fixed sign.Equal ∷ Part (Expr (suc d)) ∷ [])
start_stack d start.Fetch = Some (Name ∷ Fixed sign.Colon ∷ Shaped (Shape (suc d)) ∷ [])
start_stack d start.Value = Some (Name ∷ Fixed sign.Colon ∷ Shaped (Shape (suc d)) ∷ [])
start_stack d start.Validate = Some (Name ∷ [])
start_stack d start.Print = Some (Fixed sign.LeftParen ∷ Part (Expr (suc d)) ∷ Fixed sign.RightParen ∷ [])
start_stack d start.If = Some (Fixed sign.LeftParen ∷ Part (Expr (suc d)) ∷ Fixed sign.RightParen ∷ Fixed sign.LeftBrace ∷ Commands (suc d) ∷ Fixed sign.Else ∷ Fixed sign.LeftBrace ∷ Commands (suc d) ∷ [])
start_stack d start.Each = Some (Name ∷ Fixed sign.In ∷ Fixed sign.LeftParen ∷ Part (Expr (suc d)) ∷ Fixed sign.RightParen ∷ Fixed sign.LeftBrace ∷ Commands (suc d) ∷ [])
start_stack d start.Abort = Some []
start_stack d start.Nothing = None

-- the closing brace, or a command and more of them
abbrev pub items_stack : ℕ → Bool → Option (List Sym) → Option (List Sym)
items_stack d true command = Some []
items_stack d false None = None
items_stack d false (Some more) = Some (more ++ Commands d ∷ [])

abbrev pub txn_stack : ℕ → Bool → Option (List Sym)
txn_stack d true = Some (Fixed sign.LeftBrace ∷ Commands (suc d) ∷ [])
txn_stack d false = None

abbrev pub expand : Sym → Token → Option (List Sym)
expand (Txn d) x = txn_stack d (is_sign sign.Txn x)
expand (Command d) x = start_stack d (start_of x)
expand (Commands d) x = items_stack d (is_sign sign.RightBrace x) (start_stack d (start_of x))
expand (Act d) x = found_stack d (act_start (start_of x))
expand (Part s) x = lifted Part (inner.table.expand s x)
expand (Shaped s) x = lifted Shaped (shape.table.expand s x)
expand Name x = passed (names x)
expand (Fixed s) x = passed (is_sign s x)

-- the brace begins no form
abbrev pub level : Sym → Token → ℕ
level (Txn d) x = d
level (Command d) x = d
level (Commands d) x = cond (is_sign sign.RightBrace x) 0 d
level (Act d) x = 0
level (Part s) x = inner.table.level s x
level (Shaped s) x = shape.table.level s x
level Name x = 0
level (Fixed s) x = 0

abbrev pub table : Table Sym
table = record { expand = expand; level = level }

pub holds : Holds inner.table table Part
holds = record { expands = λ s x. refl; levels = λ s x. refl }

pub shape_holds : Holds shape.table table Shaped
shape_holds = record { expands = λ s x. refl; levels = λ s x. refl }

pub start_word : (k : Keyword) → start_of (word k) ≡ keyword_start k
start_word k = ap word_start (keyword_again k)

-- the first token of an act, what it begins, and the others
abbrev pub act_word : ActTree → Keyword
act_word ActTree.into = keyword.Into
act_word (ActTree.to e) = keyword.To
act_word ActTree.next = keyword.Next
act_word ActTree.prev = keyword.Prev
act_word ActTree.out = keyword.Out
act_word ActTree.down = keyword.Down
act_word ActTree.up = keyword.Up
act_word ActTree.top = keyword.Top
act_word (ActTree.store e) = keyword.Store
act_word ActTree.create = keyword.Create
act_word ActTree.remove = keyword.Remove

abbrev pub act_of : ActTree → ActStart
act_of ActTree.into = act.Plain plain.Into
act_of (ActTree.to e) = act.To
act_of ActTree.next = act.Plain plain.Next
act_of ActTree.prev = act.Plain plain.Prev
act_of ActTree.out = act.Plain plain.Out
act_of ActTree.down = act.Plain plain.Down
act_of ActTree.up = act.Plain plain.Up
act_of ActTree.top = act.Plain plain.Top
act_of (ActTree.store e) = act.Store
act_of ActTree.create = act.Plain plain.Create
act_of ActTree.remove = act.Plain plain.Remove

abbrev pub act_rest : ActTree → List Token
act_rest (ActTree.to e) = opening ∷ (expr_tokens e ++ closing ∷ [])
act_rest (ActTree.store e) = opening ∷ (expr_tokens e ++ closing ∷ [])
act_rest _ = []

pub act_parts : (a : ActTree) → act_tokens a ≡ word (act_word a) ∷ act_rest a
act_parts ActTree.into = refl
act_parts (ActTree.to e) = refl
act_parts ActTree.next = refl
act_parts ActTree.prev = refl
act_parts ActTree.out = refl
act_parts ActTree.down = refl
act_parts ActTree.up = refl
act_parts ActTree.top = refl
act_parts (ActTree.store e) = refl
act_parts ActTree.create = refl
act_parts ActTree.remove = refl

act_keyword : (a : ActTree) → keyword_start (act_word a) ≡ start.Act (act_of a)
act_keyword ActTree.into = refl
act_keyword (ActTree.to e) = refl
act_keyword ActTree.next = refl
act_keyword ActTree.prev = refl
act_keyword ActTree.out = refl
act_keyword ActTree.down = refl
act_keyword ActTree.up = refl
act_keyword ActTree.top = refl
act_keyword (ActTree.store e) = refl
act_keyword ActTree.create = refl
act_keyword ActTree.remove = refl

pub act_starts : (a : ActTree) → start_of (word (act_word a)) ≡ start.Act (act_of a)
act_starts a = start_word (act_word a) ∙ act_keyword a

-- the tokens of the forms, part by part
abbrev pub brace : Token
brace = token.Mark mark.LeftBrace

abbrev pub end_brace : Token
end_brace = token.Mark mark.RightBrace

abbrev pub branch_list : ExprTree → Block → Block → List Token
branch_list e a b = word keyword.If ∷ opening ∷ (expr_tokens e ++ closing ∷ brace ∷ (block_tokens a ++ end_brace ∷ word keyword.Else ∷ brace ∷ (block_tokens b ++ end_brace ∷ [])))

pub branch_tokens : (e : ExprTree) (a b : Block) → command_tokens (CommandTree.branch e a b) ≡ branch_list e a b
branch_tokens e a b =
    let yes = block_tokens a ++ end_brace ∷ [] in
    let other = word keyword.Else ∷ brace ∷ (block_tokens b ++ end_brace ∷ []) in
    ap (λ l. word keyword.If ∷ opening ∷ l) (ap (λ l. l ++ other) (append_assoc (expr_tokens e) (closing ∷ []) (brace ∷ yes)) ∙ append_assoc (expr_tokens e) (closing ∷ brace ∷ yes) other ∙ ap (λ l. expr_tokens e ++ closing ∷ brace ∷ l) (append_assoc (block_tokens a) (end_brace ∷ []) other))

abbrev pub each_list : List ℕ → ExprTree → Block → List Token
each_list x e a = word keyword.Each ∷ token.Word x ∷ word keyword.In ∷ opening ∷ (expr_tokens e ++ closing ∷ brace ∷ (block_tokens a ++ end_brace ∷ []))

pub each_tokens : (x : List ℕ) (e : ExprTree) (a : Block) → command_tokens (CommandTree.each x e a) ≡ each_list x e a
each_tokens x e a =
    ap (λ l. word keyword.Each ∷ token.Word x ∷ word keyword.In ∷ opening ∷ l) (append_assoc (expr_tokens e) (closing ∷ []) (brace ∷ (block_tokens a ++ end_brace ∷ [])))

-- a sign, a name, an expression and a shape
pub a_sign : (s : Sign) {stack end : List Sym} {ts : List Token} {l : List ℕ} → Run table stack ts l end → Run table (Fixed s ∷ stack) (sign_token s ∷ ts) (0 ∷ l) end
a_sign s r = takes table (Fixed s) (sign_token s) [] (ap passed (sign_again s)) r

pub a_name : (x : List ℕ) {stack end : List Sym} {ts : List Token} {l : List ℕ} → is_name x ≡ true → Run table stack ts l end → Run table (Name ∷ stack) (token.Word x ∷ ts) (0 ∷ l) end
a_name x h r = takes table Name (token.Word x) [] (ap passed h) r

the_expr : (d : ℕ) (e : ExprTree) (stack : List Sym) → has_names e ≡ true → Run table (Part (Expr d) ∷ stack) (expr_tokens e) (expr_levels d e) stack
the_expr d e stack h =
    let alone = run_within inner.table table Part holds (expr_tokens e) (Expr d ∷ []) [] (expr_levels d e) (expr_runs d e [] h) in
    record { runs = run_under table (expr_tokens e) (Part (Expr d) ∷ []) [] stack (expr_levels d e) alone }

the_shape : (d : ℕ) (s : ShapeTree) (stack : List Sym) → Run table (Shaped (Shape d) ∷ stack) (shape_tokens s) (shape_levels d s) stack
the_shape d s stack =
    let alone = run_within shape.table table Shaped shape_holds (shape_tokens s) (Shape d ∷ []) [] (shape_levels d s) (shape_runs d s []) in
    record { runs = run_under table (shape_tokens s) (Shaped (Shape d) ∷ []) [] stack (shape_levels d s) alone }

-- `( expr )`, and what follows
a_bracket : (d : ℕ) (e : ExprTree) {stack end : List Sym} {ts : List Token} {l : List ℕ} → has_names e ≡ true → Run table stack ts l end → Run table (Fixed sign.LeftParen ∷ Part (Expr d) ∷ Fixed sign.RightParen ∷ stack) (opening ∷ (expr_tokens e ++ closing ∷ ts)) (0 ∷ (expr_levels d e ++ 0 ∷ l)) end
a_bracket d e {stack} h r =
    a_sign sign.LeftParen (goes table (the_expr d e (Fixed sign.RightParen ∷ stack) h) (a_sign sign.RightParen r))

-- an act behind its first token
rest_runs : (d : ℕ) (a : ActTree) (stack : List Sym) → act_names a ≡ true → Run table (act_stack d (act_of a) ++ stack) (act_rest a) (act_rest_levels d a) stack
rest_runs d (ActTree.to e) stack h = a_bracket (suc d) e h (ran table)
rest_runs d (ActTree.store e) stack h = a_bracket (suc d) e h (ran table)
rest_runs d ActTree.into stack h = ran table
rest_runs d ActTree.next stack h = ran table
rest_runs d ActTree.prev stack h = ran table
rest_runs d ActTree.out stack h = ran table
rest_runs d ActTree.down stack h = ran table
rest_runs d ActTree.up stack h = ran table
rest_runs d ActTree.top stack h = ran table
rest_runs d ActTree.create stack h = ran table
rest_runs d ActTree.remove stack h = ran table

-- the act of a `try`
pub act_runs : (d : ℕ) (a : ActTree) (stack : List Sym) → act_names a ≡ true → Run table (Act d ∷ stack) (act_tokens a) (0 ∷ act_rest_levels d a) stack
act_runs d a stack h =
    let P : List Token → Type 0 = λ ts. Run table (Act d ∷ stack) ts (0 ∷ act_rest_levels d a) stack in
    subst P (sym (act_parts a)) (takes table (Act d) (word (act_word a)) (act_stack d (act_of a)) (ap (λ s. found_stack d (act_start s)) (act_starts a)) (rest_runs d a stack h))

-- a token that begins a command closes no block
no_brace : (d : ℕ) (x : Token) (b : Bool) (more : List Sym) → is_sign sign.RightBrace x ≡ b → start_stack d (start_of x) ≡ Some more → b ≡ false
no_brace d x false more e f = refl
no_brace d (token.Mark m) true more e f = absurd cc
no_brace d (token.Word w) true more e f = absurd cc
no_brace d (token.Number n) true more e f = absurd cc
no_brace d (token.Str v) true more e f = absurd cc
no_brace d token.Def true more e f = absurd cc

-- a command at the front of commands
items_run : (d : ℕ) (stack : List Sym) (ts : List Token) (l : List ℕ) → Runs table (Command d ∷ Commands d ∷ stack) ts l (Commands d ∷ stack) → Runs table (Commands d ∷ stack) ts l (Commands d ∷ stack)
items_run d stack [] l r = let same : Commands d ∷ stack ≡ Command d ∷ Commands d ∷ stack = r.1 in absurd cc
items_run d stack (x ∷ ts) l r =
    let first = no_brace d x (is_sign sign.RightBrace x) r.0 refl r.2 in
    let P : List Sym → Type 0 = λ z. Runs table z ts r.1 (Commands d ∷ stack) in
    (r.0 ++ Commands d ∷ [], r.1, ap (λ b. items_stack d b (start_stack d (start_of x))) first ∙ ap (items_stack d false) r.2, r.3 ∙ ap (λ b. cond b 0 d ∷ r.1) (sym first), subst P (sym (append_assoc r.0 (Commands d ∷ []) stack)) r.4)

-- the machine runs over the tokens of each command and block
mutual
  pub command_runs : (d : ℕ) (c : CommandTree) (stack : List Sym) → command_names c ≡ true → Run table (Command d ∷ stack) (command_tokens c) (command_token_levels d c) stack
  command_runs d (CommandTree.act a) stack h =
      let P : List Token → Type 0 = λ ts. Run table (Command d ∷ stack) ts (d ∷ act_rest_levels d a) stack in
      subst P (sym (act_parts a)) (takes table (Command d) (word (act_word a)) (act_stack d (act_of a)) (ap (start_stack d) (act_starts a)) (rest_runs d a stack h))
  command_runs d (CommandTree.attempt x a) stack h =
      let hs = and_parts (is_name x) (act_names a) h in
      takes table (Command d) (word keyword.Try) (Name ∷ Act d ∷ []) (ap (start_stack d) (start_word keyword.Try)) (a_name x hs.0 (act_runs d a stack hs.1))
  command_runs d (CommandTree.bind x e) stack h =
      let hs = and_parts (is_name x) (has_names e) h in
      takes table (Command d) (word keyword.Let) (Name ∷ Fixed sign.Equal ∷ Part (Expr (suc d)) ∷ []) (ap (start_stack d) (start_word keyword.Let)) (a_name x hs.0 (a_sign sign.Equal (the_expr (suc d) e stack hs.1)))
  command_runs d (CommandTree.assign x e) stack h =
      let hs = and_parts (is_name x) (has_names e) h in
      takes table (Command d) (word keyword.Set) (Name ∷ Fixed sign.Equal ∷ Part (Expr (suc d)) ∷ []) (ap (start_stack d) (start_word keyword.Set)) (a_name x hs.0 (a_sign sign.Equal (the_expr (suc d) e stack hs.1)))
  command_runs d (CommandTree.fetch x s) stack h =
      takes table (Command d) (word keyword.Fetch) (Name ∷ Fixed sign.Colon ∷ Shaped (Shape (suc d)) ∷ []) (ap (start_stack d) (start_word keyword.Fetch)) (a_name x h (a_sign sign.Colon (the_shape (suc d) s stack)))
  command_runs d (CommandTree.whole x s) stack h =
      takes table (Command d) (word keyword.Value) (Name ∷ Fixed sign.Colon ∷ Shaped (Shape (suc d)) ∷ []) (ap (start_stack d) (start_word keyword.Value)) (a_name x h (a_sign sign.Colon (the_shape (suc d) s stack)))
  command_runs d (CommandTree.validate x) stack h =
      takes table (Command d) (word keyword.Validate) (Name ∷ []) (ap (start_stack d) (start_word keyword.Validate)) (a_name x h (ran table))
  command_runs d (CommandTree.print e) stack h =
      takes table (Command d) (word keyword.Print) (Fixed sign.LeftParen ∷ Part (Expr (suc d)) ∷ Fixed sign.RightParen ∷ []) (ap (start_stack d) (start_word keyword.Print)) (a_bracket (suc d) e h (ran table))
  command_runs d (CommandTree.branch e a b) stack h =
      let hs = and_parts (has_names e) (block_names a && block_names b) h in
      let is = and_parts (block_names a) (block_names b) hs.1 in
      let P : List Token → Type 0 = λ ts. Run table (Command d ∷ stack) ts (command_token_levels d (CommandTree.branch e a b)) stack in
      subst P (sym (branch_tokens e a b)) (takes table (Command d) (word keyword.If) (Fixed sign.LeftParen ∷ Part (Expr (suc d)) ∷ Fixed sign.RightParen ∷ Fixed sign.LeftBrace ∷ Commands (suc d) ∷ Fixed sign.Else ∷ Fixed sign.LeftBrace ∷ Commands (suc d) ∷ []) (ap (start_stack d) (start_word keyword.If)) (a_bracket (suc d) e hs.0 (a_sign sign.LeftBrace (a_block (suc d) a is.0 (a_sign sign.Else (a_sign sign.LeftBrace (a_block (suc d) b is.1 (ran table))))))))
  command_runs d (CommandTree.each x e a) stack h =
      let hs = and_parts (is_name x) (has_names e && block_names a) h in
      let is = and_parts (has_names e) (block_names a) hs.1 in
      let P : List Token → Type 0 = λ ts. Run table (Command d ∷ stack) ts (command_token_levels d (CommandTree.each x e a)) stack in
      subst P (sym (each_tokens x e a)) (takes table (Command d) (word keyword.Each) (Name ∷ Fixed sign.In ∷ Fixed sign.LeftParen ∷ Part (Expr (suc d)) ∷ Fixed sign.RightParen ∷ Fixed sign.LeftBrace ∷ Commands (suc d) ∷ []) (ap (start_stack d) (start_word keyword.Each)) (a_name x hs.0 (a_sign sign.In (a_bracket (suc d) e is.0 (a_sign sign.LeftBrace (a_block (suc d) a is.1 (ran table)))))))
  command_runs d CommandTree.abort stack h = takes table (Command d) (word keyword.Abort) [] (ap (start_stack d) (start_word keyword.Abort)) (ran table)

  pub a_block : (d : ℕ) (b : Block) {stack end : List Sym} {ts : List Token} {l : List ℕ} → block_names b ≡ true → Run table stack ts l end → Run table (Commands d ∷ stack) (block_tokens b ++ end_brace ∷ ts) (block_token_levels d b ++ 0 ∷ l) end
  a_block d Block.none h r = takes table (Commands d) end_brace [] refl r
  a_block d (Block.then c cs) {stack} {end} {ts} {l} h r =
      let hs = and_parts (command_names c) (block_names cs) h in
      let one = command_runs d c (Commands d ∷ stack) hs.0 in
      let first : Run table (Commands d ∷ stack) (command_tokens c) (command_token_levels d c) (Commands d ∷ stack) = record { runs = items_run d stack (command_tokens c) (command_token_levels d c) one.runs } in
      let all = goes table first (a_block d cs hs.1 r) in
      let P : List Token → Type 0 = λ z. Run table (Commands d ∷ stack) z (command_token_levels d c ++ (block_token_levels d cs ++ 0 ∷ l)) end in
      let Q : List ℕ → Type 0 = λ z. Run table (Commands d ∷ stack) ((command_tokens c ++ block_tokens cs) ++ end_brace ∷ ts) z end in
      subst Q (sym (append_assoc (command_token_levels d c) (block_token_levels d cs) (0 ∷ l))) (subst P (sym (append_assoc (command_tokens c) (block_tokens cs) (end_brace ∷ ts))) all)

pub a_txn_word : is_sign sign.Txn (word keyword.Txn) ≡ true
a_txn_word = refl

pub txn_runs : (d : ℕ) (t : List CommandTree) (stack : List Sym) → txn_names t ≡ true → Run table (Txn d ∷ stack) (txn_tokens t) (txn_token_levels d t) stack
txn_runs d t stack h =
    takes table (Txn d) (word keyword.Txn) (Fixed sign.LeftBrace ∷ Commands (suc d) ∷ []) (ap (txn_stack d) a_txn_word) (a_sign sign.LeftBrace (a_block (suc d) (block t) h (ran table)))
