-- Reading commands and transactions goes as their machine does.
use Rattle.std.proofs.Common.{◌≡◌, ℕ, zero, suc, ◌-◌, ◌+◌, ◌≤◌, ◌<◌, Bool, true, false, ltb, cond, Option, Some, None, Result, Ok, Err, List, [], ◌∷◌, ◌++◌, length, refl, ap, ◌∙◌, subst, arith, append_assoc, length-append}
use Rattle.std.proofs.lemmas.Bool.{lt-ltb, le-ltb}
use Rattle.fx_expr.specs.ExprTree.{ExprTree}
use Rattle.fx_expr.specs.ShapeTree.{ShapeTree}
use Rattle.fx_lex.specs.declared.token.Token.{Token}
use Rattle.fx_lex.specs.declared.token.Token.TheVariants as token
use Rattle.fx_parse.specs.declared.sign.Sign.{Sign}
use Rattle.fx_parse.specs.declared.sign.Sign.TheVariants as sign
use Rattle.fx_parse.specs.Stuck.{Stuck, Unexpected, TooNested, ◌>>=◌}
use Rattle.fx_parse.specs.Grammars.{is_name}
use Rattle.fx_parse.specs.Reader.{expect, read_expr}
use Rattle.fx_parse.specs.ShapeReader.{read_shape}
use Rattle.fx_parse.specs.Signs.{is_sign, name_at, closed_by}
use Rattle.fx_parse.proofs.Machine.{scan, scan_from, scan_says, Outcome, Empties, Runs}
use Rattle.fx_parse.proofs.ExprMachine as inner
use Rattle.fx_parse.proofs.ExprMachine.{Expr}
use Rattle.fx_parse.proofs.ExprLink.{expr_follows}
use Rattle.fx_parse.proofs.ShapeMachine as shape
use Rattle.fx_parse.proofs.ShapeMachine.{Shape}
use Rattle.fx_parse.proofs.ShapeLink.{shape_reader}
use Rattle.fx_parse.proofs.Steps.{on, on_ok}
use Rattle.fx_parse.proofs.Tests.{IsTest, scan_test, from_named}
use Rattle.fx_parse.proofs.Within.{goes_within}
use Rattle.fx_spec.specs.CommandTree.{CommandTree}
use Rattle.fx_source_parse.specs.declared.script.start.ActStart.{ActStart}
use Rattle.fx_source_parse.specs.declared.script.start.ActStart.TheVariants as act
use Rattle.fx_source_parse.specs.declared.script.start.Start.{Start}
use Rattle.fx_source_parse.specs.declared.script.start.Start.TheVariants as start
use Rattle.fx_source_parse.specs.Scripts.Reader.{start_of, act_start, is_nothing, bracketed_at, valued_at, typed_at, to_at, store_at, act_form_at, act_found, act_at, do_at, try_at, let_at, set_at, fetch_at, value_at, validate_at, print_at, added_at, closed, ended_or, items_at, many_at, braced_at, branch_at, each_at, form_at, too_nested, read_command, read_txn}
use Rattle.fx_source_parse.proofs.Scripts.Machine.{Sym, Txn, Command, Commands, Act, Part, Shaped, Name, Fixed, act_stack, found_stack, start_stack, items_stack, txn_stack, table, holds, shape_holds}
use Rattle.fx_source_parse.specs.Reading.{Read}

abbrev pub go : List Sym → List Token → Result (List Token) Stuck
go stack ts = scan table stack ts

signs : (s : Sign) → IsTest table (Fixed s) (is_sign s)
signs s = record { expands = λ x. refl; low = λ x. refl }

scan_name : (stack : List Sym) (ts : List Token) → go (Name ∷ stack) ts ≡ (name_at ts >>= (λ r. go stack r.1))
scan_name stack [] = refl
scan_name stack (token.Word w ∷ ts) = from_named table (is_name w) w stack ts
scan_name stack (token.Number n ∷ ts) = refl
scan_name stack (token.Str v ∷ ts) = refl
scan_name stack (token.Mark m ∷ ts) = refl
scan_name stack (token.Def ∷ ts) = refl

-- what readers do, the machine does from their starts at a level
abbrev pub GoesAs : ℕ → Read CommandTree → Type 0
GoesAs d read = (stack : List Sym) (ts : List Token) → go (Command d ∷ stack) ts ≡ (read ts >>= (λ r. go stack r.1))

abbrev ExprGoesAs : ℕ → Read ExprTree → Type 0
ExprGoesAs d read = (stack : List Sym) (ts : List Token) → go (Part (Expr d) ∷ stack) ts ≡ (read ts >>= (λ r. go stack r.1))

abbrev ShapeGoesAs : ℕ → Read ShapeTree → Type 0
ShapeGoesAs d read = (stack : List Sym) (ts : List Token) → go (Shaped (Shape d) ∷ stack) ts ≡ (read ts >>= (λ r. go stack r.1))

expr_goes : (left d : ℕ) → left ≡ 65 - d → ExprGoesAs d (read_expr left)
expr_goes left d e stack ts = goes_within inner.table table Part holds (read_expr left) (Expr d) (λ ts. expr_follows left d e [] ts) stack ts

shape_goes : (left d : ℕ) → left ≡ 65 - d → ShapeGoesAs d (read_shape left)
shape_goes left d e stack ts = goes_within shape.table table Shaped shape_holds (read_shape left) (Shape d) (λ ts. shape_reader.follows left d e [] ts) stack ts

-- what a command leaves is shorter
shorter : (d : ℕ) (ts rest : List Token) → Empties table (Command d ∷ []) ts rest → length rest < length ts
shorter d ts rest o = at o.front o.levels o.runs o.parts
  where
    at : (front : List Token) (levels : List ℕ) → Runs table (Command d ∷ []) front levels [] → ts ≡ front ++ rest → length rest < length ts
    at [] levels r e = let no : [] ≡ Command d ∷ [] = r.1 in absurd cc
    at (x ∷ front) levels r e =
        let size : length ts ≡ suc (length front + length rest) = ap length e ∙ ap suc (length-append front rest) in
        omega (arith, size)

pub command_shrinks : (d : ℕ) (read : Read CommandTree) → GoesAs d read → (ts : List Token) (c : CommandTree × List Token) → read ts ≡ Ok c → length c.1 < length ts
command_shrinks d read goes ts c e =
    let given : go (Command d ∷ []) ts ≡ Ok c.1 = goes [] ts ∙ ap (λ r. r >>= (λ r. go [] r.1)) e in
    shorter d ts c.1 (subst (λ r. Outcome table (Command d ∷ []) ts r) given (scan_says table ts (Command d ∷ [])))

-- commands, where no brace closes them
not_closed : (d : ℕ) (stack : List Sym) (ts : List Token) (n : ℕ) (deep : Bool) (o : Option (List Sym)) → scan_from table (items_stack d false o) deep n (λ more. go (more ++ stack) ts) ≡ scan_from table o deep n (λ more. go (more ++ Commands d ∷ stack) ts)
not_closed d stack ts n deep None = refl
not_closed d stack ts n true (Some more) = refl
not_closed d stack ts n false (Some more) = ap (λ z. go z ts) (append_assoc more (Commands d ∷ []) stack)

items_open : (d : ℕ) (stack : List Sym) (x : Token) (ts : List Token) → is_sign sign.RightBrace x ≡ false → go (Commands d ∷ stack) (x ∷ ts) ≡ go (Command d ∷ Commands d ∷ stack) (x ∷ ts)
items_open d stack x ts e =
    ap (λ b. scan_from table (items_stack d b (start_stack d (start_of x))) (ltb 64 (cond b 0 d)) (suc (length ts)) (λ more. go (more ++ stack) ts)) e ∙ not_closed d stack ts (suc (length ts)) (ltb 64 d) (start_stack d (start_of x))

items_closed : (d : ℕ) (stack : List Sym) (x : Token) (ts : List Token) → is_sign sign.RightBrace x ≡ true → go (Commands d ∷ stack) (x ∷ ts) ≡ go stack ts
items_closed d stack x ts e =
    ap (λ b. scan_from table (items_stack d b (start_stack d (start_of x))) (ltb 64 (cond b 0 d)) (suc (length ts)) (λ more. go (more ++ stack) ts)) e

closes : (d : ℕ) (stack : List Sym) (x : Token) (ts rest : List Token) (b : Bool) → is_sign sign.RightBrace x ≡ b → closed_by b ts ≡ Some rest → go (Commands d ∷ stack) (x ∷ ts) ≡ go stack rest
closes d stack x ts rest true h e =
    let same : ts ≡ rest = cc in
    items_closed d stack x ts h ∙ ap (go stack) same
closes d stack x ts rest false h e = absurd cc

scan_closed : (d : ℕ) (stack : List Sym) (ts rest : List Token) → closed ts ≡ Some rest → go (Commands d ∷ stack) ts ≡ go stack rest
scan_closed d stack [] rest e = absurd cc
scan_closed d stack (x ∷ ts) rest e = closes d stack x ts rest (is_sign sign.RightBrace x) refl e

opens_on : (d : ℕ) (stack : List Sym) (x : Token) (ts : List Token) (b : Bool) → is_sign sign.RightBrace x ≡ b → closed_by b ts ≡ None → go (Commands d ∷ stack) (x ∷ ts) ≡ go (Command d ∷ Commands d ∷ stack) (x ∷ ts)
opens_on d stack x ts true h e = absurd cc
opens_on d stack x ts false h e = items_open d stack x ts h

scan_open : (d : ℕ) (stack : List Sym) (ts : List Token) → closed ts ≡ None → go (Commands d ∷ stack) ts ≡ go (Command d ∷ Commands d ∷ stack) ts
scan_open d stack [] e = refl
scan_open d stack (x ∷ ts) e = opens_on d stack x ts (is_sign sign.RightBrace x) refl e

module _ (d : ℕ) (command : Read CommandTree) (goes : GoesAs d command) where
  scan_added : (stack : List Sym) (done : List CommandTree) (ts : List Token) → go (Command d ∷ stack) ts ≡ (added_at command done ts >>= (λ c. go stack c.1))
  unfolding added_at
  scan_added stack done ts = on (command ts) _ _ _ (goes stack ts) (λ c. refl)

  added_shrinks : (done : List CommandTree) (ts : List Token) (c : List CommandTree × List Token) → added_at command done ts ≡ Ok c → length c.1 < length ts
  unfolding added_at
  added_shrinks done ts c e = at (command ts) refl e
    where
      at : (r : Result (CommandTree × List Token) Stuck) → command ts ≡ r → (r >>= (λ c. Ok (done ++ c.0 ∷ [], c.1))) ≡ Ok c → length c.1 < length ts
      at (Ok a) f g =
          let pair : ◌≡◌ {A = List CommandTree × List Token} (done ++ a.0 ∷ [], a.1) c = cc in
          let same : a.1 ≡ c.1 = ap (λ p. p.1) pair in
          subst (λ l. length l < length ts) same (command_shrinks d command goes ts a f)
      at (Err k) f g = absurd cc

  scan_next : (n : ℕ) (stack : List Sym) (done : List CommandTree) (ts : List Token) → length ts ≤ suc n → ((c : List CommandTree × List Token) → length c.1 ≤ n → go (Commands d ∷ stack) c.1 ≡ (items_at command n c.0 c.1 >>= (λ r. go stack r.1))) → (o : Option (List Token)) → closed ts ≡ o → go (Commands d ∷ stack) ts ≡ (ended_or o done (added_at command done ts >>= (λ c. items_at command n c.0 c.1)) >>= (λ r. go stack r.1))
  scan_next n stack done ts few next (Some rest) e = scan_closed d stack ts rest e
  scan_next n stack done ts few next None e =
      scan_open d stack ts e ∙ on_ok (added_at command done ts) (λ c. go (Commands d ∷ stack) c.1) (λ c. items_at command n c.0 c.1) (λ r. go stack r.1) (scan_added (Commands d ∷ stack) done ts) (λ c f.
      let less = added_shrinks done ts c f in
      next c (omega (arith, less, few)))

  -- commands, so many tokens of which are enough
  scan_items : (n : ℕ) (stack : List Sym) (done : List CommandTree) (ts : List Token) → length ts ≤ n → go (Commands d ∷ stack) ts ≡ (items_at command n done ts >>= (λ r. go stack r.1))
  unfolding items_at
  scan_items zero stack done [] few = refl
  scan_items zero stack done (x ∷ ts) few = absurd (omega (arith, few))
  scan_items (suc n) stack done ts few = scan_next n stack done ts few (λ c less. scan_items n stack c.0 c.1 less) (closed ts) refl

  scan_many : (stack : List Sym) (ts : List Token) → go (Commands d ∷ stack) ts ≡ (many_at command ts >>= (λ r. go stack r.1))
  unfolding many_at
  scan_many stack ts = scan_items (length ts) stack [] ts (omega arith)

  scan_braced : (stack : List Sym) (ts : List Token) → go (Fixed sign.LeftBrace ∷ Commands d ∷ stack) ts ≡ (braced_at command ts >>= (λ r. go stack r.1))
  unfolding braced_at
  scan_braced stack ts =
      on (expect (is_sign sign.LeftBrace) ts) _ _ _ (scan_test table (signs sign.LeftBrace) _ ts) (λ inside. scan_many stack inside)

-- the parts of a command of level d
module _ (d : ℕ) (expr : Read ExprTree) (expr_as : ExprGoesAs (suc d) expr) where
  scan_bracket : (stack : List Sym) (ts : List Token) → go (Fixed sign.LeftParen ∷ Part (Expr (suc d)) ∷ Fixed sign.RightParen ∷ stack) ts ≡ (bracketed_at expr ts >>= (λ r. go stack r.1))
  unfolding bracketed_at
  scan_bracket stack ts =
      on (expect (is_sign sign.LeftParen) ts) _ _ _ (scan_test table (signs sign.LeftParen) _ ts) (λ inside.
      on (expr inside) _ _ _ (expr_as _ inside) (λ e.
      on (expect (is_sign sign.RightParen) e.1) _ _ _ (scan_test table (signs sign.RightParen) stack e.1) (λ rest. refl)))

  scan_valued : (stack : List Sym) (ts : List Token) → go (Name ∷ Fixed sign.Equal ∷ Part (Expr (suc d)) ∷ stack) ts ≡ (valued_at expr ts >>= (λ r. go stack r.2))
  unfolding valued_at
  scan_valued stack ts =
      on (name_at ts) _ _ _ (scan_name _ ts) (λ x.
      on (expect (is_sign sign.Equal) x.1) _ _ _ (scan_test table (signs sign.Equal) _ x.1) (λ value.
      on (expr value) _ _ _ (expr_as _ value) (λ e. refl)))

  scan_act_form : (a : ActStart) (stack : List Sym) (ts : List Token) → go (act_stack d a ++ stack) ts ≡ (act_form_at expr a ts >>= (λ r. go stack r.1))
  unfolding act_form_at to_at store_at
  scan_act_form (act.Plain p) stack ts = refl
  scan_act_form act.To stack ts = on (bracketed_at expr ts) _ _ _ (scan_bracket stack ts) (λ e. refl)
  scan_act_form act.Store stack ts = on (bracketed_at expr ts) _ _ _ (scan_bracket stack ts) (λ e. refl)

  scan_found : (o : Option ActStart) (stack : List Sym) (x : Token) (ts : List Token) → scan_from table (found_stack d o) false (suc (length ts)) (λ more. go (more ++ stack) ts) ≡ (act_found expr o x ts >>= (λ r. go stack r.1))
  scan_found None stack x ts = refl
  scan_found (Some a) stack x ts = scan_act_form a stack ts

  scan_act : (stack : List Sym) (ts : List Token) → go (Act d ∷ stack) ts ≡ (act_at expr ts >>= (λ r. go stack r.1))
  scan_act stack [] = refl
  scan_act stack (x ∷ ts) = scan_found (act_start (start_of x)) stack x ts

  scan_do : (a : ActStart) (stack : List Sym) (ts : List Token) → go (act_stack d a ++ stack) ts ≡ (do_at expr a ts >>= (λ r. go stack r.1))
  unfolding do_at
  scan_do a stack ts = on (act_form_at expr a ts) _ _ _ (scan_act_form a stack ts) (λ r. refl)

  scan_try : (stack : List Sym) (ts : List Token) → go (Name ∷ Act d ∷ stack) ts ≡ (try_at expr ts >>= (λ r. go stack r.1))
  unfolding try_at
  scan_try stack ts =
      on (name_at ts) _ _ _ (scan_name _ ts) (λ x.
      on (act_at expr x.1) _ _ _ (scan_act stack x.1) (λ a. refl))

  scan_let : (stack : List Sym) (ts : List Token) → go (Name ∷ Fixed sign.Equal ∷ Part (Expr (suc d)) ∷ stack) ts ≡ (let_at expr ts >>= (λ r. go stack r.1))
  unfolding let_at
  scan_let stack ts = on (valued_at expr ts) _ _ _ (scan_valued stack ts) (λ r. refl)

  scan_set : (stack : List Sym) (ts : List Token) → go (Name ∷ Fixed sign.Equal ∷ Part (Expr (suc d)) ∷ stack) ts ≡ (set_at expr ts >>= (λ r. go stack r.1))
  unfolding set_at
  scan_set stack ts = on (valued_at expr ts) _ _ _ (scan_valued stack ts) (λ r. refl)

  scan_print : (stack : List Sym) (ts : List Token) → go (Fixed sign.LeftParen ∷ Part (Expr (suc d)) ∷ Fixed sign.RightParen ∷ stack) ts ≡ (print_at expr ts >>= (λ r. go stack r.1))
  unfolding print_at
  scan_print stack ts = on (bracketed_at expr ts) _ _ _ (scan_bracket stack ts) (λ e. refl)

  scan_branch : (command : Read CommandTree) (goes : GoesAs (suc d) command) (stack : List Sym) (ts : List Token) → go (Fixed sign.LeftParen ∷ Part (Expr (suc d)) ∷ Fixed sign.RightParen ∷ Fixed sign.LeftBrace ∷ Commands (suc d) ∷ Fixed sign.Else ∷ Fixed sign.LeftBrace ∷ Commands (suc d) ∷ stack) ts ≡ (branch_at expr command ts >>= (λ r. go stack r.1))
  unfolding branch_at
  scan_branch command goes stack ts =
      on (bracketed_at expr ts) _ _ _ (scan_bracket _ ts) (λ e.
      on (braced_at command e.1) _ _ _ (scan_braced (suc d) command goes _ e.1) (λ a.
      on (expect (is_sign sign.Else) a.1) _ _ _ (scan_test table (signs sign.Else) _ a.1) (λ second.
      on (braced_at command second) _ _ _ (scan_braced (suc d) command goes stack second) (λ b. refl))))

  scan_each : (command : Read CommandTree) (goes : GoesAs (suc d) command) (stack : List Sym) (ts : List Token) → go (Name ∷ Fixed sign.In ∷ Fixed sign.LeftParen ∷ Part (Expr (suc d)) ∷ Fixed sign.RightParen ∷ Fixed sign.LeftBrace ∷ Commands (suc d) ∷ stack) ts ≡ (each_at expr command ts >>= (λ r. go stack r.1))
  unfolding each_at
  scan_each command goes stack ts =
      on (name_at ts) _ _ _ (scan_name _ ts) (λ x.
      on (expect (is_sign sign.In) x.1) _ _ _ (scan_test table (signs sign.In) _ x.1) (λ set.
      on (bracketed_at expr set) _ _ _ (scan_bracket _ set) (λ e.
      on (braced_at command e.1) _ _ _ (scan_braced (suc d) command goes stack e.1) (λ a. refl))))

module _ (d : ℕ) (shape : Read ShapeTree) (shape_as : ShapeGoesAs (suc d) shape) where
  scan_typed : (stack : List Sym) (ts : List Token) → go (Name ∷ Fixed sign.Colon ∷ Shaped (Shape (suc d)) ∷ stack) ts ≡ (typed_at shape ts >>= (λ r. go stack r.2))
  unfolding typed_at
  scan_typed stack ts =
      on (name_at ts) _ _ _ (scan_name _ ts) (λ x.
      on (expect (is_sign sign.Colon) x.1) _ _ _ (scan_test table (signs sign.Colon) _ x.1) (λ typed.
      on (shape typed) _ _ _ (shape_as _ typed) (λ s. refl)))

  scan_fetch : (stack : List Sym) (ts : List Token) → go (Name ∷ Fixed sign.Colon ∷ Shaped (Shape (suc d)) ∷ stack) ts ≡ (fetch_at shape ts >>= (λ r. go stack r.1))
  unfolding fetch_at
  scan_fetch stack ts = on (typed_at shape ts) _ _ _ (scan_typed stack ts) (λ r. refl)

  scan_value : (stack : List Sym) (ts : List Token) → go (Name ∷ Fixed sign.Colon ∷ Shaped (Shape (suc d)) ∷ stack) ts ≡ (value_at shape ts >>= (λ r. go stack r.1))
  unfolding value_at
  scan_value stack ts = on (typed_at shape ts) _ _ _ (scan_typed stack ts) (λ r. refl)

scan_validate : (stack : List Sym) (ts : List Token) → go (Name ∷ stack) ts ≡ (validate_at ts >>= (λ r. go stack r.1))
unfolding validate_at
scan_validate stack ts = on (name_at ts) _ _ _ (scan_name stack ts) (λ x. refl)

-- one level
module _ (d : ℕ) (expr : Read ExprTree) (expr_as : ExprGoesAs (suc d) expr) (shape : Read ShapeTree) (shape_as : ShapeGoesAs (suc d) shape) (command : Read CommandTree) (goes : GoesAs (suc d) command) where
  form_from : (stack : List Sym) (ts : List Token) (h : Start) → scan_from table (start_stack d h) false (suc (length ts)) (λ more. go (more ++ stack) ts) ≡ (cond (is_nothing h) (Err (Unexpected (suc (length ts)))) (form_at expr shape command h ts) >>= (λ r. go stack r.1))
  unfolding form_at
  form_from stack ts (start.Act a) = scan_do d expr expr_as a stack ts
  form_from stack ts start.Try = scan_try d expr expr_as stack ts
  form_from stack ts start.Let = scan_let d expr expr_as stack ts
  form_from stack ts start.Set = scan_set d expr expr_as stack ts
  form_from stack ts start.Fetch = scan_fetch d shape shape_as stack ts
  form_from stack ts start.Value = scan_value d shape shape_as stack ts
  form_from stack ts start.Validate = scan_validate stack ts
  form_from stack ts start.Print = scan_print d expr expr_as stack ts
  form_from stack ts start.If = scan_branch d expr expr_as command goes stack ts
  form_from stack ts start.Each = scan_each d expr expr_as command goes stack ts
  form_from stack ts start.Abort = refl
  form_from stack ts start.Nothing = refl

-- no level is left
deep_from : (d : ℕ) (stack : List Sym) (x : Token) (ts : List Token) (h : Start) → scan_from table (start_stack d h) true (suc (length ts)) (λ more. go (more ++ stack) ts) ≡ (too_nested h (x ∷ ts) >>= (λ r. go stack r.1))
deep_from d stack x ts (start.Act a) = refl
deep_from d stack x ts start.Try = refl
deep_from d stack x ts start.Let = refl
deep_from d stack x ts start.Set = refl
deep_from d stack x ts start.Fetch = refl
deep_from d stack x ts start.Value = refl
deep_from d stack x ts start.Validate = refl
deep_from d stack x ts start.Print = refl
deep_from d stack x ts start.If = refl
deep_from d stack x ts start.Each = refl
deep_from d stack x ts start.Abort = refl
deep_from d stack x ts start.Nothing = refl

pub command_follows : (left d : ℕ) → left ≡ 65 - d → GoesAs d (read_command left)
unfolding read_command
command_follows zero d e stack [] = refl
command_follows zero d e stack (x ∷ ts) =
    ap (λ b. scan_from table (start_stack d (start_of x)) b (suc (length ts)) (λ more. go (more ++ stack) ts)) (lt-ltb 64 d (omega (arith, e))) ∙ deep_from d stack x ts (start_of x)
command_follows (suc n) d e stack [] = refl
command_follows (suc n) d e stack (x ∷ ts) =
    let next : n ≡ 65 - suc d = omega (arith, e) in
    ap (λ b. scan_from table (start_stack d (start_of x)) b (suc (length ts)) (λ more. go (more ++ stack) ts)) (le-ltb 64 d (omega (arith, e))) ∙ form_from d (read_expr n) (expr_goes n (suc d) next) (read_shape n) (shape_goes n (suc d) next) (read_command n) (command_follows n (suc d) next) stack ts (start_of x)

txn_deep : (d : ℕ) (stack : List Sym) (ts : List Token) (b : Bool) (n : ℕ) → scan_from table (txn_stack d b) true n (λ more. go (more ++ stack) ts) ≡ ((cond b (Ok ts) (Err (Unexpected n)) >>= (λ rest. let r : Result (List CommandTree × List Token) Stuck = Err (TooNested n) in r)) >>= (λ r. go stack r.1))
txn_deep d stack ts true n = refl
txn_deep d stack ts false n = refl

txn_from : (d : ℕ) (command : Read CommandTree) (goes : GoesAs (suc d) command) (stack : List Sym) (ts : List Token) (b : Bool) (n : ℕ) → scan_from table (txn_stack d b) false n (λ more. go (more ++ stack) ts) ≡ ((cond b (Ok ts) (Err (Unexpected n)) >>= (λ rest. braced_at command rest)) >>= (λ r. go stack r.1))
txn_from d command goes stack ts true n = scan_braced (suc d) command goes stack ts
txn_from d command goes stack ts false n = refl

pub txn_follows : (left d : ℕ) → left ≡ 65 - d → (stack : List Sym) (ts : List Token) → go (Txn d ∷ stack) ts ≡ (read_txn left ts >>= (λ r. go stack r.1))
unfolding read_txn
txn_follows zero d e stack [] = refl
txn_follows zero d e stack (x ∷ ts) =
    ap (λ b. scan_from table (txn_stack d (is_sign sign.Txn x)) b (suc (length ts)) (λ more. go (more ++ stack) ts)) (lt-ltb 64 d (omega (arith, e))) ∙ txn_deep d stack ts (is_sign sign.Txn x) (suc (length ts))
txn_follows (suc n) d e stack [] = refl
txn_follows (suc n) d e stack (x ∷ ts) =
    let next : n ≡ 65 - suc d = omega (arith, e) in
    ap (λ b. scan_from table (txn_stack d (is_sign sign.Txn x)) b (suc (length ts)) (λ more. go (more ++ stack) ts)) (le-ltb 64 d (omega (arith, e))) ∙ txn_from d (read_command n) (command_follows n (suc d) next) stack ts (is_sign sign.Txn x) (suc (length ts))
