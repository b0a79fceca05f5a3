-- Reading a description and its definitions goes as their machine does.
use Rattle.std.proofs.Common.{◌≡◌, ℕ, zero, suc, ◌-◌, ◌+◌, ◌≤◌, ◌<◌, Bool, true, false, ltb, cond, Option, Some, None, Result, Ok, Err, List, [], ◌∷◌, ◌++◌, length, refl, sym, ap, ◌∙◌, subst, arith, length-append}
use Rattle.std.proofs.lemmas.Bool.{lt-ltb, le-ltb}
use Rattle.fx_expr.specs.ShapeTree.{ShapeTree}
use Rattle.fx_lex.specs.declared.token.Token.{Token}
use Rattle.fx_lex.specs.declared.token.Token.TheVariants as token
use Rattle.fx_parse.specs.declared.sign.Sign.{Sign}
use Rattle.fx_parse.specs.declared.sign.Sign.TheVariants as sign
use Rattle.fx_parse.specs.Stuck.{Stuck, Unexpected, TooNested, ◌>>=◌}
use Rattle.fx_parse.specs.Grammars.{is_name}
use Rattle.fx_parse.specs.Reader.{expect, ReadExpr, read_expr}
use Rattle.fx_parse.specs.ShapeReader.{read_shape}
use Rattle.fx_parse.specs.Signs.{is_sign, name_at, closed_by}
use Rattle.fx_parse.proofs.Machine.{scan, scan_from, scan_says, Outcome, Empties, Runs}
use Rattle.fx_parse.proofs.ExprMachine as inner
use Rattle.fx_parse.proofs.ExprMachine.{Expr}
use Rattle.fx_parse.proofs.ExprLink.{expr_follows, then_then}
use Rattle.fx_parse.proofs.ShapeMachine as shape
use Rattle.fx_parse.proofs.ShapeMachine.{Shape}
use Rattle.fx_parse.proofs.ShapeLink.{shape_reader}
use Rattle.fx_parse.proofs.Steps.{on, on_ok}
use Rattle.fx_parse.proofs.Tests.{passed, IsTest, scan_test, from_named}
use Rattle.fx_parse.proofs.Within.{goes_within}
use Rattle.fx_spec.specs.Written.{DefTree, TextTree}
use Rattle.fx_source_parse.specs.declared.spec.start.Start.{Start}
use Rattle.fx_source_parse.specs.declared.spec.start.Start.TheVariants as start
use Rattle.fx_source_parse.specs.Descriptions.Lists.{closed, ended_or, added_at, another_at, others_at, rest_at, listed_at}
use Rattle.fx_source_parse.specs.Descriptions.Reader.{start_of, ReadSpec, focus_at, pair_at, comp_at, opt_at, pred_at, call_at, form_at, is_nothing, too_nested, read_spec, param_at, def_at, read_def, begins_def, defs_from, defs_at, read_text}
use Rattle.fx_source_parse.proofs.Descriptions.Machine.{Kind, Arg, Param, Sym, Text, Def, Spec, First, More, Part, Shaped, Name, Fixed, start_stack, part_top, part_after, top_stack, top_level, first_stack, more_stack, def_stack, text_stack, table, holds, shape_holds, top_expands, top_levels, regroup}
use Rattle.fx_source_parse.specs.Reading.{Read}

abbrev pub go : List Sym → List Token → Result (List Token) Stuck
go stack ts = scan table stack ts

signs : (s : Sign) → IsTest table (Fixed s) (is_sign s)
signs s = record { expands = λ x. refl; low = λ x. refl }

scan_name : (stack : List Sym) (ts : List Token) → go (Name ∷ stack) ts ≡ (name_at ts >>= (λ r. go stack r.1))
scan_name stack [] = refl
scan_name stack (token.Word w ∷ ts) = from_named table (is_name w) w stack ts
scan_name stack (token.Number n ∷ ts) = refl
scan_name stack (token.Str v ∷ ts) = refl
scan_name stack (token.Mark m ∷ ts) = refl
scan_name stack (token.Def ∷ ts) = refl

-- what empties a stack with a symbol on it leaves fewer tokens
shorter : (s : Sym) (stack : List Sym) (ts rest : List Token) → Empties table (s ∷ stack) ts rest → length rest < length ts
shorter s stack ts rest o = at o.front o.levels o.runs o.parts
  where
    at : (front : List Token) (levels : List ℕ) → Runs table (s ∷ stack) front levels [] → ts ≡ front ++ rest → length rest < length ts
    at [] levels r e = let no : [] ≡ s ∷ stack = r.1 in absurd cc
    at (x ∷ front) levels r e =
        let size : length ts ≡ suc (length front + length rest) = ap length e ∙ ap suc (length-append front rest) in
        omega (arith, size)

shrinks : {A : Type 0} (s : Sym) (stack : List Sym) (read : Read A) → ((ts : List Token) → go (s ∷ stack) ts ≡ (read ts >>= (λ r. go [] r.1))) → (ts : List Token) (r : A × List Token) → read ts ≡ Ok r → length r.1 < length ts
shrinks s stack read goes ts r e =
    let given : go (s ∷ stack) ts ≡ Ok r.1 = goes ts ∙ ap (λ z. z >>= (λ r. go [] r.1)) e in
    shorter s stack ts r.1 (subst (λ z. Outcome table (s ∷ stack) ts z) given (scan_says table ts (s ∷ stack)))

-- what readers do, the machine does from their starts at a level
abbrev GoesAs : ℕ → ReadSpec → Type 0
GoesAs d read = (stack : List Sym) (ts : List Token) → go (Spec d ∷ stack) ts ≡ (read ts >>= (λ r. go stack r.1))

abbrev ExprGoesAs : ℕ → ReadExpr → Type 0
ExprGoesAs d read = (stack : List Sym) (ts : List Token) → go (Part (Expr d) ∷ stack) ts ≡ (read ts >>= (λ r. go stack r.1))

abbrev ShapeGoesAs : ℕ → Read ShapeTree → Type 0
ShapeGoesAs d read = (stack : List Sym) (ts : List Token) → go (Shaped (Shape d) ∷ stack) ts ≡ (read ts >>= (λ r. go stack r.1))

expr_goes : (left d : ℕ) → left ≡ 65 - d → ExprGoesAs d (read_expr left)
expr_goes left d e stack ts = goes_within inner.table table Part holds (read_expr left) (Expr d) (λ ts. expr_follows left d e [] ts) stack ts

shape_goes : (left d : ℕ) → left ≡ 65 - d → ShapeGoesAs d (read_shape left)
shape_goes left d e stack ts = goes_within shape.table table Shaped shape_holds (read_shape left) (Shape d) (λ ts. shape_reader.follows left d e [] ts) stack ts

-- parts with commas between them, where it is said of each
module _ (k : Kind) (d : ℕ) where
  closes_first : (stack : List Sym) (x : Token) (ts rest : List Token) (b : Bool) → is_sign sign.RightParen x ≡ b → closed_by b ts ≡ Some rest → go (First k d ∷ stack) (x ∷ ts) ≡ go stack rest
  closes_first stack x ts rest true h e =
      let same : ts ≡ rest = cc in
      ap (λ b. scan_from table (first_stack k d b (top_stack k d x)) (ltb 64 (cond b 0 (top_level k d))) (suc (length ts)) (λ more. go (more ++ stack) ts)) h ∙ ap (go stack) same
  closes_first stack x ts rest false h e = absurd cc

  first_closed : (stack : List Sym) (ts rest : List Token) → closed ts ≡ Some rest → go (First k d ∷ stack) ts ≡ go stack rest
  first_closed stack [] rest e = absurd cc
  first_closed stack (x ∷ ts) rest e = closes_first stack x ts rest (is_sign sign.RightParen x) refl e

  not_closed : (stack : List Sym) (ts : List Token) (n : ℕ) (deep : Bool) (o : Option (List Sym)) → scan_from table (first_stack k d false o) deep n (λ more. go (more ++ stack) ts) ≡ scan_from table o deep n (λ more. go (more ++ (part_after k d ++ More k d ∷ stack)) ts)
  not_closed stack ts n deep None = refl
  not_closed stack ts n true (Some more) = refl
  not_closed stack ts n false (Some more) = ap (λ z. go z ts) (regroup more (part_after k d) (More k d) stack)

  top_goes : (below : List Sym) (x : Token) (ts : List Token) → go (part_top k d ∷ below) (x ∷ ts) ≡ scan_from table (top_stack k d x) (ltb 64 (top_level k d)) (suc (length ts)) (λ more. go (more ++ below) ts)
  top_goes below x ts =
      ap (λ o. scan_from table o (ltb 64 (table.level (part_top k d) x)) (suc (length ts)) (λ more. go (more ++ below) ts)) (top_expands k d x) ∙ ap (λ n. scan_from table (top_stack k d x) (ltb 64 n) (suc (length ts)) (λ more. go (more ++ below) ts)) (top_levels k d x)

  opens_first : (stack : List Sym) (x : Token) (ts : List Token) (b : Bool) → is_sign sign.RightParen x ≡ b → closed_by b ts ≡ None → go (First k d ∷ stack) (x ∷ ts) ≡ go (part_top k d ∷ (part_after k d ++ More k d ∷ stack)) (x ∷ ts)
  opens_first stack x ts true h e = absurd cc
  opens_first stack x ts false h e =
      ap (λ b. scan_from table (first_stack k d b (top_stack k d x)) (ltb 64 (cond b 0 (top_level k d))) (suc (length ts)) (λ more. go (more ++ stack) ts)) h ∙ not_closed stack ts (suc (length ts)) (ltb 64 (top_level k d)) (top_stack k d x) ∙ sym (top_goes (part_after k d ++ More k d ∷ stack) x ts)

  first_open : (stack : List Sym) (ts : List Token) → closed ts ≡ None → go (First k d ∷ stack) ts ≡ go (part_top k d ∷ (part_after k d ++ More k d ∷ stack)) ts
  first_open stack [] e = refl
  first_open stack (x ∷ ts) e = opens_first stack x ts (is_sign sign.RightParen x) refl e

  closes_more : (stack : List Sym) (x : Token) (ts rest : List Token) (b : Bool) → is_sign sign.RightParen x ≡ b → closed_by b ts ≡ Some rest → go (More k d ∷ stack) (x ∷ ts) ≡ go stack rest
  closes_more stack x ts rest true h e =
      let same : ts ≡ rest = cc in
      ap (λ b. scan_from table (more_stack k d b (is_sign sign.Comma x)) false (suc (length ts)) (λ more. go (more ++ stack) ts)) h ∙ ap (go stack) same
  closes_more stack x ts rest false h e = absurd cc

  more_closed : (stack : List Sym) (ts rest : List Token) → closed ts ≡ Some rest → go (More k d ∷ stack) ts ≡ go stack rest
  more_closed stack [] rest e = absurd cc
  more_closed stack (x ∷ ts) rest e = closes_more stack x ts rest (is_sign sign.RightParen x) refl e

  another : (stack : List Sym) (ts : List Token) (n : ℕ) (b : Bool) → scan_from table (more_stack k d false b) false n (λ more. go (more ++ stack) ts) ≡ scan_from table (passed b) false n (λ more. go (more ++ (part_top k d ∷ (part_after k d ++ More k d ∷ stack))) ts)
  another stack ts n true = ap (λ z. go z ts) (regroup (part_top k d ∷ []) (part_after k d) (More k d) stack)
  another stack ts n false = refl

  opens_more : (stack : List Sym) (x : Token) (ts : List Token) (b : Bool) → is_sign sign.RightParen x ≡ b → closed_by b ts ≡ None → go (More k d ∷ stack) (x ∷ ts) ≡ go (Fixed sign.Comma ∷ part_top k d ∷ (part_after k d ++ More k d ∷ stack)) (x ∷ ts)
  opens_more stack x ts true h e = absurd cc
  opens_more stack x ts false h e =
      ap (λ b. scan_from table (more_stack k d b (is_sign sign.Comma x)) false (suc (length ts)) (λ more. go (more ++ stack) ts)) h ∙ another stack ts (suc (length ts)) (is_sign sign.Comma x)

  more_open : (stack : List Sym) (ts : List Token) → closed ts ≡ None → go (More k d ∷ stack) ts ≡ go (Fixed sign.Comma ∷ part_top k d ∷ (part_after k d ++ More k d ∷ stack)) ts
  more_open stack [] e = refl
  more_open stack (x ∷ ts) e = opens_more stack x ts (is_sign sign.RightParen x) refl e

  module _ {X : Type 0} (part : Read X) (part_as : (stack : List Sym) (ts : List Token) → go (part_top k d ∷ (part_after k d ++ stack)) ts ≡ (part ts >>= (λ r. go stack r.1))) where
    scan_added : (stack : List Sym) (done : List X) (ts : List Token) → go (part_top k d ∷ (part_after k d ++ stack)) ts ≡ (added_at part done ts >>= (λ c. go stack c.1))
    unfolding added_at
    scan_added stack done ts = on (part ts) _ _ _ (part_as stack ts) (λ c. refl)

    scan_another : (stack : List Sym) (done : List X) (ts : List Token) → go (Fixed sign.Comma ∷ part_top k d ∷ (part_after k d ++ stack)) ts ≡ (another_at part done ts >>= (λ c. go stack c.1))
    unfolding another_at
    scan_another stack done ts =
        on (expect (is_sign sign.Comma) ts) _ _ _ (scan_test table (signs sign.Comma) _ ts) (λ next. scan_added stack done next)

    another_shrinks : (done : List X) (ts : List Token) (c : List X × List Token) → another_at part done ts ≡ Ok c → length c.1 < length ts
    another_shrinks done ts c e =
        shrinks (Fixed sign.Comma) (part_top k d ∷ (part_after k d ++ [])) (another_at part done) (λ ts. scan_another [] done ts) ts c e

    scan_next : (n : ℕ) (stack : List Sym) (done : List X) (ts : List Token) → length ts ≤ suc n → ((c : List X × List Token) → length c.1 ≤ n → go (More k d ∷ stack) c.1 ≡ (others_at part n c.0 c.1 >>= (λ r. go stack r.1))) → (o : Option (List Token)) → closed ts ≡ o → go (More k d ∷ stack) ts ≡ (ended_or o done (another_at part done ts >>= (λ c. others_at part n c.0 c.1)) >>= (λ r. go stack r.1))
    scan_next n stack done ts few next (Some rest) e = more_closed stack ts rest e
    scan_next n stack done ts few next None e =
        more_open stack ts e ∙ on_ok (another_at part done ts) (λ c. go (More k d ∷ stack) c.1) (λ c. others_at part n c.0 c.1) (λ r. go stack r.1) (scan_another (More k d ∷ stack) done ts) (λ c f.
        let less = another_shrinks done ts c f in
        next c (omega (arith, less, few)))

    -- further parts, so many tokens of which are enough
    scan_others : (n : ℕ) (stack : List Sym) (done : List X) (ts : List Token) → length ts ≤ n → go (More k d ∷ stack) ts ≡ (others_at part n done ts >>= (λ r. go stack r.1))
    unfolding others_at
    scan_others zero stack done [] few = refl
    scan_others zero stack done (x ∷ ts) few = absurd (omega (arith, few))
    scan_others (suc n) stack done ts few = scan_next n stack done ts few (λ c less. scan_others n stack c.0 c.1 less) (closed ts) refl

    scan_rest : (stack : List Sym) (done : List X) (ts : List Token) → go (More k d ∷ stack) ts ≡ (rest_at part done ts >>= (λ r. go stack r.1))
    unfolding rest_at
    scan_rest stack done ts = scan_others (length ts) stack done ts (omega arith)

    listed_by : (stack : List Sym) (ts : List Token) (o : Option (List Token)) → closed ts ≡ o → go (First k d ∷ stack) ts ≡ (ended_or o [] (added_at part [] ts >>= (λ c. rest_at part c.0 c.1)) >>= (λ r. go stack r.1))
    listed_by stack ts (Some rest) e = first_closed stack ts rest e
    listed_by stack ts None e =
        first_open stack ts e ∙ on (added_at part [] ts) _ _ _ (scan_added (More k d ∷ stack) [] ts) (λ c. scan_rest stack c.0 c.1)

    pub scan_listed : (stack : List Sym) (ts : List Token) → go (First k d ∷ stack) ts ≡ (listed_at part ts >>= (λ r. go stack r.1))
    unfolding listed_at
    scan_listed stack ts = listed_by stack ts (closed ts) refl

module _ (d : ℕ) (expr : ReadExpr) (spec : ReadSpec) (expr_as : ExprGoesAs d expr) (spec_as : GoesAs d spec) where
  scan_focus : (stack : List Sym) (ts : List Token) → go (Part (Expr d) ∷ Fixed sign.ColonColon ∷ Spec d ∷ Fixed sign.RightParen ∷ stack) ts ≡ (focus_at expr spec ts >>= (λ r. go stack r.1))
  unfolding focus_at
  scan_focus stack ts =
      on (expr ts) _ _ _ (expr_as _ ts) (λ e.
      on (expect (is_sign sign.ColonColon) e.1) _ _ _ (scan_test table (signs sign.ColonColon) _ e.1) (λ below.
      on (spec below) _ _ _ (spec_as _ below) (λ s.
      on (expect (is_sign sign.RightParen) s.1) _ _ _ (scan_test table (signs sign.RightParen) stack s.1) (λ rest. refl))))

  scan_pair : (stack : List Sym) (ts : List Token) → go (Name ∷ Fixed sign.Colon ∷ Spec d ∷ Fixed sign.Comma ∷ Spec d ∷ Fixed sign.RightAngle ∷ stack) ts ≡ (pair_at spec ts >>= (λ r. go stack r.1))
  unfolding pair_at
  scan_pair stack ts =
      on (name_at ts) _ _ _ (scan_name _ ts) (λ x.
      on (expect (is_sign sign.Colon) x.1) _ _ _ (scan_test table (signs sign.Colon) _ x.1) (λ first.
      on (spec first) _ _ _ (spec_as _ first) (λ s.
      on (expect (is_sign sign.Comma) s.1) _ _ _ (scan_test table (signs sign.Comma) _ s.1) (λ second.
      on (spec second) _ _ _ (spec_as _ second) (λ t.
      on (expect (is_sign sign.RightAngle) t.1) _ _ _ (scan_test table (signs sign.RightAngle) stack t.1) (λ rest. refl))))))

  scan_comp : (stack : List Sym) (ts : List Token) → go (Spec d ∷ Fixed sign.Bar ∷ Name ∷ Fixed sign.In ∷ Part (Expr d) ∷ Fixed sign.RightBrace ∷ stack) ts ≡ (comp_at expr spec ts >>= (λ r. go stack r.1))
  unfolding comp_at
  scan_comp stack ts =
      on (spec ts) _ _ _ (spec_as _ ts) (λ s.
      on (expect (is_sign sign.Bar) s.1) _ _ _ (scan_test table (signs sign.Bar) _ s.1) (λ after.
      on (name_at after) _ _ _ (scan_name _ after) (λ x.
      on (expect (is_sign sign.In) x.1) _ _ _ (scan_test table (signs sign.In) _ x.1) (λ set.
      on (expr set) _ _ _ (expr_as _ set) (λ e.
      on (expect (is_sign sign.RightBrace) e.1) _ _ _ (scan_test table (signs sign.RightBrace) stack e.1) (λ rest. refl))))))

  scan_opt : (stack : List Sym) (ts : List Token) → go (Fixed sign.LeftParen ∷ Spec d ∷ Fixed sign.RightParen ∷ stack) ts ≡ (opt_at spec ts >>= (λ r. go stack r.1))
  unfolding opt_at
  scan_opt stack ts =
      on (expect (is_sign sign.LeftParen) ts) _ _ _ (scan_test table (signs sign.LeftParen) _ ts) (λ inside.
      on (spec inside) _ _ _ (spec_as _ inside) (λ s.
      on (expect (is_sign sign.RightParen) s.1) _ _ _ (scan_test table (signs sign.RightParen) stack s.1) (λ rest. refl)))

  scan_pred : (stack : List Sym) (ts : List Token) → go (Fixed sign.LeftParen ∷ Part (Expr d) ∷ Fixed sign.RightParen ∷ stack) ts ≡ (pred_at expr ts >>= (λ r. go stack r.1))
  unfolding pred_at
  scan_pred stack ts =
      on (expect (is_sign sign.LeftParen) ts) _ _ _ (scan_test table (signs sign.LeftParen) _ ts) (λ inside.
      on (expr inside) _ _ _ (expr_as _ inside) (λ e.
      on (expect (is_sign sign.RightParen) e.1) _ _ _ (scan_test table (signs sign.RightParen) stack e.1) (λ rest. refl)))

  scan_call : (f : List ℕ) (stack : List Sym) (ts : List Token) → go (Fixed sign.LeftParen ∷ First Arg d ∷ stack) ts ≡ (call_at expr f ts >>= (λ r. go stack r.1))
  unfolding call_at
  scan_call f stack ts =
      on (expect (is_sign sign.LeftParen) ts) _ _ _ (scan_test table (signs sign.LeftParen) _ ts) (λ inside.
      on (listed_at expr inside) _ _ _ (scan_listed Arg d expr expr_as stack inside) (λ args. refl))

  -- one level
  form_from : (stack : List Sym) (ts : List Token) (n : ℕ) (h : Start) → suc n ≡ d → scan_from table (start_stack n h) false (suc (length ts)) (λ more. go (more ++ stack) ts) ≡ (cond (is_nothing h) (Err (Unexpected (suc (length ts)))) (form_at expr spec h ts) >>= (λ r. go stack r.1))
  unfolding form_at
  form_from stack ts n start.File e = refl
  form_from stack ts n start.Dir e = refl
  form_from stack ts n start.Link e = refl
  form_from stack ts n start.Focus e = ap (λ d. go (Part (Expr d) ∷ Fixed sign.ColonColon ∷ Spec d ∷ Fixed sign.RightParen ∷ stack) ts) e ∙ scan_focus stack ts
  form_from stack ts n start.Pair e = ap (λ d. go (Name ∷ Fixed sign.Colon ∷ Spec d ∷ Fixed sign.Comma ∷ Spec d ∷ Fixed sign.RightAngle ∷ stack) ts) e ∙ scan_pair stack ts
  form_from stack ts n start.Comp e = ap (λ d. go (Spec d ∷ Fixed sign.Bar ∷ Name ∷ Fixed sign.In ∷ Part (Expr d) ∷ Fixed sign.RightBrace ∷ stack) ts) e ∙ scan_comp stack ts
  form_from stack ts n start.Opt e = ap (λ d. go (Fixed sign.LeftParen ∷ Spec d ∷ Fixed sign.RightParen ∷ stack) ts) e ∙ scan_opt stack ts
  form_from stack ts n start.Pred e = ap (λ d. go (Fixed sign.LeftParen ∷ Part (Expr d) ∷ Fixed sign.RightParen ∷ stack) ts) e ∙ scan_pred stack ts
  form_from stack ts n (start.Call f) e = ap (λ d. go (Fixed sign.LeftParen ∷ First Arg d ∷ stack) ts) e ∙ scan_call f stack ts
  form_from stack ts n start.Nothing e = refl

-- no level is left
deep_from : (d : ℕ) (stack : List Sym) (x : Token) (ts : List Token) (h : Start) → scan_from table (start_stack d h) true (suc (length ts)) (λ more. go (more ++ stack) ts) ≡ (too_nested h (x ∷ ts) >>= (λ r. go stack r.1))
deep_from d stack x ts start.File = refl
deep_from d stack x ts start.Dir = refl
deep_from d stack x ts start.Link = refl
deep_from d stack x ts start.Focus = refl
deep_from d stack x ts start.Pair = refl
deep_from d stack x ts start.Comp = refl
deep_from d stack x ts start.Opt = refl
deep_from d stack x ts start.Pred = refl
deep_from d stack x ts (start.Call f) = refl
deep_from d stack x ts start.Nothing = refl

spec_follows : (left d : ℕ) → left ≡ 65 - d → GoesAs d (read_spec left)
unfolding read_spec
spec_follows zero d e stack [] = refl
spec_follows zero d e stack (x ∷ ts) =
    ap (λ b. scan_from table (start_stack d (start_of x)) b (suc (length ts)) (λ more. go (more ++ stack) ts)) (lt-ltb 64 d (omega (arith, e))) ∙ deep_from d stack x ts (start_of x)
spec_follows (suc n) d e stack [] = refl
spec_follows (suc n) d e stack (x ∷ ts) =
    let next : n ≡ 65 - suc d = omega (arith, e) in
    ap (λ b. scan_from table (start_stack d (start_of x)) b (suc (length ts)) (λ more. go (more ++ stack) ts)) (le-ltb 64 d (omega (arith, e))) ∙ form_from (suc d) (read_expr n) (read_spec n) (expr_goes n (suc d) next) (spec_follows n (suc d) next) stack ts d (start_of x) refl

-- definitions, and the description behind them
module _ (d : ℕ) (shape : Read ShapeTree) (shape_as : ShapeGoesAs d shape) where
  scan_param : (stack : List Sym) (ts : List Token) → go (Name ∷ Fixed sign.Colon ∷ Shaped (Shape d) ∷ stack) ts ≡ (param_at shape ts >>= (λ r. go stack r.1))
  unfolding param_at
  scan_param stack ts =
      on (name_at ts) _ _ _ (scan_name _ ts) (λ x.
      on (expect (is_sign sign.Colon) x.1) _ _ _ (scan_test table (signs sign.Colon) _ x.1) (λ typed.
      on (shape typed) _ _ _ (shape_as _ typed) (λ s. refl)))

  scan_def : (spec : ReadSpec) (spec_as : GoesAs d spec) (stack : List Sym) (ts : List Token) → go (Name ∷ Fixed sign.LeftParen ∷ First Param d ∷ Fixed sign.Equal ∷ Spec d ∷ stack) ts ≡ (def_at shape spec ts >>= (λ r. go stack r.1))
  unfolding def_at
  scan_def spec spec_as stack ts =
      on (name_at ts) _ _ _ (scan_name _ ts) (λ f.
      on (expect (is_sign sign.LeftParen) f.1) _ _ _ (scan_test table (signs sign.LeftParen) _ f.1) (λ inside.
      on (listed_at (param_at shape) inside) _ _ _ (scan_listed Param d (param_at shape) scan_param _ inside) (λ ps.
      on (expect (is_sign sign.Equal) ps.1) _ _ _ (scan_test table (signs sign.Equal) _ ps.1) (λ body.
      on (spec body) _ _ _ (spec_as stack body) (λ s. refl)))))

def_deep : (d : ℕ) (stack : List Sym) (ts : List Token) (b : Bool) (n : ℕ) → scan_from table (def_stack d b) true n (λ more. go (more ++ stack) ts) ≡ ((cond b (Ok ts) (Err (Unexpected n)) >>= (λ rest. let r : Result (DefTree × List Token) Stuck = Err (TooNested n) in r)) >>= (λ r. go stack r.1))
def_deep d stack ts true n = refl
def_deep d stack ts false n = refl

def_from : (d : ℕ) (shape : Read ShapeTree) (shape_as : ShapeGoesAs (suc d) shape) (spec : ReadSpec) (spec_as : GoesAs (suc d) spec) (stack : List Sym) (ts : List Token) (b : Bool) (n : ℕ) → scan_from table (def_stack d b) false n (λ more. go (more ++ stack) ts) ≡ ((cond b (Ok ts) (Err (Unexpected n)) >>= (λ rest. def_at shape spec rest)) >>= (λ r. go stack r.1))
def_from d shape shape_as spec spec_as stack ts true n = scan_def (suc d) shape shape_as spec spec_as stack ts
def_from d shape shape_as spec spec_as stack ts false n = refl

def_follows : (left d : ℕ) → left ≡ 65 - d → (stack : List Sym) (ts : List Token) → go (Def d ∷ stack) ts ≡ (read_def left ts >>= (λ r. go stack r.1))
unfolding read_def
def_follows zero d e stack [] = refl
def_follows zero d e stack (x ∷ ts) =
    ap (λ b. scan_from table (def_stack d (is_sign sign.Def x)) b (suc (length ts)) (λ more. go (more ++ stack) ts)) (lt-ltb 64 d (omega (arith, e))) ∙ def_deep d stack ts (is_sign sign.Def x) (suc (length ts))
def_follows (suc n) d e stack [] = refl
def_follows (suc n) d e stack (x ∷ ts) =
    let next : n ≡ 65 - suc d = omega (arith, e) in
    ap (λ b. scan_from table (def_stack d (is_sign sign.Def x)) b (suc (length ts)) (λ more. go (more ++ stack) ts)) (le-ltb 64 d (omega (arith, e))) ∙ def_from d (read_shape n) (shape_goes n (suc d) next) (read_spec n) (spec_follows n (suc d) next) stack ts (is_sign sign.Def x) (suc (length ts))

-- a text that begins with `def` begins with a definition, and another with a description
text_defined : (d : ℕ) (stack : List Sym) (ts : List Token) (n : ℕ) (deep : Bool) (root : Option (List Sym)) (b : Bool) → b ≡ true → scan_from table (text_stack d (def_stack d b) root) deep n (λ more. go (more ++ stack) ts) ≡ scan_from table (def_stack d b) deep n (λ more. go (more ++ Text d ∷ stack) ts)
text_defined d stack ts n true root true e = refl
text_defined d stack ts n false root true e = refl
text_defined d stack ts n deep root false e = absurd cc

begins_so : (d : ℕ) (stack : List Sym) (ts : List Token) → begins_def ts ≡ true → go (Text d ∷ stack) ts ≡ go (Def d ∷ Text d ∷ stack) ts
begins_so d stack [] e = absurd cc
begins_so d stack (x ∷ ts) e = text_defined d stack ts (suc (length ts)) (ltb 64 d) (start_stack d (start_of x)) (is_sign sign.Def x) e

begins_not : (d : ℕ) (stack : List Sym) (ts : List Token) → begins_def ts ≡ false → go (Text d ∷ stack) ts ≡ go (Spec d ∷ stack) ts
begins_not d stack [] e = refl
begins_not d stack (x ∷ ts) e =
    ap (λ b. scan_from table (text_stack d (def_stack d b) (start_stack d (start_of x))) (ltb 64 d) (suc (length ts)) (λ more. go (more ++ stack) ts)) e

module _ (left d : ℕ) (e : left ≡ 65 - d) where
  scan_more : (stack : List Sym) (done : List DefTree) (ts : List Token) → go (Def d ∷ stack) ts ≡ (added_at (read_def left) done ts >>= (λ c. go stack c.1))
  unfolding added_at
  scan_more stack done ts = on (read_def left ts) _ _ _ (def_follows left d e stack ts) (λ c. refl)

  -- behind the definitions that were read
  abbrev rooted : List DefTree × List Token → Result (TextTree × List Token) Stuck
  rooted ds = read_spec left ds.1 >>= (λ s. Ok (record { defs = ds.0; root = s.0 }, s.1))

  scan_root : (stack : List Sym) (done : List DefTree) (ts : List Token) → begins_def ts ≡ false → go (Text d ∷ stack) ts ≡ (rooted (done, ts) >>= (λ r. go stack r.1))
  scan_root stack done ts other = begins_not d stack ts other ∙ on (read_spec left ts) _ _ _ (spec_follows left d e stack ts) (λ s. refl)

  scan_text : (n : ℕ) (stack : List Sym) (done : List DefTree) (ts : List Token) → length ts ≤ suc n → ((c : List DefTree × List Token) → length c.1 ≤ n → go (Text d ∷ stack) c.1 ≡ ((defs_from left n c.0 c.1 >>= rooted) >>= (λ r. go stack r.1))) → (b : Bool) → begins_def ts ≡ b → go (Text d ∷ stack) ts ≡ ((cond b (added_at (read_def left) done ts >>= (λ c. defs_from left n c.0 c.1)) (Ok (done, ts)) >>= rooted) >>= (λ r. go stack r.1))
  scan_text n stack done ts few next false other = scan_root stack done ts other
  scan_text n stack done ts few next true begun =
      let added = added_at (read_def left) done ts in
      begins_so d stack ts begun ∙ on_ok added (λ c. go (Text d ∷ stack) c.1) (λ c. defs_from left n c.0 c.1 >>= rooted) (λ r. go stack r.1) (scan_more (Text d ∷ stack) done ts) (λ c f.
      let less = shrinks (Def d) [] (added_at (read_def left) done) (λ ts. scan_more [] done ts) ts c f in
      next c (omega (arith, less, few))) ∙ ap (λ r. r >>= (λ r. go stack r.1)) (sym (then_then added (λ c. defs_from left n c.0 c.1) rooted))

  scan_defs : (n : ℕ) (stack : List Sym) (done : List DefTree) (ts : List Token) → length ts ≤ n → go (Text d ∷ stack) ts ≡ ((defs_from left n done ts >>= rooted) >>= (λ r. go stack r.1))
  unfolding defs_from
  scan_defs zero stack done [] few = scan_root stack done [] refl
  scan_defs zero stack done (x ∷ ts) few = absurd (omega (arith, few))
  scan_defs (suc n) stack done ts few = scan_text n stack done ts few (λ c less. scan_defs n stack c.0 c.1 less) (begins_def ts) refl

pub text_follows : (left d : ℕ) → left ≡ 65 - d → (stack : List Sym) (ts : List Token) → go (Text d ∷ stack) ts ≡ (read_text left ts >>= (λ r. go stack r.1))
unfolding read_text defs_at
text_follows left d e stack ts = scan_defs left d e (length ts) stack [] ts (omega arith)
