-- The machine of descriptions and their definitions.
use Rattle.std.proofs.Common.{◌≡◌, ℕ, suc, Bool, true, false, cond, ◌&&◌, Option, Some, None, List, [], ◌∷◌, ◌++◌, refl, sym, ap, ◌∙◌, subst, append_assoc}
use Rattle.std.specs.List.{flat_map, list_all}
use Rattle.std.proofs.lemmas.Bool.{and_parts}
use Rattle.fx_base.proofs.Results.{none_is}
use Rattle.fx_expr.specs.ExprTree.{ExprTree}
use Rattle.fx_expr.specs.ShapeTree.{ShapeTree}
use Rattle.fx_lex.specs.declared.token.Token.{Token}
use Rattle.fx_lex.specs.declared.token.Token.TheVariants as token
use Rattle.fx_lex.specs.declared.token.Mark.TheVariants as mark
use Rattle.fx_parse.specs.declared.keyword.Keyword.{Keyword}
use Rattle.fx_parse.specs.declared.keyword.Keyword.TheVariants as keyword
use Rattle.fx_parse.specs.declared.sign.Sign.{Sign}
use Rattle.fx_parse.specs.declared.sign.Sign.TheVariants as sign
use Rattle.fx_parse.specs.Keywords.{keyword_bytes, keyword_of, word}
use Rattle.fx_parse.specs.Grammars.{opening, closing, comma, expr_tokens, expr_levels, shape_tokens, shape_levels, is_name, has_names}
use Rattle.fx_parse.specs.Signs.{sign_token, is_sign}
use Rattle.fx_parse.proofs.Finds.{is_no_keyword}
use Rattle.fx_parse.proofs.KeywordLaws.{keyword_again}
use Rattle.fx_parse.proofs.Machine.{Table, Runs, run_under}
use Rattle.fx_parse.proofs.ExprMachine as inner
use Rattle.fx_parse.proofs.ExprMachine.{Expr, expr_runs}
use Rattle.fx_parse.proofs.ShapeMachine as shape
use Rattle.fx_parse.proofs.ShapeMachine.{Shape, shape_runs}
use Rattle.fx_parse.proofs.Signs.{sign_is, sign_again, names}
use Rattle.fx_parse.proofs.Steps.{Run, ran, takes, goes}
use Rattle.fx_parse.proofs.Tests.{passed}
use Rattle.fx_parse.proofs.Within.{lifted, Holds, run_within}
use Rattle.fx_spec.specs.Written.{WrittenTree, DefTree, TextTree}
use Rattle.fx_grammar.specs.Tokens.{listed, spec_tokens, param_tokens, def_tokens, text_tokens, spec_names, param_names, def_names, text_names}
use Rattle.fx_grammar.specs.TokenLevels.{listed_levels, spec_token_levels, param_token_levels, def_token_levels, text_token_levels}
use Rattle.fx_source_parse.specs.declared.spec.start.Start.{Start}
use Rattle.fx_source_parse.specs.declared.spec.start.Start.TheVariants as start
use Rattle.fx_source_parse.specs.Descriptions.Reader.{keyword_start, word_start, start_of}

-- what stands between commas: an argument or a parameter
pub data Kind : Type 0 where
  Arg : Kind
  Param : Kind

-- What may be still to come. Text stands for definitions and the description behind them; First for parts with commas
-- between them, up to the bracket that closes them, and More for those behind a part.
pub data Sym : Type 0 where
  Text : ℕ → Sym
  Def : ℕ → Sym
  Spec : ℕ → Sym
  First : Kind → ℕ → Sym
  More : Kind → ℕ → Sym
  Part : inner.Sym → Sym
  Shaped : shape.Sym → Sym
  Name : Sym
  Fixed : Sign → Sym

abbrev pub start_stack : ℕ → Start → Option (List Sym)
start_stack d start.File = Some []
start_stack d start.Dir = Some []
start_stack d start.Link = Some []
start_stack d start.Focus = Some (Part (Expr (suc d)) ∷ Fixed sign.ColonColon ∷ Spec (suc d) ∷ Fixed sign.RightParen ∷ [])
start_stack d start.Pair = Some (Name ∷ Fixed sign.Colon ∷ Spec (suc d) ∷ Fixed sign.Comma ∷ Spec (suc d) ∷ Fixed sign.RightAngle ∷ [])
start_stack d start.Comp = Some (Spec (suc d) ∷ Fixed sign.Bar ∷ Name ∷ Fixed sign.In ∷ Part (Expr (suc d)) ∷ Fixed sign.RightBrace ∷ [])
start_stack d start.Opt = Some (Fixed sign.LeftParen ∷ Spec (suc d) ∷ Fixed sign.RightParen ∷ [])
start_stack d start.Pred = Some (Fixed sign.LeftParen ∷ Part (Expr (suc d)) ∷ Fixed sign.RightParen ∷ [])
start_stack d (start.Call f) = Some (Fixed sign.LeftParen ∷ First Arg (suc d) ∷ [])
start_stack d start.Nothing = None

-- the first symbol of a part, the others, and what a token makes of the first
abbrev pub part_top : Kind → ℕ → Sym
part_top Arg d = Part (Expr d)
part_top Param d = Name

abbrev pub part_after : Kind → ℕ → List Sym
part_after Arg d = []
part_after Param d = Fixed sign.Colon ∷ Shaped (Shape d) ∷ []

abbrev pub top_stack : Kind → ℕ → Token → Option (List Sym)
top_stack Arg d x = lifted Part (inner.table.expand (Expr d) x)
top_stack Param d x = passed (names x)

abbrev pub top_level : Kind → ℕ → ℕ
top_level Arg d = d
top_level Param d = 0

-- the bracket, or a part and more of them
abbrev pub first_stack : Kind → ℕ → Bool → Option (List Sym) → Option (List Sym)
first_stack k d true top = Some []
first_stack k d false None = None
first_stack k d false (Some more) = Some (more ++ (part_after k d ++ More k d ∷ []))

-- the bracket, or a comma and a part and more of them
abbrev pub more_stack : Kind → ℕ → Bool → Bool → Option (List Sym)
more_stack k d true another = Some []
more_stack k d false true = Some (part_top k d ∷ (part_after k d ++ More k d ∷ []))
more_stack k d false false = None

abbrev pub def_stack : ℕ → Bool → Option (List Sym)
def_stack d true = Some (Name ∷ Fixed sign.LeftParen ∷ First Param (suc d) ∷ Fixed sign.Equal ∷ Spec (suc d) ∷ [])
def_stack d false = None

-- a definition and more of the text, or what it describes
abbrev pub text_stack : ℕ → Option (List Sym) → Option (List Sym) → Option (List Sym)
text_stack d (Some more) root = Some (more ++ Text d ∷ [])
text_stack d None root = root

abbrev pub expand : Sym → Token → Option (List Sym)
expand (Text d) x = text_stack d (def_stack d (is_sign sign.Def x)) (start_stack d (start_of x))
expand (Def d) x = def_stack d (is_sign sign.Def x)
expand (Spec d) x = start_stack d (start_of x)
expand (First k d) x = first_stack k d (is_sign sign.RightParen x) (top_stack k d x)
expand (More k d) x = more_stack k d (is_sign sign.RightParen x) (is_sign sign.Comma x)
expand (Part s) x = lifted Part (inner.table.expand s x)
expand (Shaped s) x = lifted Shaped (shape.table.expand s x)
expand Name x = passed (names x)
expand (Fixed s) x = passed (is_sign s x)

-- the bracket begins no form
abbrev pub level : Sym → Token → ℕ
level (Text d) x = d
level (Def d) x = d
level (Spec d) x = d
level (First k d) x = cond (is_sign sign.RightParen x) 0 (top_level k d)
level (More k d) x = 0
level (Part s) x = inner.table.level s x
level (Shaped s) x = shape.table.level s x
level Name x = 0
level (Fixed s) x = 0

abbrev pub table : Table Sym
table = record { expand = expand; level = level }

pub holds : Holds inner.table table Part
holds = record { expands = λ s x. refl; levels = λ s x. refl }

pub shape_holds : Holds shape.table table Shaped
shape_holds = record { expands = λ s x. refl; levels = λ s x. refl }

-- the first symbol of a part takes tokens so
pub top_expands : (k : Kind) (d : ℕ) (x : Token) → expand (part_top k d) x ≡ top_stack k d x
top_expands Arg d x = refl
top_expands Param d x = refl

pub top_levels : (k : Kind) (d : ℕ) (x : Token) → level (part_top k d) x ≡ top_level k d
top_levels Arg d x = refl
top_levels Param d x = refl

pub start_word : (k : Keyword) → start_of (word k) ≡ keyword_start k
start_word k = ap (word_start (keyword_bytes k)) (keyword_again k)

pub start_name : (f : List ℕ) → is_name f ≡ true → start_of (token.Word f) ≡ start.Call f
start_name f h = ap (word_start f) (none_is (keyword_of f) (sym (is_no_keyword f) ∙ h))

-- the tokens of the forms, part by part
pub focus_tokens : (e : ExprTree) (s : WrittenTree) → spec_tokens (WrittenTree.focus e s) ≡ opening ∷ (expr_tokens e ++ (token.Mark mark.ColonColon ∷ (spec_tokens s ++ closing ∷ [])))
focus_tokens e s = ap (λ l. opening ∷ l) (append_assoc (expr_tokens e) (token.Mark mark.ColonColon ∷ spec_tokens s) (closing ∷ []))

pub pair_tokens : (x : List ℕ) (s t : WrittenTree) → spec_tokens (WrittenTree.pair x s t) ≡ token.Mark mark.LeftAngle ∷ token.Word x ∷ token.Mark mark.Colon ∷ (spec_tokens s ++ (comma ∷ (spec_tokens t ++ token.Mark mark.RightAngle ∷ [])))
pair_tokens x s t = ap (λ l. token.Mark mark.LeftAngle ∷ token.Word x ∷ token.Mark mark.Colon ∷ l) (append_assoc (spec_tokens s) (comma ∷ spec_tokens t) (token.Mark mark.RightAngle ∷ []))

pub comp_tokens : (s : WrittenTree) (x : List ℕ) (e : ExprTree) → spec_tokens (WrittenTree.comp s x e) ≡ token.Mark mark.LeftBrace ∷ (spec_tokens s ++ (token.Mark mark.Bar ∷ token.Word x ∷ word keyword.In ∷ (expr_tokens e ++ token.Mark mark.RightBrace ∷ [])))
comp_tokens s x e = ap (λ l. token.Mark mark.LeftBrace ∷ l) (append_assoc (spec_tokens s) (token.Mark mark.Bar ∷ token.Word x ∷ word keyword.In ∷ expr_tokens e) (token.Mark mark.RightBrace ∷ []))

-- a sign, a name and an expression
pub a_sign : (s : Sign) {stack end : List Sym} {ts : List Token} {l : List ℕ} → Run table stack ts l end → Run table (Fixed s ∷ stack) (sign_token s ∷ ts) (0 ∷ l) end
a_sign s r = takes table (Fixed s) (sign_token s) [] (ap passed (sign_again s)) r

pub a_name : (x : List ℕ) {stack end : List Sym} {ts : List Token} {l : List ℕ} → is_name x ≡ true → Run table stack ts l end → Run table (Name ∷ stack) (token.Word x ∷ ts) (0 ∷ l) end
a_name x h r = takes table Name (token.Word x) [] (ap passed h) r

the_expr : (d : ℕ) (e : ExprTree) (stack : List Sym) → has_names e ≡ true → Run table (Part (Expr d) ∷ stack) (expr_tokens e) (expr_levels d e) stack
the_expr d e stack h =
    let alone = run_within inner.table table Part holds (expr_tokens e) (Expr d ∷ []) [] (expr_levels d e) (expr_runs d e [] h) in
    record { runs = run_under table (expr_tokens e) (Part (Expr d) ∷ []) [] stack (expr_levels d e) alone }

the_shape : (d : ℕ) (s : ShapeTree) (stack : List Sym) → Run table (Shaped (Shape d) ∷ stack) (shape_tokens s) (shape_levels d s) stack
the_shape d s stack =
    let alone = run_within shape.table table Shaped shape_holds (shape_tokens s) (Shape d ∷ []) [] (shape_levels d s) (shape_runs d s []) in
    record { runs = run_under table (shape_tokens s) (Shaped (Shape d) ∷ []) [] stack (shape_levels d s) alone }

an_expr : (d : ℕ) (e : ExprTree) {stack end : List Sym} {ts : List Token} {l : List ℕ} → has_names e ≡ true → Run table stack ts l end → Run table (Part (Expr d) ∷ stack) (expr_tokens e ++ ts) (expr_levels d e ++ l) end
an_expr d e {stack} h r = goes table (the_expr d e stack h) r

-- behind the symbol on top
pub regroup : (more after : List Sym) (s : Sym) (stack : List Sym) → (more ++ (after ++ s ∷ [])) ++ stack ≡ more ++ (after ++ s ∷ stack)
regroup more after s stack = append_assoc more (after ++ s ∷ []) stack ∙ ap (λ z. more ++ z) (append_assoc after (s ∷ []) stack)

-- a token that begins a part closes no bracket
at_closing : (k : Kind) (d : ℕ) → top_stack k d closing ≡ None
at_closing Arg d = refl
at_closing Param d = refl

no_bracket : (k : Kind) (d : ℕ) (x : Token) (b : Bool) (more : List Sym) → is_sign sign.RightParen x ≡ b → top_stack k d x ≡ Some more → b ≡ false
no_bracket k d x false more h e = refl
no_bracket k d x true more h e =
    let no : None ≡ Some more = sym (at_closing k d) ∙ ap (top_stack k d) (sym (sign_is sign.RightParen x h)) ∙ e in
    absurd cc

not_more : (k : Kind) (d : ℕ) → part_top k d ≡ More k d → ⊥
not_more Arg d e = cc
not_more Param d e = cc

-- a part at the front of parts
first_runs : (k : Kind) (d : ℕ) (stack : List Sym) (ts : List Token) (l : List ℕ) → Runs table (part_top k d ∷ (part_after k d ++ More k d ∷ stack)) ts l (More k d ∷ stack) → Runs table (First k d ∷ stack) ts l (More k d ∷ stack)
first_runs k d stack [] l r =
    let all : More k d ∷ stack ≡ part_top k d ∷ (part_after k d ++ More k d ∷ stack) = r.1 in
    let same : part_top k d ≡ More k d = cc in
    absurd (not_more k d same)
first_runs k d stack (x ∷ ts) l r =
    let top : top_stack k d x ≡ Some r.0 = sym (top_expands k d x) ∙ r.2 in
    let not_closed : is_sign sign.RightParen x ≡ false = no_bracket k d x (is_sign sign.RightParen x) r.0 refl top in
    let P : List Sym → Type 0 = λ z. Runs table z ts r.1 (More k d ∷ stack) in
    (r.0 ++ (part_after k d ++ More k d ∷ []), r.1, ap (λ b. first_stack k d b (top_stack k d x)) not_closed ∙ ap (first_stack k d false) top, r.3 ∙ ap (λ n. n ∷ r.1) (top_levels k d x ∙ ap (λ b. cond b 0 (top_level k d)) (sym not_closed)), subst P (sym (regroup r.0 (part_after k d) (More k d) stack)) r.4)

-- the machine runs over parts with commas between them, where it runs over each part
module _ (k : Kind) (d : ℕ) {X : Type 0} (tokens : X → List Token) (levels : X → List ℕ) (right : X → Bool) (runs : (x : X) (stack : List Sym) → right x ≡ true → Run table (part_top k d ∷ (part_after k d ++ stack)) (tokens x) (levels x) stack) where
  abbrev others : List X → List Token
  others xs = flat_map (λ q. comma ∷ tokens q) xs

  abbrev other_levels : List X → List ℕ
  other_levels xs = flat_map (λ q. 0 ∷ levels q) xs

  more_run : (xs : List X) {stack end : List Sym} {ts : List Token} {l : List ℕ} → list_all right xs ≡ true → Run table stack ts l end → Run table (More k d ∷ stack) (others xs ++ closing ∷ ts) (other_levels xs ++ 0 ∷ l) end
  more_run [] h r = takes table (More k d) closing [] refl r
  more_run (x ∷ xs) {stack} {end} {ts} {l} h r =
      let hs = and_parts (right x) (list_all right xs) h in
      let all = goes table (runs x (More k d ∷ stack) hs.0) (more_run xs hs.1 r) in
      let S : List Sym → Type 0 = λ z. Run table z (tokens x ++ (others xs ++ closing ∷ ts)) (levels x ++ (other_levels xs ++ 0 ∷ l)) end in
      let here = takes table (More k d) comma (part_top k d ∷ (part_after k d ++ More k d ∷ [])) refl (subst S (sym (regroup (part_top k d ∷ []) (part_after k d) (More k d) stack)) all) in
      let P : List Token → Type 0 = λ z. Run table (More k d ∷ stack) (comma ∷ z) (0 ∷ (levels x ++ (other_levels xs ++ 0 ∷ l))) end in
      let Q : List ℕ → Type 0 = λ z. Run table (More k d ∷ stack) (comma ∷ ((tokens x ++ others xs) ++ closing ∷ ts)) (0 ∷ z) end in
      subst Q (sym (append_assoc (levels x) (other_levels xs) (0 ∷ l))) (subst P (sym (append_assoc (tokens x) (others xs) (closing ∷ ts))) here)

  pub listed_run : (xs : List X) {stack end : List Sym} {ts : List Token} {l : List ℕ} → list_all right xs ≡ true → Run table stack ts l end → Run table (First k d ∷ stack) (listed tokens xs ++ closing ∷ ts) (listed_levels levels xs ++ 0 ∷ l) end
  listed_run [] h r = takes table (First k d) closing [] refl r
  listed_run (x ∷ xs) {stack} {end} {ts} {l} h r =
      let hs = and_parts (right x) (list_all right xs) h in
      let one : Run table (First k d ∷ stack) (tokens x) (levels x) (More k d ∷ stack) = record { runs = first_runs k d stack (tokens x) (levels x) (runs x (More k d ∷ stack) hs.0).runs } in
      let all = goes table one (more_run xs hs.1 r) in
      let P : List Token → Type 0 = λ z. Run table (First k d ∷ stack) z (levels x ++ (other_levels xs ++ 0 ∷ l)) end in
      let Q : List ℕ → Type 0 = λ z. Run table (First k d ∷ stack) ((tokens x ++ others xs) ++ closing ∷ ts) z end in
      subst Q (sym (append_assoc (levels x) (other_levels xs) (0 ∷ l))) (subst P (sym (append_assoc (tokens x) (others xs) (closing ∷ ts))) all)

pub args_run : (d : ℕ) (es : List ExprTree) {stack end : List Sym} {ts : List Token} {l : List ℕ} → list_all has_names es ≡ true → Run table stack ts l end → Run table (First Arg d ∷ stack) (listed expr_tokens es ++ closing ∷ ts) (listed_levels (expr_levels d) es ++ 0 ∷ l) end
args_run d es h r = listed_run Arg d expr_tokens (expr_levels d) has_names (λ e stack h. the_expr d e stack h) es h r

pub params_run : (d : ℕ) (ps : List (List ℕ × ShapeTree)) {stack end : List Sym} {ts : List Token} {l : List ℕ} → list_all param_names ps ≡ true → Run table stack ts l end → Run table (First Param d ∷ stack) (listed param_tokens ps ++ closing ∷ ts) (listed_levels (param_token_levels d) ps ++ 0 ∷ l) end
params_run d ps h r =
    listed_run Param d param_tokens (param_token_levels d) param_names (λ p stack h. a_name p.0 h (a_sign sign.Colon (the_shape d p.1 stack))) ps h r

-- the machine runs over the tokens of each description
pub spec_runs : (d : ℕ) (t : WrittenTree) (stack : List Sym) → spec_names t ≡ true → Run table (Spec d ∷ stack) (spec_tokens t) (spec_token_levels d t) stack
spec_runs d WrittenTree.file stack h = takes table (Spec d) (word keyword.File) [] (ap (start_stack d) (start_word keyword.File)) (ran table)
spec_runs d WrittenTree.dir stack h = takes table (Spec d) (word keyword.Dir) [] (ap (start_stack d) (start_word keyword.Dir)) (ran table)
spec_runs d WrittenTree.link stack h = takes table (Spec d) (word keyword.Link) [] (ap (start_stack d) (start_word keyword.Link)) (ran table)
spec_runs d (WrittenTree.focus e s) stack h =
    let hs = and_parts (has_names e) (spec_names s) h in
    let P : List Token → Type 0 = λ ts. Run table (Spec d ∷ stack) ts (spec_token_levels d (WrittenTree.focus e s)) stack in
    subst P (sym (focus_tokens e s)) (takes table (Spec d) opening (Part (Expr (suc d)) ∷ Fixed sign.ColonColon ∷ Spec (suc d) ∷ Fixed sign.RightParen ∷ []) refl (an_expr (suc d) e hs.0 (a_sign sign.ColonColon (goes table (spec_runs (suc d) s (Fixed sign.RightParen ∷ stack) hs.1) (a_sign sign.RightParen (ran table))))))
spec_runs d (WrittenTree.pair x s t) stack h =
    let hs = and_parts (is_name x) _ h in
    let is = and_parts (spec_names s) (spec_names t) hs.1 in
    let P : List Token → Type 0 = λ ts. Run table (Spec d ∷ stack) ts (spec_token_levels d (WrittenTree.pair x s t)) stack in
    subst P (sym (pair_tokens x s t)) (takes table (Spec d) (token.Mark mark.LeftAngle) (Name ∷ Fixed sign.Colon ∷ Spec (suc d) ∷ Fixed sign.Comma ∷ Spec (suc d) ∷ Fixed sign.RightAngle ∷ []) refl (a_name x hs.0 (a_sign sign.Colon (goes table (spec_runs (suc d) s (Fixed sign.Comma ∷ Spec (suc d) ∷ Fixed sign.RightAngle ∷ stack) is.0) (a_sign sign.Comma (goes table (spec_runs (suc d) t (Fixed sign.RightAngle ∷ stack) is.1) (a_sign sign.RightAngle (ran table))))))))
spec_runs d (WrittenTree.comp s x e) stack h =
    let hs = and_parts (spec_names s) _ h in
    let is = and_parts (is_name x) (has_names e) hs.1 in
    let P : List Token → Type 0 = λ ts. Run table (Spec d ∷ stack) ts (spec_token_levels d (WrittenTree.comp s x e)) stack in
    subst P (sym (comp_tokens s x e)) (takes table (Spec d) (token.Mark mark.LeftBrace) (Spec (suc d) ∷ Fixed sign.Bar ∷ Name ∷ Fixed sign.In ∷ Part (Expr (suc d)) ∷ Fixed sign.RightBrace ∷ []) refl (goes table (spec_runs (suc d) s (Fixed sign.Bar ∷ Name ∷ Fixed sign.In ∷ Part (Expr (suc d)) ∷ Fixed sign.RightBrace ∷ stack) hs.0) (a_sign sign.Bar (a_name x is.0 (a_sign sign.In (an_expr (suc d) e is.1 (a_sign sign.RightBrace (ran table))))))))
spec_runs d (WrittenTree.opt s) stack h =
    takes table (Spec d) (word keyword.Opt) (Fixed sign.LeftParen ∷ Spec (suc d) ∷ Fixed sign.RightParen ∷ []) (ap (start_stack d) (start_word keyword.Opt)) (a_sign sign.LeftParen (goes table (spec_runs (suc d) s (Fixed sign.RightParen ∷ stack) h) (a_sign sign.RightParen (ran table))))
spec_runs d (WrittenTree.pred e) stack h =
    takes table (Spec d) (word keyword.Pred) (Fixed sign.LeftParen ∷ Part (Expr (suc d)) ∷ Fixed sign.RightParen ∷ []) (ap (start_stack d) (start_word keyword.Pred)) (a_sign sign.LeftParen (an_expr (suc d) e h (a_sign sign.RightParen (ran table))))
spec_runs d (WrittenTree.call f es) stack h =
    let hs = and_parts (is_name f) (list_all has_names es) h in
    takes table (Spec d) (token.Word f) (Fixed sign.LeftParen ∷ First Arg (suc d) ∷ []) (ap (start_stack d) (start_name f hs.0)) (a_sign sign.LeftParen (args_run (suc d) es hs.1 (ran table)))

-- the tokens of a definition, part by part
abbrev pub behind_def : DefTree → List Token
behind_def f = token.Word f.name ∷ opening ∷ (listed param_tokens f.params ++ closing ∷ token.Mark mark.Equal ∷ spec_tokens f.body)

abbrev pub def_list : DefTree → List Token
def_list f = token.Def ∷ behind_def f

pub def_parts : (f : DefTree) → def_tokens f ≡ def_list f
def_parts f = ap (λ l. token.Def ∷ token.Word f.name ∷ opening ∷ l) (append_assoc (listed param_tokens f.params) (closing ∷ []) (token.Mark mark.Equal ∷ spec_tokens f.body))

pub def_runs : (d : ℕ) (f : DefTree) (stack : List Sym) → def_names f ≡ true → Run table (Def d ∷ stack) (def_list f) (def_token_levels d f) stack
def_runs d f stack h =
    let hs = and_parts (is_name f.name) (list_all param_names f.params && spec_names f.body) h in
    let is = and_parts (list_all param_names f.params) (spec_names f.body) hs.1 in
    takes table (Def d) token.Def (Name ∷ Fixed sign.LeftParen ∷ First Param (suc d) ∷ Fixed sign.Equal ∷ Spec (suc d) ∷ []) refl (a_name f.name hs.0 (a_sign sign.LeftParen (params_run (suc d) f.params is.0 (a_sign sign.Equal (spec_runs (suc d) f.body stack is.1)))))

-- what begins a description is no `def`
no_def : (d : ℕ) (x : Token) (more : List Sym) → start_stack d (start_of x) ≡ Some more → is_sign sign.Def x ≡ false
no_def d (token.Word w) more e = refl
no_def d (token.Number n) more e = refl
no_def d (token.Str v) more e = refl
no_def d (token.Mark m) more e = refl
no_def d token.Def more e = absurd cc

root_runs : (d : ℕ) (ts : List Token) (l : List ℕ) → Runs table (Spec d ∷ []) ts l [] → Runs table (Text d ∷ []) ts l []
root_runs d [] l r = let no : [] ≡ Spec d ∷ [] = r.1 in absurd cc
root_runs d (x ∷ ts) l r =
    (r.0, r.1, ap (λ b. text_stack d (def_stack d b) (start_stack d (start_of x))) (no_def d x r.0 r.2) ∙ r.2, r.3, r.4)

-- a definition at the front of a text
front_runs : (d : ℕ) (stack : List Sym) (ts : List Token) (l : List ℕ) → Runs table (Def d ∷ Text d ∷ stack) (token.Def ∷ ts) l (Text d ∷ stack) → Runs table (Text d ∷ stack) (token.Def ∷ ts) l (Text d ∷ stack)
front_runs d stack ts l r =
    let P : List Sym → Type 0 = λ z. Runs table z ts r.1 (Text d ∷ stack) in
    (r.0 ++ Text d ∷ [], r.1, ap (λ o. text_stack d o (start_stack d (start_of token.Def))) r.2, r.3, subst P (sym (append_assoc r.0 (Text d ∷ []) stack)) r.4)

defs_run : (d : ℕ) (fs : List DefTree) (s : WrittenTree) (stack : List Sym) → list_all def_names fs ≡ true → spec_names s ≡ true → Run table (Text d ∷ stack) (flat_map def_tokens fs ++ spec_tokens s) (flat_map (def_token_levels d) fs ++ spec_token_levels d s) stack
defs_run d [] s stack h is =
    let alone = root_runs d (spec_tokens s) (spec_token_levels d s) (spec_runs d s [] is).runs in
    record { runs = run_under table (spec_tokens s) (Text d ∷ []) [] stack (spec_token_levels d s) alone }
defs_run d (f ∷ fs) s stack h is =
    let hs = and_parts (def_names f) (list_all def_names fs) h in
    let one : Run table (Text d ∷ stack) (def_list f) (def_token_levels d f) (Text d ∷ stack) = record { runs = front_runs d stack (behind_def f) (def_token_levels d f) (def_runs d f (Text d ∷ stack) hs.0).runs } in
    let D : List Token → Type 0 = λ z. Run table (Text d ∷ stack) z (def_token_levels d f) (Text d ∷ stack) in
    let all = goes table (subst D (sym (def_parts f)) one) (defs_run d fs s stack hs.1 is) in
    let P : List Token → Type 0 = λ z. Run table (Text d ∷ stack) z (def_token_levels d f ++ (flat_map (def_token_levels d) fs ++ spec_token_levels d s)) stack in
    let Q : List ℕ → Type 0 = λ z. Run table (Text d ∷ stack) ((def_tokens f ++ flat_map def_tokens fs) ++ spec_tokens s) z stack in
    subst Q (sym (append_assoc (def_token_levels d f) (flat_map (def_token_levels d) fs) (spec_token_levels d s))) (subst P (sym (append_assoc (def_tokens f) (flat_map def_tokens fs) (spec_tokens s))) all)

pub text_runs : (d : ℕ) (t : TextTree) (stack : List Sym) → text_names t ≡ true → Run table (Text d ∷ stack) (text_tokens t) (text_token_levels d t) stack
text_runs d t stack h =
    let hs = and_parts (list_all def_names t.defs) (spec_names t.root) h in
    defs_run d t.defs t.root stack hs.0 hs.1
