-- The machine of shapes.
use Rattle.std.proofs.Common.{◌≡◌, ℕ, suc, Bool, true, Option, Some, None, List, [], ◌∷◌, ◌++◌, refl, sym, ap, ◌∙◌, subst}
use Rattle.std.proofs.lemmas.List.{append-nil}
use Rattle.fx_expr.specs.ShapeTree.{ShapeTree}
use Rattle.fx_lex.specs.declared.token.Token.{Token}
use Rattle.fx_lex.specs.declared.token.Token.TheVariants as token
use Rattle.fx_parse.specs.declared.keyword.Keyword.{Keyword}
use Rattle.fx_parse.specs.declared.keyword.Keyword.TheVariants as keyword
use Rattle.fx_parse.specs.declared.shape_head.ShapeStart.{ShapeStart}
use Rattle.fx_parse.specs.declared.shape_head.ShapeStart.TheVariants as start
use Rattle.fx_parse.specs.Keywords.{keyword_of, word}
use Rattle.fx_parse.specs.Grammars.{opening, closing, comma, shape_tokens, shape_levels, shapes}
use Rattle.fx_parse.specs.Reader.{is_opening, is_closing, is_comma}
use Rattle.fx_parse.specs.ShapeReader.{keyword_shape, word_shape, shape_of}
use Rattle.fx_parse.proofs.KeywordLaws.{keyword_again}
use Rattle.fx_parse.proofs.Machine.{Table, Runs, run_on, MeansAll, built}
use Rattle.fx_parse.proofs.Tests.{passed, passed_step}
use Rattle.fx_parse.proofs.Places.{Fits}
use Rattle.fx_parse.proofs.ExprMachine.{keyword_spelled, is_open, is_close, is_part}

pub data Sym : Type 0 where
  Shape : ℕ → Sym
  Open Close Comma : Sym

abbrev pub shape_stack : ℕ → ShapeStart → Option (List Sym)
shape_stack d start.Str = Some []
shape_stack d start.Int = Some []
shape_stack d start.Bool = Some []
shape_stack d start.Names = Some []
shape_stack d start.Pair = Some (Open ∷ Shape (suc d) ∷ Comma ∷ Shape (suc d) ∷ Close ∷ [])
shape_stack d start.Opt = Some (Open ∷ Shape (suc d) ∷ Close ∷ [])
shape_stack d start.Table = Some (Open ∷ Shape (suc d) ∷ Close ∷ [])
shape_stack d start.Nothing = None

abbrev pub expand : Sym → Token → Option (List Sym)
expand (Shape d) x = shape_stack d (shape_of x)
expand Open x = passed (is_opening x)
expand Close x = passed (is_closing x)
expand Comma x = passed (is_comma x)

abbrev pub level : Sym → ℕ
level (Shape d) = d
level _ = 0

abbrev pub table : Table Sym
table = record { expand = expand; level = λ s x. level s }

pub shape_word : (k : Keyword) → shape_of (word k) ≡ keyword_shape k
shape_word k = ap word_shape (keyword_again k)

pub shape_runs : (d : ℕ) (t : ShapeTree) (stack : List Sym) → Runs table (Shape d ∷ stack) (shape_tokens t) (shape_levels d t) stack
shape_runs d ShapeTree.str stack = ([], [], ap (shape_stack d) (shape_word keyword.Str), refl, (refl, refl))
shape_runs d ShapeTree.int stack = ([], [], ap (shape_stack d) (shape_word keyword.Int), refl, (refl, refl))
shape_runs d ShapeTree.bool stack = ([], [], ap (shape_stack d) (shape_word keyword.Bool), refl, (refl, refl))
shape_runs d ShapeTree.names stack = ([], [], ap (shape_stack d) (shape_word keyword.Names), refl, (refl, refl))
shape_runs d (ShapeTree.pair a b) stack =
    let second = run_on table (shape_tokens b) (Shape (suc d) ∷ Close ∷ stack) (Close ∷ stack) stack (closing ∷ []) (shape_levels (suc d) b) (0 ∷ []) (shape_runs (suc d) b (Close ∷ stack)) ([], [], refl, refl, (refl, refl)) in
    let seconds : Runs table (Comma ∷ Shape (suc d) ∷ Close ∷ stack) (comma ∷ (shape_tokens b ++ closing ∷ [])) (0 ∷ (shape_levels (suc d) b ++ 0 ∷ [])) stack = ([], shape_levels (suc d) b ++ 0 ∷ [], refl, refl, second) in
    let first = run_on table (shape_tokens a) (Shape (suc d) ∷ Comma ∷ Shape (suc d) ∷ Close ∷ stack) (Comma ∷ Shape (suc d) ∷ Close ∷ stack) stack (comma ∷ (shape_tokens b ++ closing ∷ [])) (shape_levels (suc d) a) (0 ∷ (shape_levels (suc d) b ++ 0 ∷ [])) (shape_runs (suc d) a (Comma ∷ Shape (suc d) ∷ Close ∷ stack)) seconds in
    (Open ∷ Shape (suc d) ∷ Comma ∷ Shape (suc d) ∷ Close ∷ [], 0 ∷ (shape_levels (suc d) a ++ (0 ∷ (shape_levels (suc d) b ++ 0 ∷ []))), ap (shape_stack d) (shape_word keyword.Pair), refl, ([], shape_levels (suc d) a ++ (0 ∷ (shape_levels (suc d) b ++ 0 ∷ [])), refl, refl, first))
shape_runs d (ShapeTree.opt a) stack =
    let rest = run_on table (shape_tokens a) (Shape (suc d) ∷ Close ∷ stack) (Close ∷ stack) stack (closing ∷ []) (shape_levels (suc d) a) (0 ∷ []) (shape_runs (suc d) a (Close ∷ stack)) ([], [], refl, refl, (refl, refl)) in
    (Open ∷ Shape (suc d) ∷ Close ∷ [], 0 ∷ (shape_levels (suc d) a ++ 0 ∷ []), ap (shape_stack d) (shape_word keyword.Opt), refl, ([], shape_levels (suc d) a ++ 0 ∷ [], refl, refl, rest))
shape_runs d (ShapeTree.table a) stack =
    let rest = run_on table (shape_tokens a) (Shape (suc d) ∷ Close ∷ stack) (Close ∷ stack) stack (closing ∷ []) (shape_levels (suc d) a) (0 ∷ []) (shape_runs (suc d) a (Close ∷ stack)) ([], [], refl, refl, (refl, refl)) in
    (Open ∷ Shape (suc d) ∷ Close ∷ [], 0 ∷ (shape_levels (suc d) a ++ 0 ∷ []), ap (shape_stack d) (shape_word keyword.Table), refl, ([], shape_levels (suc d) a ++ 0 ∷ [], refl, refl, rest))

abbrev IsShape : List Token → Type 0
IsShape ts = (t : ShapeTree) × (ts ≡ shape_tokens t)

abbrev Means : Sym → List Token → Type 0
Means (Shape d) ts = IsShape ts
Means Open ts = ts ≡ opening ∷ []
Means Close ts = ts ≡ closing ∷ []
Means Comma ts = ts ≡ comma ∷ []

-- the tokens that begin so
abbrev StartSpells : ShapeStart → Token → Type 0
StartSpells start.Str x = x ≡ word keyword.Str
StartSpells start.Int x = x ≡ word keyword.Int
StartSpells start.Bool x = x ≡ word keyword.Bool
StartSpells start.Names x = x ≡ word keyword.Names
StartSpells start.Pair x = x ≡ word keyword.Pair
StartSpells start.Opt x = x ≡ word keyword.Opt
StartSpells start.Table x = x ≡ word keyword.Table
StartSpells start.Nothing x = Unit {0}

keyword_spells : (k : Keyword) → StartSpells (keyword_shape k) (word k)
keyword_spells keyword.Str = refl
keyword_spells keyword.Int = refl
keyword_spells keyword.Bool = refl
keyword_spells keyword.Names = refl
keyword_spells keyword.Pair = refl
keyword_spells keyword.Opt = refl
keyword_spells keyword.Table = refl
keyword_spells _ = tt

word_spells : (w : List ℕ) (o : Option Keyword) → keyword_of w ≡ o → StartSpells (word_shape o) (token.Word w)
word_spells w None e = tt
word_spells w (Some k) e = subst (λ x. StartSpells (keyword_shape k) x) (sym (keyword_spelled w k e)) (keyword_spells k)

start_spells : (x : Token) → StartSpells (shape_of x) x
start_spells (token.Word w) = word_spells w (keyword_of w) refl
start_spells (token.Number n) = tt
start_spells (token.Str v) = tt
start_spells (token.Mark m) = tt
start_spells token.Def = tt

abbrev Reads : List Sym → List Token → Type 0
Reads stack ts = MeansAll table Means stack ts

closed : (ts : List Token) → Reads (Close ∷ []) ts → ts ≡ closing ∷ []
closed ts p = p.2 ∙ ap (λ l. p.0 ++ l) p.4 ∙ append-nil p.0 ∙ p.3

leaf : (x : Token) (t : ShapeTree) (more : List Sym) (ts : List Token) → shape_tokens t ≡ x ∷ [] → Some [] ≡ Some more → Reads more ts → IsShape (x ∷ ts)
leaf x t more ts s e r =
    let none : [] ≡ more = cc in
    let empty : ts ≡ [] = subst (λ m. Reads m ts) (sym none) r in
    (t, ap (λ l. x ∷ l) empty ∙ sym s)

-- what stands in brackets
inside : (d : ℕ) (more : List Sym) (ts : List Token) → Some (Open ∷ Shape d ∷ Close ∷ []) ≡ Some more → Reads more ts → (a : ShapeTree) × (ts ≡ opening ∷ (shape_tokens a ++ closing ∷ []))
inside d more ts e r =
    let parts : Open ∷ Shape d ∷ Close ∷ [] ≡ more = cc in
    let p = subst (λ m. Reads m ts) (sym parts) r in
    let q = p.4 in
    let a = q.3 in
    let inner : p.1 ≡ shape_tokens a.0 ++ closing ∷ [] = q.2 ∙ ap (λ l. l ++ q.1) a.1 ∙ ap (λ l. shape_tokens a.0 ++ l) (closed q.1 q.4) in
    (a.0, p.2 ∙ ap (λ l. l ++ p.1) p.3 ∙ ap (λ l. opening ∷ l) inner)

shape_step : (d : ℕ) (x : Token) (h : ShapeStart) (more : List Sym) (ts : List Token) → StartSpells h x → shape_stack d h ≡ Some more → Reads more ts → IsShape (x ∷ ts)
shape_step d x start.Str more ts s e r = leaf x ShapeTree.str more ts (ap (λ y. y ∷ []) (sym s)) e r
shape_step d x start.Int more ts s e r = leaf x ShapeTree.int more ts (ap (λ y. y ∷ []) (sym s)) e r
shape_step d x start.Bool more ts s e r = leaf x ShapeTree.bool more ts (ap (λ y. y ∷ []) (sym s)) e r
shape_step d x start.Names more ts s e r = leaf x ShapeTree.names more ts (ap (λ y. y ∷ []) (sym s)) e r
shape_step d x start.Pair more ts s e r =
    let parts : Open ∷ Shape (suc d) ∷ Comma ∷ Shape (suc d) ∷ Close ∷ [] ≡ more = cc in
    let p = subst (λ m. Reads m ts) (sym parts) r in
    let a = p.4 in
    let k = a.4 in
    let b = k.4 in
    let second : k.1 ≡ shape_tokens b.3.0 ++ closing ∷ [] = b.2 ∙ ap (λ z. z ++ b.1) b.3.1 ∙ ap (λ z. shape_tokens b.3.0 ++ z) (closed b.1 b.4) in
    let seconds : a.1 ≡ comma ∷ (shape_tokens b.3.0 ++ closing ∷ []) = k.2 ∙ ap (λ z. z ++ k.1) k.3 ∙ ap (λ z. comma ∷ z) second in
    let first : p.1 ≡ shape_tokens a.3.0 ++ (comma ∷ (shape_tokens b.3.0 ++ closing ∷ [])) = a.2 ∙ ap (λ z. z ++ a.1) a.3.1 ∙ ap (λ z. shape_tokens a.3.0 ++ z) seconds in
    (ShapeTree.pair a.3.0 b.3.0, ap (λ y. y ∷ ts) s ∙ ap (λ z. word keyword.Pair ∷ z) (p.2 ∙ ap (λ z. z ++ p.1) p.3 ∙ ap (λ z. opening ∷ z) first))
shape_step d x start.Opt more ts s e r =
    let a = inside (suc d) more ts e r in
    (ShapeTree.opt a.0, ap (λ y. y ∷ ts) s ∙ ap (λ z. word keyword.Opt ∷ z) a.1)
shape_step d x start.Table more ts s e r =
    let a = inside (suc d) more ts e r in
    (ShapeTree.table a.0, ap (λ y. y ∷ ts) s ∙ ap (λ z. word keyword.Table ∷ z) a.1)
shape_step d x start.Nothing more ts s e r = absurd cc

step : (s : Sym) (x : Token) (more : List Sym) (ts : List Token) → expand s x ≡ Some more → Reads more ts → Means s (x ∷ ts)
step (Shape d) x more ts e r = shape_step d x (shape_of x) more ts (start_spells x) e r
step Open x more ts e r = let p = passed_step (λ m. Reads m ts) (is_opening x) more e r in ap (λ l. x ∷ l) p.1 ∙ ap (λ y. y ∷ []) (is_open x p.0)
step Close x more ts e r = let p = passed_step (λ m. Reads m ts) (is_closing x) more e r in ap (λ l. x ∷ l) p.1 ∙ ap (λ y. y ∷ []) (is_close x p.0)
step Comma x more ts e r = let p = passed_step (λ m. Reads m ts) (is_comma x) more e r in ap (λ l. x ∷ l) p.1 ∙ ap (λ y. y ∷ []) (is_part x p.0)

whole : (s : Sym) → (ts : List Token) × (l : List ℕ) × Runs table (s ∷ []) ts l []
whole (Shape d) = (word keyword.Str ∷ [], d ∷ [], ([], [], ap (shape_stack d) (shape_word keyword.Str), refl, (refl, refl)))
whole Open = (opening ∷ [], 0 ∷ [], ([], [], refl, refl, (refl, refl)))
whole Close = (closing ∷ [], 0 ∷ [], ([], [], refl, refl, (refl, refl)))
whole Comma = (comma ∷ [], 0 ∷ [], ([], [], refl, refl, (refl, refl)))

shape_means : (d : ℕ) (ts : List Token) (l : List ℕ) → Runs table (Shape d ∷ []) ts l [] → (t : ShapeTree) × (true ≡ true) × (ts ≡ shape_tokens t)
shape_means d ts l r =
    let p = built table Means step ts (Shape d ∷ []) l r in
    (p.3.0, refl, p.2 ∙ ap (λ z. p.0 ++ z) p.4 ∙ append-nil p.0 ∙ p.3.1)

pub shape_fits : Fits table shapes Shape
shape_fits = record { runs = λ d t h. shape_runs d t []; means = shape_means; whole = whole }
