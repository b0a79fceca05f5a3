-- The tokens of descriptions are read in one way.
use Rattle.std.proofs.Common.{◌≡◌, ◌∙◌, ℕ, true, ◌&&◌, List, [], ◌∷◌, ◌++◌, append_assoc, refl, sym, ap}
use Rattle.std.specs.List.{flat_map, list_all}
use Rattle.std.proofs.lemmas.Bool.{eqb-false}
use Rattle.fx_base.proofs.Booleans.{first_true, second_true}
use Rattle.fx_expr.specs.ExprTree.{ExprTree}
use Rattle.fx_expr.specs.ShapeTree.{ShapeTree}
use Rattle.fx_lex.specs.declared.token.Mark.{Mark}
use Rattle.fx_lex.specs.declared.token.Mark.TheVariants as mark
use Rattle.fx_lex.specs.declared.token.Token.TheVariants as token
use Rattle.fx_parse.specs.declared.keyword.Keyword.{Keyword}
use Rattle.fx_parse.specs.declared.keyword.Keyword.TheVariants as keyword
use Rattle.fx_parse.specs.Keywords.{word}
use Rattle.fx_parse.specs.Grammars.{closing, comma, expr_tokens, is_name, has_names}
use Rattle.fx_spec.specs.Written.{WrittenTree, DefTree}
use Rattle.fx_grammar.specs.Tokens.{Tokens, listed, spec_tokens, param_tokens, def_tokens, text_tokens, spec_names, param_names, def_names, text_names}
use Rattle.fx_laws.specs.TokenLaws.{HasOneReading}
use Rattle.fx_laws.proofs.Parts.{expr_reading, shape_reading}
use Rattle.fx_laws.proofs.Listed.{listed_reading}
use Rattle.fx_laws.proofs.Tokened.{tail_of, word_of, behind_two, behind_three, and_then, first, number, number_word, number_name, same_number}

-- each form has a number, which its first token shows
abbrev form : WrittenTree → ℕ
form WrittenTree.file = 1
form WrittenTree.dir = 2
form WrittenTree.link = 3
form (WrittenTree.focus e s) = 4
form (WrittenTree.pair v a b) = 5
form (WrittenTree.comp s v e) = 6
form (WrittenTree.opt s) = 7
form (WrittenTree.pred e) = 8
form (WrittenTree.call f args) = 0

abbrev keys : Keyword → ℕ
keys keyword.File = 1
keys keyword.Dir = 2
keys keyword.Link = 3
keys keyword.Opt = 7
keys keyword.Pred = 8
keys _ = 0

abbrev marks : Mark → ℕ
marks mark.LeftParen = 4
marks mark.LeftAngle = 5
marks mark.LeftBrace = 6
marks _ = 0

numbered : (t : WrittenTree) (x : Tokens) → spec_names t ≡ true → number keys marks (first (spec_tokens t ++ x)) ≡ form t
numbered WrittenTree.file x p = number_word keys marks keyword.File
numbered WrittenTree.dir x p = number_word keys marks keyword.Dir
numbered WrittenTree.link x p = number_word keys marks keyword.Link
numbered (WrittenTree.focus e s) x p = refl
numbered (WrittenTree.pair v a b) x p = refl
numbered (WrittenTree.comp s v e) x p = refl
numbered (WrittenTree.opt s) x p = number_word keys marks keyword.Opt
numbered (WrittenTree.pred e) x p = number_word keys marks keyword.Pred
numbered (WrittenTree.call f args) x p = number_name keys marks f (first_true (is_name f) (list_all has_names args) p)

-- an expression begins with no closing bracket
expr_begins : (e : ExprTree) (x y : Tokens) → has_names e ≡ true → expr_tokens e ++ x ≡ closing ∷ y → ⊥
expr_begins (ExprTree.str v) x y p h = cc
expr_begins (ExprTree.int n) x y p h = cc
expr_begins (ExprTree.bool b) x y p h = cc
expr_begins ExprTree.empty x y p h = cc
expr_begins (ExprTree.var w) x y p h = cc
expr_begins (ExprTree.bin op a b) x y p h = cc
expr_begins (ExprTree.un op a) x y p h = cc
expr_begins (ExprTree.choose c a b) x y p h = cc
expr_begins (ExprTree.only a glob) x y p h = cc

exprs_reading : (es fs : List ExprTree) (x y : Tokens) → list_all has_names es ≡ true → list_all has_names fs ≡ true → listed expr_tokens es ++ closing ∷ x ≡ listed expr_tokens fs ++ closing ∷ y
    → (es ≡ fs) × (x ≡ y)
exprs_reading = listed_reading expr_tokens has_names expr_reading expr_begins

pub spec_reading : HasOneReading spec_tokens spec_names
spec_reading WrittenTree.file WrittenTree.file x y p q h = (refl, tail_of _ _ _ _ h)
spec_reading WrittenTree.dir WrittenTree.dir x y p q h = (refl, tail_of _ _ _ _ h)
spec_reading WrittenTree.link WrittenTree.link x y p q h = (refl, tail_of _ _ _ _ h)
spec_reading (WrittenTree.focus e s) (WrittenTree.focus f r) x y p q h =
    let one = expr_reading e f _ _ (first_true (has_names e) (spec_names s) p) (first_true (has_names f) (spec_names r) q) (behind_three (expr_tokens e) (token.Mark mark.ColonColon ∷ spec_tokens s) (closing ∷ []) x (expr_tokens f) (token.Mark mark.ColonColon ∷ spec_tokens r) (closing ∷ []) y (tail_of _ _ _ _ h)) in
    let two = spec_reading s r (closing ∷ x) (closing ∷ y) (second_true (has_names e) (spec_names s) p) (second_true (has_names f) (spec_names r) q) (tail_of _ _ _ _ one.1) in
    (let same : e ≡ f = one.0 in let rest : s ≡ r = two.0 in cc, tail_of _ _ _ _ two.1)
spec_reading (WrittenTree.pair v a b) (WrittenTree.pair w c d) x y p q h =
    let words = tail_of _ _ _ _ h in
    let p' = second_true (is_name v) (spec_names a && spec_names b) p in
    let q' = second_true (is_name w) (spec_names c && spec_names d) q in
    let one = spec_reading a c _ _ (first_true (spec_names a) (spec_names b) p') (first_true (spec_names c) (spec_names d) q') (behind_three (spec_tokens a) (comma ∷ spec_tokens b) (token.Mark mark.RightAngle ∷ []) x (spec_tokens c) (comma ∷ spec_tokens d) (token.Mark mark.RightAngle ∷ []) y (tail_of _ _ _ _ (tail_of _ _ _ _ words))) in
    let two = spec_reading b d (token.Mark mark.RightAngle ∷ x) (token.Mark mark.RightAngle ∷ y) (second_true (spec_names a) (spec_names b) p') (second_true (spec_names c) (spec_names d) q') (tail_of _ _ _ _ one.1) in
    (let name : v ≡ w = word_of _ _ _ _ words in let same : a ≡ c = one.0 in let rest : b ≡ d = two.0 in cc, tail_of _ _ _ _ two.1)
spec_reading (WrittenTree.comp s v e) (WrittenTree.comp r w f) x y p q h =
    let p' = second_true (spec_names s) (is_name v && has_names e) p in
    let q' = second_true (spec_names r) (is_name w && has_names f) q in
    let one = spec_reading s r _ _ (first_true (spec_names s) (is_name v && has_names e) p) (first_true (spec_names r) (is_name w && has_names f) q) (behind_three (spec_tokens s) (token.Mark mark.Bar ∷ token.Word v ∷ word keyword.In ∷ expr_tokens e) (token.Mark mark.RightBrace ∷ []) x (spec_tokens r) (token.Mark mark.Bar ∷ token.Word w ∷ word keyword.In ∷ expr_tokens f) (token.Mark mark.RightBrace ∷ []) y (tail_of _ _ _ _ h)) in
    let words = tail_of _ _ _ _ one.1 in
    let two = expr_reading e f (token.Mark mark.RightBrace ∷ x) (token.Mark mark.RightBrace ∷ y) (second_true (is_name v) (has_names e) p') (second_true (is_name w) (has_names f) q') (tail_of _ _ _ _ (tail_of _ _ _ _ words)) in
    (let same : s ≡ r = one.0 in let name : v ≡ w = word_of _ _ _ _ words in let rest : e ≡ f = two.0 in cc, tail_of _ _ _ _ two.1)
spec_reading (WrittenTree.opt s) (WrittenTree.opt r) x y p q h =
    let one = spec_reading s r (closing ∷ x) (closing ∷ y) p q (behind_two (spec_tokens s) (closing ∷ []) x (spec_tokens r) (closing ∷ []) y (tail_of _ _ _ _ (tail_of _ _ _ _ h))) in
    (ap WrittenTree.opt one.0, tail_of _ _ _ _ one.1)
spec_reading (WrittenTree.pred e) (WrittenTree.pred f) x y p q h =
    let one = expr_reading e f (closing ∷ x) (closing ∷ y) p q (behind_two (expr_tokens e) (closing ∷ []) x (expr_tokens f) (closing ∷ []) y (tail_of _ _ _ _ (tail_of _ _ _ _ h))) in
    (ap WrittenTree.pred one.0, tail_of _ _ _ _ one.1)
spec_reading (WrittenTree.call f es) (WrittenTree.call g fs) x y p q h =
    let named = tail_of _ _ _ _ h in
    let args = exprs_reading es fs x y (second_true (is_name f) (list_all has_names es) p) (second_true (is_name g) (list_all has_names fs) q)
    (behind_two (listed expr_tokens es) (closing ∷ []) x (listed expr_tokens fs) (closing ∷ []) y (tail_of _ _ _ _ named)) in
    (let name : f ≡ g = word_of _ _ _ _ h in let same : es ≡ fs = args.0 in cc, args.1)
spec_reading t u x y p q h = absurd (eqb-false (form t) (form u) refl (same_number keys marks (spec_tokens t ++ x) (spec_tokens u ++ y) (form t) (form u) (numbered t x p) (numbered u y q) h))

-- ---- definitions and texts

param_reading : HasOneReading param_tokens param_names
param_reading (v, s) (w, t) x y p q h =
    let shape = shape_reading s t x y refl refl (tail_of _ _ _ _ (tail_of _ _ _ _ h)) in
    (let name : v ≡ w = word_of _ _ _ _ h in let same : s ≡ t = shape.0 in cc, shape.1)

param_begins : (p : List ℕ × ShapeTree) (x y : Tokens) → param_names p ≡ true → param_tokens p ++ x ≡ closing ∷ y → ⊥
param_begins p x y is h = cc

pub def_reading : HasOneReading def_tokens def_names
def_reading d e x y p q h =
    let name : d.name ≡ e.name = word_of _ _ _ _ (tail_of _ _ _ _ h) in
    let p' = second_true (is_name d.name) (list_all param_names d.params && spec_names d.body) p in
    let q' = second_true (is_name e.name) (list_all param_names e.params && spec_names e.body) q in
    let params = listed_reading param_tokens param_names param_reading param_begins d.params e.params _ _ (first_true (list_all param_names d.params) (spec_names d.body) p')
    (first_true (list_all param_names e.params) (spec_names e.body) q')
    (behind_three (listed param_tokens d.params) (closing ∷ []) (token.Mark mark.Equal ∷ spec_tokens d.body) x (listed param_tokens e.params) (closing ∷ []) (token.Mark mark.Equal ∷ spec_tokens e.body) y
    (tail_of _ _ _ _ (tail_of _ _ _ _ (tail_of _ _ _ _ h)))) in
    let body = spec_reading d.body e.body x y (second_true (list_all param_names d.params) (spec_names d.body) p') (second_true (list_all param_names e.params) (spec_names e.body) q') (tail_of _ _ _ _ params.1) in
    (let same : d.params ≡ e.params = params.0 in let rest : d.body ≡ e.body = body.0 in λ i. record { name = name i; params = same i; body = rest i }, body.1)

-- what stands at the root is no definition
no_def : (t : WrittenTree) (x y : Tokens) → spec_tokens t ++ x ≡ token.Def ∷ y → ⊥
no_def WrittenTree.file x y h = cc
no_def WrittenTree.dir x y h = cc
no_def WrittenTree.link x y h = cc
no_def (WrittenTree.focus e s) x y h = cc
no_def (WrittenTree.pair v a b) x y h = cc
no_def (WrittenTree.comp s v e) x y h = cc
no_def (WrittenTree.opt s) x y h = cc
no_def (WrittenTree.pred e) x y h = cc
no_def (WrittenTree.call f args) x y h = cc

defs_reading : (ds es : List DefTree) (s t : WrittenTree) (x y : Tokens) → list_all def_names ds && spec_names s ≡ true → list_all def_names es && spec_names t ≡ true
    → flat_map def_tokens ds ++ (spec_tokens s ++ x) ≡ flat_map def_tokens es ++ (spec_tokens t ++ y) → (ds ≡ es) × (s ≡ t) × (x ≡ y)
defs_reading [] [] s t x y p q h = let root = spec_reading s t x y p q h in (refl, root.0, root.1)
defs_reading [] (e ∷ es) s t x y p q h = absurd (no_def s x _ h)
defs_reading (d ∷ ds) [] s t x y p q h = absurd (no_def t y _ (sym h))
defs_reading (d ∷ ds) (e ∷ es) s t x y p q h =
    let parts = λ (c : DefTree) (cs : List DefTree) (r : WrittenTree) (z : Tokens). append_assoc (def_tokens c) (flat_map def_tokens cs) (spec_tokens r ++ z) in
    let ps = and_then (def_names d) (list_all def_names ds) (spec_names s) p in
    let qs = and_then (def_names e) (list_all def_names es) (spec_names t) q in
    let one = def_reading d e _ _ ps.0 qs.0 (sym (parts d ds s x) ∙ h ∙ parts e es t y) in
    let rest = defs_reading ds es s t x y ps.1 qs.1 one.1 in
    ((λ i. one.0 i ∷ rest.0 i), rest.1, rest.2)

pub text_reading : HasOneReading text_tokens text_names
text_reading t u x y p q h =
    let all = defs_reading t.defs u.defs t.root u.root x y p q (behind_two (flat_map def_tokens t.defs) (spec_tokens t.root) x (flat_map def_tokens u.defs) (spec_tokens u.root) y h) in
    ((λ i. record { defs = all.0 i; root = all.1 i }), all.2)
