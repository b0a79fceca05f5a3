-- What empties the stack of the machine is the tokens of descriptions and their definitions.
use Rattle.std.proofs.Common.{◌≡◌, ℕ, suc, Bool, true, false, Option, Some, None, List, [], ◌∷◌, ◌++◌, refl, sym, ap, ◌∙◌, subst, append_assoc}
use Rattle.std.specs.Prelude.{is_none}
use Rattle.std.specs.List.{flat_map, list_all}
use Rattle.std.proofs.lemmas.List.{append-nil}
use Rattle.std.proofs.lemmas.Bool.{and_parts, and_from}
use Rattle.fx_expr.specs.ExprTree.{ExprTree}
use Rattle.fx_expr.specs.ShapeTree.{ShapeTree}
use Rattle.fx_lex.specs.declared.token.Token.{Token}
use Rattle.fx_lex.specs.declared.token.Token.TheVariants as token
use Rattle.fx_lex.specs.declared.token.Mark.{Mark}
use Rattle.fx_lex.specs.declared.token.Mark.TheVariants as mark
use Rattle.fx_parse.specs.declared.keyword.Keyword.{Keyword}
use Rattle.fx_parse.specs.declared.keyword.Keyword.TheVariants as keyword
use Rattle.fx_parse.specs.declared.sign.Sign.{Sign}
use Rattle.fx_parse.specs.declared.sign.Sign.TheVariants as sign
use Rattle.fx_parse.specs.Keywords.{keyword_of, word}
use Rattle.fx_parse.specs.Grammars.{opening, closing, comma, expr_tokens, shape_tokens, is_name, has_names}
use Rattle.fx_parse.specs.Signs.{sign_token, is_sign}
use Rattle.fx_parse.proofs.Finds.{is_no_keyword}
use Rattle.fx_parse.proofs.Machine.{Runs, MeansAll, means_split, built}
use Rattle.fx_parse.proofs.Places.{Fits}
use Rattle.fx_parse.proofs.ExprMachine as inner
use Rattle.fx_parse.proofs.ExprMachine.{Expr, keyword_spelled, expr_fits}
use Rattle.fx_parse.proofs.ShapeMachine as shape
use Rattle.fx_parse.proofs.ShapeMachine.{Shape, shape_fits}
use Rattle.fx_parse.proofs.Signs.{sign_is, names, name_is}
use Rattle.fx_parse.proofs.Steps.{ran, takes}
use Rattle.fx_parse.proofs.Tests.{passed, passed_step}
use Rattle.fx_parse.proofs.Within.{run_within, Over, part_step}
use Rattle.fx_spec.specs.Written.{WrittenTree, DefTree, TextTree}
use Rattle.fx_grammar.specs.Tokens.{listed, spec_tokens, param_tokens, def_tokens, text_tokens, spec_names, param_names, def_names, text_names}
use Rattle.fx_grammar.specs.Grammars.{descriptions}
use Rattle.fx_source_parse.specs.declared.spec.start.Start.{Start}
use Rattle.fx_source_parse.specs.declared.spec.start.Start.TheVariants as start
use Rattle.fx_source_parse.specs.Descriptions.Reader.{keyword_start, word_start, mark_start, start_of}
use Rattle.fx_source_parse.proofs.Descriptions.Machine.{Kind, Arg, Param, Sym, Text, Def, Spec, First, More, Part, Shaped, Name, Fixed, start_stack, part_top, part_after, top_stack, first_stack, more_stack, def_stack, text_stack, table, holds, shape_holds, focus_tokens, pair_tokens, comp_tokens, def_list, def_parts, a_sign, a_name, spec_runs, def_runs, text_runs}

record IsSpec (ts : List Token) : Type 0 where
  tree : WrittenTree
  right : spec_names tree ≡ true
  spelled : ts ≡ spec_tokens tree

record IsDef (ts : List Token) : Type 0 where
  tree : DefTree
  right : def_names tree ≡ true
  spelled : ts ≡ def_list tree

record IsText (ts : List Token) : Type 0 where
  tree : TextTree
  right : text_names tree ≡ true
  spelled : ts ≡ text_tokens tree

module _ {X : Type 0} (tokens : X → List Token) (right : X → Bool) where
  -- a part
  record IsPart (ts : List Token) : Type 0 where
    tree : X
    good : right tree ≡ true
    spelled : ts ≡ tokens tree

  -- parts with commas between them, and those behind a part, up to the bracket
  record AreListed (ts : List Token) : Type 0 where
    parts : List X
    good : list_all right parts ≡ true
    spelled : ts ≡ listed tokens parts ++ closing ∷ []

  record AreOthers (ts : List Token) : Type 0 where
    parts : List X
    good : list_all right parts ≡ true
    spelled : ts ≡ flat_map (λ q. comma ∷ tokens q) parts ++ closing ∷ []

abbrev AreArgs : List Token → Type 0
AreArgs ts = AreListed expr_tokens has_names ts

abbrev AreParams : List Token → Type 0
AreParams ts = AreListed param_tokens param_names ts

-- what each symbol stands for
abbrev Means : Sym → List Token → Type 0
Means (Text d) ts = IsText ts
Means (Def d) ts = IsDef ts
Means (Spec d) ts = IsSpec ts
Means (First Arg d) ts = AreArgs ts
Means (First Param d) ts = AreParams ts
Means (More Arg d) ts = AreOthers expr_tokens has_names ts
Means (More Param d) ts = AreOthers param_tokens param_names ts
Means (Part s) ts = Over inner.table s ts
Means (Shaped s) ts = Over shape.table s ts
Means Name ts = (w : List ℕ) × (is_name w ≡ true) × (ts ≡ token.Word w ∷ [])
Means (Fixed s) ts = ts ≡ sign_token s ∷ []

abbrev All : List Sym → List Token → Type 0
All stack ts = MeansAll table Means stack ts

-- the tokens are what the stack stands for
record Reads (stack : List Sym) (ts : List Token) : Type 0 where
  means : All stack ts

-- what stands behind a first symbol
record AfterSign (s : Sign) (stack : List Sym) (ts : List Token) : Type 0 where
  rest : List Token
  parts : ts ≡ sign_token s ∷ rest
  reads : Reads stack rest

record AfterName (stack : List Sym) (ts : List Token) : Type 0 where
  name : List ℕ
  right : is_name name ≡ true
  rest : List Token
  parts : ts ≡ token.Word name ∷ rest
  reads : Reads stack rest

record AfterSpec (stack : List Sym) (ts : List Token) : Type 0 where
  tree : WrittenTree
  right : spec_names tree ≡ true
  rest : List Token
  parts : ts ≡ spec_tokens tree ++ rest
  reads : Reads stack rest

record AfterExpr (stack : List Sym) (ts : List Token) : Type 0 where
  tree : ExprTree
  right : has_names tree ≡ true
  rest : List Token
  parts : ts ≡ expr_tokens tree ++ rest
  reads : Reads stack rest

record AfterShape (stack : List Sym) (ts : List Token) : Type 0 where
  tree : ShapeTree
  rest : List Token
  parts : ts ≡ shape_tokens tree ++ rest
  reads : Reads stack rest

record AfterListed {X : Type 0} (tokens : X → List Token) (right : X → Bool) (stack : List Sym) (ts : List Token) : Type 0 where
  trees : List X
  good : list_all right trees ≡ true
  rest : List Token
  parts : ts ≡ listed tokens trees ++ closing ∷ rest
  reads : Reads stack rest

after_sign : {s : Sign} {stack : List Sym} {ts : List Token} → Reads (Fixed s ∷ stack) ts → AfterSign s stack ts
after_sign r = let p = r.means in record { rest = p.1; parts = p.2 ∙ ap (λ a. a ++ p.1) p.3; reads = record { means = p.4 } }

after_name : {stack : List Sym} {ts : List Token} → Reads (Name ∷ stack) ts → AfterName stack ts
after_name r =
    let p = r.means in
    record { name = p.3.0; right = p.3.1; rest = p.1; parts = p.2 ∙ ap (λ a. a ++ p.1) p.3.2; reads = record { means = p.4 } }

after_spec : {d : ℕ} {stack : List Sym} {ts : List Token} → Reads (Spec d ∷ stack) ts → AfterSpec stack ts
after_spec r =
    let p = r.means in
    record { tree = p.3.tree; right = p.3.right; rest = p.1; parts = p.2 ∙ ap (λ a. a ++ p.1) p.3.spelled; reads = record { means = p.4 } }

after_expr : {d : ℕ} {stack : List Sym} {ts : List Token} → Reads (Part (Expr d) ∷ stack) ts → AfterExpr stack ts
after_expr {d} r =
    let p = r.means in
    let e = expr_fits.means d p.0 p.3.0 p.3.1 in
    record { tree = e.0; right = e.1; rest = p.1; parts = p.2 ∙ ap (λ a. a ++ p.1) e.2; reads = record { means = p.4 } }

after_shape : {d : ℕ} {stack : List Sym} {ts : List Token} → Reads (Shaped (Shape d) ∷ stack) ts → AfterShape stack ts
after_shape {d} r =
    let p = r.means in
    let e = shape_fits.means d p.0 p.3.0 p.3.1 in
    record { tree = e.0; rest = p.1; parts = p.2 ∙ ap (λ a. a ++ p.1) e.2; reads = record { means = p.4 } }

listed_then : {X : Type 0} (tokens : X → List Token) (right : X → Bool) {stack : List Sym} {ts : List Token} (a b : List Token) → ts ≡ a ++ b → AreListed tokens right a → All stack b → AfterListed tokens right stack ts
listed_then tokens right a b e l r = record {
  trees = l.parts;
  good = l.good;
  rest = b;
  parts = e ∙ ap (λ z. z ++ b) l.spelled ∙ append_assoc (listed tokens l.parts) (closing ∷ []) b;
  reads = record { means = r };
}

after_args : {d : ℕ} {stack : List Sym} {ts : List Token} → Reads (First Arg d ∷ stack) ts → AfterListed expr_tokens has_names stack ts
after_args r = let p = r.means in listed_then expr_tokens has_names p.0 p.1 p.2 p.3 p.4

after_params : {d : ℕ} {stack : List Sym} {ts : List Token} → Reads (First Param d ∷ stack) ts → AfterListed param_tokens param_names stack ts
after_params r = let p = r.means in listed_then param_tokens param_names p.0 p.1 p.2 p.3 p.4

empty : {ts : List Token} → Reads [] ts → ts ≡ []
empty r = r.means

-- the tokens that begin so
abbrev StartSpells : Start → Token → Type 0
StartSpells start.File x = x ≡ word keyword.File
StartSpells start.Dir x = x ≡ word keyword.Dir
StartSpells start.Link x = x ≡ word keyword.Link
StartSpells start.Focus x = x ≡ opening
StartSpells start.Pair x = x ≡ token.Mark mark.LeftAngle
StartSpells start.Comp x = x ≡ token.Mark mark.LeftBrace
StartSpells start.Opt x = x ≡ word keyword.Opt
StartSpells start.Pred x = x ≡ word keyword.Pred
StartSpells (start.Call f) x = (is_name f ≡ true) × (x ≡ token.Word f)
StartSpells start.Nothing x = Unit {0}

keyword_spells : (k : Keyword) → StartSpells (keyword_start k) (word k)
keyword_spells keyword.File = refl
keyword_spells keyword.Dir = refl
keyword_spells keyword.Link = refl
keyword_spells keyword.Opt = refl
keyword_spells keyword.Pred = refl
keyword_spells _ = tt

word_spells : (w : List ℕ) (o : Option Keyword) → keyword_of w ≡ o → StartSpells (word_start w o) (token.Word w)
word_spells w None e = (is_no_keyword w ∙ ap is_none e, refl)
word_spells w (Some k) e = subst (λ x. StartSpells (keyword_start k) x) (sym (keyword_spelled w k e)) (keyword_spells k)

mark_spells : (m : Mark) → StartSpells (mark_start m) (token.Mark m)
mark_spells mark.LeftParen = refl
mark_spells mark.LeftAngle = refl
mark_spells mark.LeftBrace = refl
mark_spells _ = tt

start_spells : (x : Token) → StartSpells (start_of x) x
start_spells (token.Word w) = word_spells w (keyword_of w) refl
start_spells (token.Number n) = tt
start_spells (token.Str v) = tt
start_spells (token.Mark m) = mark_spells m
start_spells token.Def = tt

leaf : (x : Token) (t : WrittenTree) (more : List Sym) (ts : List Token) → spec_names t ≡ true → spec_tokens t ≡ x ∷ [] → Some [] ≡ Some more → All more ts → IsSpec (x ∷ ts)
leaf x t more ts right s e r =
    let none : [] ≡ more = cc in
    let end : ts ≡ [] = subst (λ m. All m ts) (sym none) r in
    record { tree = t; right = right; spelled = ap (λ l. x ∷ l) end ∙ sym s }

-- the parts of a form
parts_of : (stack more : List Sym) (ts : List Token) → Some stack ≡ Some more → All more ts → Reads stack ts
parts_of stack more ts e r =
    let same : stack ≡ more = cc in
    record { means = subst (λ m. All m ts) (sym same) r }

spec_step : (d : ℕ) (x : Token) (h : Start) (more : List Sym) (ts : List Token) → StartSpells h x → start_stack d h ≡ Some more → All more ts → IsSpec (x ∷ ts)
spec_step d x start.File more ts s e r = leaf x WrittenTree.file more ts refl (ap (λ y. y ∷ []) (sym s)) e r
spec_step d x start.Dir more ts s e r = leaf x WrittenTree.dir more ts refl (ap (λ y. y ∷ []) (sym s)) e r
spec_step d x start.Link more ts s e r = leaf x WrittenTree.link more ts refl (ap (λ y. y ∷ []) (sym s)) e r
spec_step d x start.Focus more ts s e r =
    let a = after_expr (parts_of (Part (Expr (suc d)) ∷ Fixed sign.ColonColon ∷ Spec (suc d) ∷ Fixed sign.RightParen ∷ []) more ts e r) in
    let b = after_sign a.reads in
    let t = after_spec b.reads in
    let z = after_sign t.reads in
    let spelled : x ∷ ts ≡ opening ∷ (expr_tokens a.tree ++ (token.Mark mark.ColonColon ∷ (spec_tokens t.tree ++ closing ∷ []))) = cc (a.parts, b.parts, t.parts, z.parts, empty z.reads, s) in
    record { tree = WrittenTree.focus a.tree t.tree; right = and_from _ _ a.right t.right; spelled = spelled ∙ sym (focus_tokens a.tree t.tree) }
spec_step d x start.Pair more ts s e r =
    let n = after_name (parts_of (Name ∷ Fixed sign.Colon ∷ Spec (suc d) ∷ Fixed sign.Comma ∷ Spec (suc d) ∷ Fixed sign.RightAngle ∷ []) more ts e r) in
    let b = after_sign n.reads in
    let t = after_spec b.reads in
    let k = after_sign t.reads in
    let u = after_spec k.reads in
    let z = after_sign u.reads in
    let spelled : x ∷ ts ≡ token.Mark mark.LeftAngle ∷ token.Word n.name ∷ token.Mark mark.Colon ∷ (spec_tokens t.tree ++ (comma ∷ (spec_tokens u.tree ++ token.Mark mark.RightAngle ∷ []))) = cc (n.parts, b.parts, t.parts, k.parts, u.parts, z.parts, empty z.reads, s) in
    record { tree = WrittenTree.pair n.name t.tree u.tree; right = and_from _ _ n.right (and_from _ _ t.right u.right); spelled = spelled ∙ sym (pair_tokens n.name t.tree u.tree) }
spec_step d x start.Comp more ts s e r =
    let t = after_spec (parts_of (Spec (suc d) ∷ Fixed sign.Bar ∷ Name ∷ Fixed sign.In ∷ Part (Expr (suc d)) ∷ Fixed sign.RightBrace ∷ []) more ts e r) in
    let b = after_sign t.reads in
    let n = after_name b.reads in
    let i = after_sign n.reads in
    let a = after_expr i.reads in
    let z = after_sign a.reads in
    let spelled : x ∷ ts ≡ token.Mark mark.LeftBrace ∷ (spec_tokens t.tree ++ (token.Mark mark.Bar ∷ token.Word n.name ∷ word keyword.In ∷ (expr_tokens a.tree ++ token.Mark mark.RightBrace ∷ []))) = cc (t.parts, b.parts, n.parts, i.parts, a.parts, z.parts, empty z.reads, s) in
    record { tree = WrittenTree.comp t.tree n.name a.tree; right = and_from _ _ t.right (and_from _ _ n.right a.right); spelled = spelled ∙ sym (comp_tokens t.tree n.name a.tree) }
spec_step d x start.Opt more ts s e r =
    let b = after_sign (parts_of (Fixed sign.LeftParen ∷ Spec (suc d) ∷ Fixed sign.RightParen ∷ []) more ts e r) in
    let t = after_spec b.reads in
    let z = after_sign t.reads in
    record { tree = WrittenTree.opt t.tree; right = t.right; spelled = cc (b.parts, t.parts, z.parts, empty z.reads, s) }
spec_step d x start.Pred more ts s e r =
    let b = after_sign (parts_of (Fixed sign.LeftParen ∷ Part (Expr (suc d)) ∷ Fixed sign.RightParen ∷ []) more ts e r) in
    let a = after_expr b.reads in
    let z = after_sign a.reads in
    record { tree = WrittenTree.pred a.tree; right = a.right; spelled = cc (b.parts, a.parts, z.parts, empty z.reads, s) }
spec_step d x (start.Call f) more ts s e r =
    let b = after_sign (parts_of (Fixed sign.LeftParen ∷ First Arg (suc d) ∷ []) more ts e r) in
    let a = after_args b.reads in
    let name : x ≡ token.Word f = s.1 in
    record { tree = WrittenTree.call f a.trees; right = and_from _ _ s.0 a.good; spelled = cc (b.parts, a.parts, empty a.reads, name) }
spec_step d x start.Nothing more ts s e r = absurd cc

def_step : (d : ℕ) (x : Token) (b : Bool) (more : List Sym) (ts : List Token) → is_sign sign.Def x ≡ b → def_stack d b ≡ Some more → All more ts → IsDef (x ∷ ts)
def_step d x true more ts h e r =
    let n = after_name (parts_of (Name ∷ Fixed sign.LeftParen ∷ First Param (suc d) ∷ Fixed sign.Equal ∷ Spec (suc d) ∷ []) more ts e r) in
    let b = after_sign n.reads in
    let p = after_params b.reads in
    let k = after_sign p.reads in
    let s = after_spec k.reads in
    let first : x ≡ token.Def = sign_is sign.Def x h in
    let last : ts ≡ token.Word n.name ∷ opening ∷ (listed param_tokens p.trees ++ closing ∷ token.Mark mark.Equal ∷ (spec_tokens s.tree ++ [])) = cc (n.parts, b.parts, p.parts, k.parts, s.parts, empty s.reads) in
    let end = append-nil (spec_tokens s.tree) in
    let tree : DefTree = record { name = n.name; params = p.trees; body = s.tree } in
    record {
      tree = tree;
      right = and_from _ _ n.right (and_from _ _ p.good s.right);
      spelled = ap (λ y. y ∷ ts) first ∙ ap (λ l. token.Def ∷ l) (last ∙ ap (λ l. token.Word n.name ∷ opening ∷ (listed param_tokens p.trees ++ closing ∷ token.Mark mark.Equal ∷ l)) end);
    }
def_step d x false more ts h e r = absurd cc

-- a definition at the front of a text, and a text without definitions
more_text : (x : Token) (a b : List Token) → IsDef (x ∷ a) → IsText b → IsText (x ∷ (a ++ b))
more_text x a b f t =
    let hs = and_parts (list_all def_names t.tree.defs) (spec_names t.tree.root) t.right in
    let front : x ∷ a ≡ def_tokens f.tree = f.spelled ∙ sym (def_parts f.tree) in
    record {
      tree = record { defs = f.tree ∷ t.tree.defs; root = t.tree.root };
      right = and_from _ _ (and_from _ _ f.right hs.0) hs.1;
      spelled = ap (λ l. l ++ b) front ∙ ap (λ l. def_tokens f.tree ++ l) t.spelled ∙ sym (append_assoc (def_tokens f.tree) (flat_map def_tokens t.tree.defs) (spec_tokens t.tree.root));
    }

text_step : (d : ℕ) (x : Token) (o : Option (List Sym)) (more : List Sym) (ts : List Token) → def_stack d (is_sign sign.Def x) ≡ o → text_stack d o (start_stack d (start_of x)) ≡ Some more → All more ts → IsText (x ∷ ts)
text_step d x None more ts h e r =
    let s = spec_step d x (start_of x) more ts (start_spells x) e r in
    record { tree = record { defs = []; root = s.tree }; right = s.right; spelled = s.spelled }
text_step d x (Some k) more ts h e r =
    let all = parts_of (k ++ Text d ∷ []) more ts e r in
    let p = means_split table Means k (Text d ∷ []) ts all.means in
    let one = def_step d x (is_sign sign.Def x) k p.0 refl h p.3 in
    let q = p.4 in
    let end : p.1 ≡ q.0 = q.2 ∙ ap (λ l. q.0 ++ l) q.4 ∙ append-nil q.0 in
    subst IsText (ap (λ l. x ∷ l) (sym p.2)) (more_text x p.0 p.1 one (subst IsText (sym end) q.3))

part_only : (stack : List Sym) (ts : List Token) → All stack ts → Reads stack ts
part_only stack ts r = record { means = r }

arg_of : (d : ℕ) (ts : List Token) → All (part_top Arg d ∷ part_after Arg d) ts → IsPart expr_tokens has_names ts
arg_of d ts r =
    let a = after_expr (part_only (Part (Expr d) ∷ []) ts r) in
    record { tree = a.tree; good = a.right; spelled = a.parts ∙ ap (λ l. expr_tokens a.tree ++ l) (empty a.reads) ∙ append-nil (expr_tokens a.tree) }

param_of : (d : ℕ) (ts : List Token) → All (part_top Param d ∷ part_after Param d) ts → IsPart param_tokens param_names ts
param_of d ts r =
    let n = after_name (part_only (Name ∷ Fixed sign.Colon ∷ Shaped (Shape d) ∷ []) ts r) in
    let b = after_sign n.reads in
    let s = after_shape b.reads in
    record {
      tree = (n.name, s.tree);
      good = n.right;
      spelled = n.parts ∙ ap (λ l. token.Word n.name ∷ l) (b.parts ∙ ap (λ l. token.Mark mark.Colon ∷ l) (s.parts ∙ ap (λ l. shape_tokens s.tree ++ l) (empty s.reads) ∙ append-nil (shape_tokens s.tree)));
    }

name_step : (x : Token) (more : List Sym) (ts : List Token) → passed (names x) ≡ Some more → All more ts → Means Name (x ∷ ts)
name_step x more ts e r =
    let p = passed_step (λ m. All m ts) (names x) more e r in
    let n = name_is x p.0 in
    (n.0, n.1, ap (λ l. x ∷ l) p.1 ∙ ap (λ y. y ∷ []) n.2)

top_step : (k : Kind) (d : ℕ) (x : Token) (more : List Sym) (ts : List Token) → top_stack k d x ≡ Some more → All more ts → Means (part_top k d) (x ∷ ts)
top_step Arg d x more ts e r = part_step inner.table table Part holds Means (λ s ts over. over) (Expr d) x more ts e r
top_step Param d x more ts e r = name_step x more ts e r

-- the parts of a list, where it is said of what stands between commas
module _ (k : Kind) (d : ℕ) {X : Type 0} (tokens : X → List Token) (right : X → Bool) (part : (ts : List Token) → All (part_top k d ∷ part_after k d) ts → IsPart tokens right ts) (others : (ts : List Token) → Means (More k d) ts → AreOthers tokens right ts) where
  others_of : (ts : List Token) → All (More k d ∷ []) ts → AreOthers tokens right ts
  others_of ts r =
      let end : ts ≡ r.0 = r.2 ∙ ap (λ l. r.0 ++ l) r.4 ∙ append-nil r.0 in
      subst (AreOthers tokens right) (sym end) (others r.0 r.3)

  close_listed : (x : Token) (more : List Sym) (ts : List Token) → is_sign sign.RightParen x ≡ true → Some [] ≡ Some more → All more ts → x ∷ ts ≡ closing ∷ []
  close_listed x more ts h e r = ap (λ l. x ∷ l) (empty (parts_of [] more ts e r)) ∙ ap (λ y. y ∷ []) (sign_is sign.RightParen x h)

  -- a part before others
  joined : (x : X) (xs : List X) (ts : List Token) → ts ≡ flat_map (λ q. comma ∷ tokens q) xs ++ closing ∷ [] → tokens x ++ ts ≡ listed tokens (x ∷ xs) ++ closing ∷ []
  joined x xs ts e = ap (λ l. tokens x ++ l) e ∙ sym (append_assoc (tokens x) (flat_map (λ q. comma ∷ tokens q) xs) (closing ∷ []))

  first_step : (x : Token) (close : Bool) (o : Option (List Sym)) (more : List Sym) (ts : List Token) → is_sign sign.RightParen x ≡ close → top_stack k d x ≡ o → first_stack k d close o ≡ Some more → All more ts → AreListed tokens right (x ∷ ts)
  first_step x true o more ts h g e r = record { parts = []; good = refl; spelled = close_listed x more ts h e r }
  first_step x false None more ts h g e r = absurd cc
  first_step x false (Some m) more ts h g e r =
      let all = parts_of (m ++ (part_after k d ++ More k d ∷ [])) more ts e r in
      let p = means_split table Means m (part_after k d ++ More k d ∷ []) ts all.means in
      let q = means_split table Means (part_after k d) (More k d ∷ []) p.1 p.4 in
      let top = top_step k d x m p.0 g p.3 in
      let one = part (x ∷ (p.0 ++ q.0)) (x ∷ p.0, q.0, refl, top, q.3) in
      let behind = others_of q.1 q.4 in
      let cut : ts ≡ (p.0 ++ q.0) ++ q.1 = p.2 ∙ ap (λ l. p.0 ++ l) q.2 ∙ sym (append_assoc p.0 q.0 q.1) in
      record {
        parts = one.tree ∷ behind.parts;
        good = and_from _ _ one.good behind.good;
        spelled = ap (λ l. x ∷ l) cut ∙ ap (λ l. l ++ q.1) one.spelled ∙ joined one.tree behind.parts q.1 behind.spelled;
      }

  more_step : (x : Token) (close another : Bool) (more : List Sym) (ts : List Token) → is_sign sign.RightParen x ≡ close → is_sign sign.Comma x ≡ another → more_stack k d close another ≡ Some more → All more ts → AreOthers tokens right (x ∷ ts)
  more_step x true another more ts h g e r = record { parts = []; good = refl; spelled = close_listed x more ts h e r }
  more_step x false false more ts h g e r = absurd cc
  more_step x false true more ts h g e r =
      let all = parts_of (part_top k d ∷ (part_after k d ++ More k d ∷ [])) more ts e r in
      let q = means_split table Means (part_top k d ∷ part_after k d) (More k d ∷ []) ts all.means in
      let one = part q.0 q.3 in
      let behind = others_of q.1 q.4 in
      record {
        parts = one.tree ∷ behind.parts;
        good = and_from _ _ one.good behind.good;
        spelled = ap (λ y. y ∷ ts) (sign_is sign.Comma x g) ∙ ap (λ l. comma ∷ l) (q.2 ∙ ap (λ l. l ++ q.1) one.spelled ∙ joined one.tree behind.parts q.1 behind.spelled);
      }

step : (s : Sym) (x : Token) (more : List Sym) (ts : List Token) → table.expand s x ≡ Some more → All more ts → Means s (x ∷ ts)
step (Text d) x more ts e r = text_step d x (def_stack d (is_sign sign.Def x)) more ts refl e r
step (Def d) x more ts e r = def_step d x (is_sign sign.Def x) more ts refl e r
step (First Arg d) x more ts e r = first_step Arg d expr_tokens has_names (arg_of d) (λ ts m. m) x (is_sign sign.RightParen x) (top_stack Arg d x) more ts refl refl e r
step (First Param d) x more ts e r = first_step Param d param_tokens param_names (param_of d) (λ ts m. m) x (is_sign sign.RightParen x) (top_stack Param d x) more ts refl refl e r
step (More Arg d) x more ts e r = more_step Arg d expr_tokens has_names (arg_of d) (λ ts m. m) x (is_sign sign.RightParen x) (is_sign sign.Comma x) more ts refl refl e r
step (More Param d) x more ts e r = more_step Param d param_tokens param_names (param_of d) (λ ts m. m) x (is_sign sign.RightParen x) (is_sign sign.Comma x) more ts refl refl e r
step (Spec d) x more ts e r = spec_step d x (start_of x) more ts (start_spells x) e r
step (Part s) x more ts e r = part_step inner.table table Part holds Means (λ s ts over. over) s x more ts e r
step (Shaped s) x more ts e r = part_step shape.table table Shaped shape_holds Means (λ s ts over. over) s x more ts e r
step Name x more ts e r = name_step x more ts e r
step (Fixed s) x more ts e r = let p = passed_step (λ m. All m ts) (is_sign s x) more e r in ap (λ l. x ∷ l) p.1 ∙ ap (λ y. y ∷ []) (sign_is s x p.0)

a_word : is_name (95 ∷ []) ≡ true
a_word = refl

abbrev the_least : TextTree
the_least = record { defs = []; root = WrittenTree.file }

abbrev least_def : DefTree
least_def = record { name = 95 ∷ []; params = []; body = WrittenTree.file }

whole : (s : Sym) → (ts : List Token) × (l : List ℕ) × Runs table (s ∷ []) ts l []
whole (Text d) = (text_tokens the_least, _, (text_runs d the_least [] refl).runs)
whole (Def d) = (def_list least_def, _, (def_runs d least_def [] refl).runs)
whole (Spec d) = (word keyword.File ∷ [], d ∷ [], (spec_runs d WrittenTree.file [] refl).runs)
whole (First k d) = (closing ∷ [], 0 ∷ [], (takes table (First k d) closing [] refl (ran table)).runs)
whole (More k d) = (closing ∷ [], 0 ∷ [], (takes table (More k d) closing [] refl (ran table)).runs)
whole (Part s) = let w = expr_fits.whole s in (w.0, w.1, run_within inner.table table Part holds w.0 (s ∷ []) [] w.1 w.2)
whole (Shaped s) = let w = shape_fits.whole s in (w.0, w.1, run_within shape.table table Shaped shape_holds w.0 (s ∷ []) [] w.1 w.2)
whole Name = (token.Word (95 ∷ []) ∷ [], 0 ∷ [], (a_name (95 ∷ []) a_word (ran table)).runs)
whole (Fixed s) = (sign_token s ∷ [], 0 ∷ [], (a_sign s (ran table)).runs)

text_means : (d : ℕ) (ts : List Token) (l : List ℕ) → Runs table (Text d ∷ []) ts l [] → (t : TextTree) × (text_names t ≡ true) × (ts ≡ text_tokens t)
text_means d ts l r =
    let p = built table Means step ts (Text d ∷ []) l r in
    (p.3.tree, p.3.right, p.2 ∙ ap (λ z. p.0 ++ z) p.4 ∙ append-nil p.0 ∙ p.3.spelled)

pub text_fits : Fits table descriptions Text
text_fits = record { runs = λ d t h. (text_runs d t [] h).runs; means = text_means; whole = whole }
