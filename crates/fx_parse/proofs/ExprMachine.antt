-- The machine of expressions and shapes.
use Rattle.std.proofs.Common.{◌≡◌, ℕ, suc, Bool, true, false, ◌⊎◌, inl, inr, Option, Some, None, List, [], ◌∷◌, ◌++◌, refl, sym, ap, ◌∙◌, subst}
use Rattle.std.specs.Prelude.{nat_eq, is_none}
use Rattle.std.specs.Cmp.Lexicographic.{pointwise}
use Rattle.std.proofs.lemmas.List.{append-nil}
use Rattle.std.proofs.lemmas.Bool.{and_parts, and_from}
use Rattle.fx_base.proofs.Orders.{nat_list_exact}
use Rattle.fx_base.proofs.Results.{none_is}
use Rattle.fx_expr.specs.ExprTree.{ExprTree}
use Rattle.fx_expr.specs.declared.expr.BinOp.{BinOp}
use Rattle.fx_expr.specs.declared.expr.BinOp.TheVariants as binary
use Rattle.fx_expr.specs.declared.expr.UnOp.{UnOp}
use Rattle.fx_expr.specs.declared.expr.UnOp.TheVariants as unary
use Rattle.fx_lex.specs.declared.token.Token.{Token}
use Rattle.fx_lex.specs.declared.token.Token.TheVariants as token
use Rattle.fx_lex.specs.declared.token.Mark.{Mark}
use Rattle.fx_lex.specs.declared.token.Mark.TheVariants as mark
use Rattle.fx_parse.specs.declared.keyword.Keyword.{Keyword}
use Rattle.fx_parse.specs.declared.keyword.Keyword.TheVariants as keyword
use Rattle.fx_parse.specs.Keywords.{keyword_bytes, keyword_of, keywords, word}
use Rattle.fx_parse.specs.Grammars.{opening, closing, comma, binary_token, unary_word, bool_word, expr_tokens, expr_levels, is_name, has_names, exprs}
use Rattle.fx_parse.specs.Reader.{is_opening, is_closing, is_comma, Head, Leaf, Bracket, Before, Choice, Nothing, keyword_head, word_head, head_of, Middle, Binary, Glob, Neither, keyword_middle, mark_middle, word_middle, middle_of}
use Rattle.fx_parse.proofs.Finds.{found_passes, is_no_keyword}
use Rattle.fx_parse.proofs.KeywordLaws.{keyword_again}
use Rattle.fx_parse.proofs.Machine.{Table, Runs, run_on, MeansAll, built}
use Rattle.fx_parse.proofs.Tests.{passed, passed_step}
use Rattle.fx_parse.proofs.Places.{Fits}

-- what may be still to come
pub data Sym : Type 0 where
  Expr : ℕ → Sym
  Operator : ℕ → Sym
  Text Open Close Comma : Sym

abbrev pub head_stack : ℕ → Head → Option (List Sym)
head_stack d (Leaf t) = Some []
head_stack d Bracket = Some (Expr (suc d) ∷ Operator (suc d) ∷ [])
head_stack d (Before op) = Some (Open ∷ Expr (suc d) ∷ Close ∷ [])
head_stack d Choice = Some (Open ∷ Expr (suc d) ∷ Comma ∷ Expr (suc d) ∷ Comma ∷ Expr (suc d) ∷ Close ∷ [])
head_stack d Nothing = None

abbrev pub middle_stack : ℕ → Middle → Option (List Sym)
middle_stack d (Binary op) = Some (Expr d ∷ Close ∷ [])
middle_stack d Glob = Some (Text ∷ Close ∷ [])
middle_stack d Neither = None

abbrev pub is_text : Token → Bool
is_text (token.Str v) = true
is_text _ = false

abbrev pub expand : Sym → Token → Option (List Sym)
expand (Expr d) x = head_stack d (head_of x)
expand (Operator d) x = middle_stack d (middle_of x)
expand Text x = passed (is_text x)
expand Open x = passed (is_opening x)
expand Close x = passed (is_closing x)
expand Comma x = passed (is_comma x)

abbrev pub level : Sym → ℕ
level (Expr d) = d
level _ = 0

abbrev pub table : Table Sym
table = record { expand = expand; level = λ s x. level s }

-- a kept word and what it begins
pub head_word : (k : Keyword) → head_of (word k) ≡ keyword_head k
head_word k = ap (word_head (keyword_bytes k)) (keyword_again k)

middle_word : (k : Keyword) → middle_of (word k) ≡ keyword_middle k
middle_word k = ap word_middle (keyword_again k)

pub head_unary : (op : UnOp) → head_of (token.Word (unary_word op)) ≡ Before op
head_unary unary.Not = head_word keyword.Not
head_unary unary.One = head_word keyword.One
head_unary unary.Lines = head_word keyword.Lines
head_unary unary.Size = head_word keyword.Size
head_unary unary.Int = head_word keyword.Int
head_unary unary.Text = head_word keyword.Text
head_unary unary.First = head_word keyword.First
head_unary unary.Second = head_word keyword.Second
head_unary unary.Keys = head_word keyword.Keys
head_unary unary.Present = head_word keyword.Present

pub head_bool : (b : Bool) → head_of (token.Word (bool_word b)) ≡ Leaf (ExprTree.bool b)
head_bool true = head_word keyword.True
head_bool false = head_word keyword.False

pub head_name : (w : List ℕ) → is_name w ≡ true → head_of (token.Word w) ≡ Leaf (ExprTree.var w)
head_name w e = ap (word_head w) (none_is (keyword_of w) (sym (is_no_keyword w) ∙ e))

pub middle_binary : (op : BinOp) → middle_of (binary_token op) ≡ Binary op
middle_binary binary.Join = refl
middle_binary binary.Plus = refl
middle_binary binary.Minus = refl
middle_binary binary.Equal = refl
middle_binary binary.Less = refl
middle_binary binary.And = middle_word keyword.And
middle_binary binary.Or = middle_word keyword.Or
middle_binary binary.Member = middle_word keyword.In
middle_binary binary.Union = middle_word keyword.Union
middle_binary binary.Without = middle_word keyword.Minus

pub middle_only : middle_of (word keyword.Only) ≡ Glob
middle_only = middle_word keyword.Only

-- the machine runs over the tokens of each expression
pub expr_runs : (d : ℕ) (t : ExprTree) (stack : List Sym) → has_names t ≡ true → Runs table (Expr d ∷ stack) (expr_tokens t) (expr_levels d t) stack
expr_runs d (ExprTree.str v) stack h = ([], [], refl, refl, (refl, refl))
expr_runs d (ExprTree.int n) stack h = ([], [], refl, refl, (refl, refl))
expr_runs d (ExprTree.bool b) stack h = ([], [], ap (head_stack d) (head_bool b), refl, (refl, refl))
expr_runs d ExprTree.empty stack h = ([], [], ap (head_stack d) (head_word keyword.Empty), refl, (refl, refl))
expr_runs d (ExprTree.var w) stack h = ([], [], ap (head_stack d) (head_name w h), refl, (refl, refl))
expr_runs d (ExprTree.bin op a b) stack h =
    let hs = and_parts (has_names a) (has_names b) h in
    let second = run_on table (expr_tokens b) (Expr (suc d) ∷ Close ∷ stack) (Close ∷ stack) stack (closing ∷ []) (expr_levels (suc d) b) (0 ∷ []) (expr_runs (suc d) b (Close ∷ stack) hs.1) ([], [], refl, refl, (refl, refl)) in
    let rest : Runs table (Operator (suc d) ∷ stack) (binary_token op ∷ (expr_tokens b ++ closing ∷ [])) (0 ∷ (expr_levels (suc d) b ++ 0 ∷ [])) stack =
    (Expr (suc d) ∷ Close ∷ [], expr_levels (suc d) b ++ 0 ∷ [], ap (middle_stack (suc d)) (middle_binary op), refl, second) in
    (Expr (suc d) ∷ Operator (suc d) ∷ [], expr_levels (suc d) a ++ (0 ∷ (expr_levels (suc d) b ++ 0 ∷ [])), refl, refl, run_on table (expr_tokens a) (Expr (suc d) ∷ Operator (suc d) ∷ stack) (Operator (suc d) ∷ stack) stack (binary_token op ∷ (expr_tokens b ++ closing ∷ [])) (expr_levels (suc d) a) (0 ∷ (expr_levels (suc d) b ++ 0 ∷ [])) (expr_runs (suc d) a (Operator (suc d) ∷ stack) hs.0) rest)
expr_runs d (ExprTree.un op a) stack h =
    let rest = run_on table (expr_tokens a) (Expr (suc d) ∷ Close ∷ stack) (Close ∷ stack) stack (closing ∷ []) (expr_levels (suc d) a) (0 ∷ []) (expr_runs (suc d) a (Close ∷ stack) h) ([], [], refl, refl, (refl, refl)) in
    (Open ∷ Expr (suc d) ∷ Close ∷ [], 0 ∷ (expr_levels (suc d) a ++ 0 ∷ []), ap (head_stack d) (head_unary op), refl, ([], expr_levels (suc d) a ++ 0 ∷ [], refl, refl, rest))
expr_runs d (ExprTree.choose c a b) stack h =
    let hs = and_parts (has_names c) _ h in
    let is = and_parts (has_names a) (has_names b) hs.1 in
    let third = run_on table (expr_tokens b) (Expr (suc d) ∷ Close ∷ stack) (Close ∷ stack) stack (closing ∷ []) (expr_levels (suc d) b) (0 ∷ []) (expr_runs (suc d) b (Close ∷ stack) is.1) ([], [], refl, refl, (refl, refl)) in
    let thirds : Runs table (Comma ∷ Expr (suc d) ∷ Close ∷ stack) (comma ∷ (expr_tokens b ++ closing ∷ [])) (0 ∷ (expr_levels (suc d) b ++ 0 ∷ [])) stack = ([], expr_levels (suc d) b ++ 0 ∷ [], refl, refl, third) in
    let second = run_on table (expr_tokens a) (Expr (suc d) ∷ Comma ∷ Expr (suc d) ∷ Close ∷ stack) (Comma ∷ Expr (suc d) ∷ Close ∷ stack) stack (comma ∷ (expr_tokens b ++ closing ∷ [])) (expr_levels (suc d) a) (0 ∷ (expr_levels (suc d) b ++ 0 ∷ [])) (expr_runs (suc d) a (Comma ∷ Expr (suc d) ∷ Close ∷ stack) is.0) thirds in
    let seconds : Runs table (Comma ∷ Expr (suc d) ∷ Comma ∷ Expr (suc d) ∷ Close ∷ stack) (comma ∷ (expr_tokens a ++ (comma ∷ (expr_tokens b ++ closing ∷ [])))) (0 ∷ (expr_levels (suc d) a ++ (0 ∷ (expr_levels (suc d) b ++ 0 ∷ [])))) stack = ([], expr_levels (suc d) a ++ (0 ∷ (expr_levels (suc d) b ++ 0 ∷ [])), refl, refl, second) in
    let first = run_on table (expr_tokens c) (Expr (suc d) ∷ Comma ∷ Expr (suc d) ∷ Comma ∷ Expr (suc d) ∷ Close ∷ stack) (Comma ∷ Expr (suc d) ∷ Comma ∷ Expr (suc d) ∷ Close ∷ stack) stack (comma ∷ (expr_tokens a ++ (comma ∷ (expr_tokens b ++ closing ∷ [])))) (expr_levels (suc d) c) (0 ∷ (expr_levels (suc d) a ++ (0 ∷ (expr_levels (suc d) b ++ 0 ∷ [])))) (expr_runs (suc d) c (Comma ∷ Expr (suc d) ∷ Comma ∷ Expr (suc d) ∷ Close ∷ stack) hs.0) seconds in
    (Open ∷ Expr (suc d) ∷ Comma ∷ Expr (suc d) ∷ Comma ∷ Expr (suc d) ∷ Close ∷ [], 0 ∷ (expr_levels (suc d) c ++ (0 ∷ (expr_levels (suc d) a ++ (0 ∷ (expr_levels (suc d) b ++ 0 ∷ []))))), ap (head_stack d) (head_word keyword.If), refl, ([], expr_levels (suc d) c ++ (0 ∷ (expr_levels (suc d) a ++ (0 ∷ (expr_levels (suc d) b ++ 0 ∷ [])))), refl, refl, first))
expr_runs d (ExprTree.only a glob) stack h =
    let rest : Runs table (Operator (suc d) ∷ stack) (word keyword.Only ∷ token.Str glob ∷ closing ∷ []) (0 ∷ 0 ∷ 0 ∷ []) stack =
    (Text ∷ Close ∷ [], 0 ∷ 0 ∷ [], ap (middle_stack (suc d)) middle_only, refl, ([], 0 ∷ [], refl, refl, ([], [], refl, refl, (refl, refl)))) in
    (Expr (suc d) ∷ Operator (suc d) ∷ [], expr_levels (suc d) a ++ (0 ∷ 0 ∷ 0 ∷ []), refl, refl, run_on table (expr_tokens a) (Expr (suc d) ∷ Operator (suc d) ∷ stack) (Operator (suc d) ∷ stack) stack (word keyword.Only ∷ token.Str glob ∷ closing ∷ []) (expr_levels (suc d) a) (0 ∷ 0 ∷ 0 ∷ []) (expr_runs (suc d) a (Operator (suc d) ∷ stack) h) rest)

-- what each symbol stands for
abbrev IsExpr : List Token → Type 0
IsExpr ts = (t : ExprTree) × (has_names t ≡ true) × (ts ≡ expr_tokens t)

abbrev Means : Sym → List Token → Type 0
Means (Expr d) ts = IsExpr ts
Means (Operator d) ts = ((op : BinOp) × (t : ExprTree) × (has_names t ≡ true) × (ts ≡ binary_token op ∷ (expr_tokens t ++ closing ∷ []))) ⊎ ((v : List ℕ) × (ts ≡ word keyword.Only ∷ token.Str v ∷ closing ∷ []))
Means Text ts = (v : List ℕ) × (ts ≡ token.Str v ∷ [])
Means Open ts = ts ≡ opening ∷ []
Means Close ts = ts ≡ closing ∷ []
Means Comma ts = ts ≡ comma ∷ []

-- bytes that are found among the kept words are those of the word
pub keyword_spelled : (w : List ℕ) (k : Keyword) → keyword_of w ≡ Some k → token.Word w ≡ word k
keyword_spelled w k e = ap token.Word (sym (nat_list_exact (keyword_bytes k) w (found_passes (λ k. pointwise nat_eq (keyword_bytes k) w) keywords k e)))

-- the tokens that begin so
abbrev HeadSpells : Head → Token → Type 0
HeadSpells (Leaf t) x = (has_names t ≡ true) × (expr_tokens t ≡ x ∷ [])
HeadSpells Bracket x = x ≡ opening
HeadSpells (Before op) x = x ≡ token.Word (unary_word op)
HeadSpells Choice x = x ≡ word keyword.If
HeadSpells Nothing x = Unit {0}

keyword_spells : (k : Keyword) → HeadSpells (keyword_head k) (word k)
keyword_spells keyword.True = (refl, refl)
keyword_spells keyword.False = (refl, refl)
keyword_spells keyword.Empty = (refl, refl)
keyword_spells keyword.Not = refl
keyword_spells keyword.One = refl
keyword_spells keyword.Lines = refl
keyword_spells keyword.Size = refl
keyword_spells keyword.Int = refl
keyword_spells keyword.Text = refl
keyword_spells keyword.First = refl
keyword_spells keyword.Second = refl
keyword_spells keyword.Keys = refl
keyword_spells keyword.Present = refl
keyword_spells keyword.If = refl
keyword_spells _ = tt

word_spells : (w : List ℕ) (o : Option Keyword) → keyword_of w ≡ o → HeadSpells (word_head w o) (token.Word w)
word_spells w None e = (is_no_keyword w ∙ ap is_none e, refl)
word_spells w (Some k) e = subst (λ x. HeadSpells (keyword_head k) x) (sym (keyword_spelled w k e)) (keyword_spells k)

mark_spells : (m : Mark) → HeadSpells (head_of (token.Mark m)) (token.Mark m)
mark_spells mark.LeftParen = refl
mark_spells _ = tt

pub head_spells : (x : Token) → HeadSpells (head_of x) x
head_spells (token.Word w) = word_spells w (keyword_of w) refl
head_spells (token.Number n) = (refl, refl)
head_spells (token.Str v) = (refl, refl)
head_spells (token.Mark m) = mark_spells m
head_spells token.Def = tt

abbrev MiddleSpells : Middle → Token → Type 0
MiddleSpells (Binary op) x = x ≡ binary_token op
MiddleSpells Glob x = x ≡ word keyword.Only
MiddleSpells Neither x = Unit {0}

keyword_middle_spells : (k : Keyword) → MiddleSpells (keyword_middle k) (word k)
keyword_middle_spells keyword.And = refl
keyword_middle_spells keyword.Or = refl
keyword_middle_spells keyword.In = refl
keyword_middle_spells keyword.Union = refl
keyword_middle_spells keyword.Minus = refl
keyword_middle_spells keyword.Only = refl
keyword_middle_spells _ = tt

word_middle_spells : (w : List ℕ) (o : Option Keyword) → keyword_of w ≡ o → MiddleSpells (word_middle o) (token.Word w)
word_middle_spells w None e = tt
word_middle_spells w (Some k) e = subst (λ x. MiddleSpells (keyword_middle k) x) (sym (keyword_spelled w k e)) (keyword_middle_spells k)

mark_middle_spells : (m : Mark) → MiddleSpells (mark_middle m) (token.Mark m)
mark_middle_spells mark.PlusPlus = refl
mark_middle_spells mark.Plus = refl
mark_middle_spells mark.Minus = refl
mark_middle_spells mark.EqualEqual = refl
mark_middle_spells mark.LeftAngle = refl
mark_middle_spells _ = tt

middle_spells : (x : Token) → MiddleSpells (middle_of x) x
middle_spells (token.Word w) = word_middle_spells w (keyword_of w) refl
middle_spells (token.Number n) = tt
middle_spells (token.Str v) = tt
middle_spells (token.Mark m) = mark_middle_spells m
middle_spells token.Def = tt

pub is_open : (x : Token) → is_opening x ≡ true → x ≡ opening
is_open (token.Mark mark.LeftParen) e = refl
is_open _ e = absurd cc

pub is_close : (x : Token) → is_closing x ≡ true → x ≡ closing
is_close (token.Mark mark.RightParen) e = refl
is_close _ e = absurd cc

pub is_part : (x : Token) → is_comma x ≡ true → x ≡ comma
is_part (token.Mark mark.Comma) e = refl
is_part _ e = absurd cc

-- the parts of what a stack of a few symbols stands for
abbrev Reads : List Sym → List Token → Type 0
Reads stack ts = MeansAll table Means stack ts

closed : (ts : List Token) → Reads (Close ∷ []) ts → ts ≡ closing ∷ []
closed ts p = p.2 ∙ ap (λ l. p.0 ++ l) p.4 ∙ append-nil p.0 ∙ p.3

expr_step : (d : ℕ) (x : Token) (h : Head) (more : List Sym) (ts : List Token) → HeadSpells h x → head_stack d h ≡ Some more → Reads more ts → IsExpr (x ∷ ts)
expr_step d x (Leaf t) more ts s e r =
    let none : [] ≡ more = cc in
    let empty : ts ≡ [] = subst (λ m. Reads m ts) (sym none) r in
    (t, s.0, ap (λ l. x ∷ l) empty ∙ sym s.1)
expr_step d x Bracket more ts s e r =
    let parts : Expr (suc d) ∷ Operator (suc d) ∷ [] ≡ more = cc in
    let p = subst (λ m. Reads m ts) (sym parts) r in
    let a = p.3 in
    let q = p.4 in
    let rest : p.1 ≡ q.0 = q.2 ∙ ap (λ l. q.0 ++ l) q.4 ∙ append-nil q.0 in
    elim q.3 [
      | inl two ↦ (ExprTree.bin two.0 a.0 two.1, and_from _ _ a.1 two.2, ap (λ y. y ∷ ts) s ∙ ap (λ l. opening ∷ l) (p.2 ∙ ap (λ l. l ++ p.1) a.2 ∙ ap (λ l. expr_tokens a.0 ++ l) (rest ∙ two.3)))
      | inr glob ↦ (ExprTree.only a.0 glob.0, a.1, ap (λ y. y ∷ ts) s ∙ ap (λ l. opening ∷ l) (p.2 ∙ ap (λ l. l ++ p.1) a.2 ∙ ap (λ l. expr_tokens a.0 ++ l) (rest ∙ glob.1)))
    ]
expr_step d x (Before op) more ts s e r =
    let parts : Open ∷ Expr (suc d) ∷ Close ∷ [] ≡ more = cc in
    let p = subst (λ m. Reads m ts) (sym parts) r in
    let q = p.4 in
    let a = q.3 in
    let inner : p.1 ≡ expr_tokens a.0 ++ closing ∷ [] = q.2 ∙ ap (λ l. l ++ q.1) a.2 ∙ ap (λ l. expr_tokens a.0 ++ l) (closed q.1 q.4) in
    (ExprTree.un op a.0, a.1, ap (λ y. y ∷ ts) s ∙ ap (λ l. token.Word (unary_word op) ∷ l) (p.2 ∙ ap (λ l. l ++ p.1) p.3 ∙ ap (λ l. opening ∷ l) inner))
expr_step d x Choice more ts s e r =
    let parts : Open ∷ Expr (suc d) ∷ Comma ∷ Expr (suc d) ∷ Comma ∷ Expr (suc d) ∷ Close ∷ [] ≡ more = cc in
    let p = subst (λ m. Reads m ts) (sym parts) r in
    let c = p.4 in
    let k = c.4 in
    let a = k.4 in
    let l = a.4 in
    let b = l.4 in
    let third : l.1 ≡ expr_tokens b.3.0 ++ closing ∷ [] = b.2 ∙ ap (λ z. z ++ b.1) b.3.2 ∙ ap (λ z. expr_tokens b.3.0 ++ z) (closed b.1 b.4) in
    let thirds : a.1 ≡ comma ∷ (expr_tokens b.3.0 ++ closing ∷ []) = l.2 ∙ ap (λ z. z ++ l.1) l.3 ∙ ap (λ z. comma ∷ z) third in
    let second : k.1 ≡ expr_tokens a.3.0 ++ (comma ∷ (expr_tokens b.3.0 ++ closing ∷ [])) = a.2 ∙ ap (λ z. z ++ a.1) a.3.2 ∙ ap (λ z. expr_tokens a.3.0 ++ z) thirds in
    let seconds : c.1 ≡ comma ∷ (expr_tokens a.3.0 ++ (comma ∷ (expr_tokens b.3.0 ++ closing ∷ []))) = k.2 ∙ ap (λ z. z ++ k.1) k.3 ∙ ap (λ z. comma ∷ z) second in
    let first : p.1 ≡ expr_tokens c.3.0 ++ (comma ∷ (expr_tokens a.3.0 ++ (comma ∷ (expr_tokens b.3.0 ++ closing ∷ [])))) = c.2 ∙ ap (λ z. z ++ c.1) c.3.2 ∙ ap (λ z. expr_tokens c.3.0 ++ z) seconds in
    (ExprTree.choose c.3.0 a.3.0 b.3.0, and_from _ _ c.3.1 (and_from _ _ a.3.1 b.3.1), ap (λ y. y ∷ ts) s ∙ ap (λ z. word keyword.If ∷ z) (p.2 ∙ ap (λ z. z ++ p.1) p.3 ∙ ap (λ z. opening ∷ z) first))
expr_step d x Nothing more ts s e r = absurd cc

middle_step : (d : ℕ) (x : Token) (m : Middle) (more : List Sym) (ts : List Token) → MiddleSpells m x → middle_stack d m ≡ Some more → Reads more ts → Means (Operator d) (x ∷ ts)
middle_step d x (Binary op) more ts s e r =
    let parts : Expr d ∷ Close ∷ [] ≡ more = cc in
    let p = subst (λ m. Reads m ts) (sym parts) r in
    inl (op, p.3.0, p.3.1, ap (λ y. y ∷ ts) s ∙ ap (λ l. binary_token op ∷ l) (p.2 ∙ ap (λ l. l ++ p.1) p.3.2 ∙ ap (λ l. expr_tokens p.3.0 ++ l) (closed p.1 p.4)))
middle_step d x Glob more ts s e r =
    let parts : Text ∷ Close ∷ [] ≡ more = cc in
    let p = subst (λ m. Reads m ts) (sym parts) r in
    inr (p.3.0, ap (λ y. y ∷ ts) s ∙ ap (λ l. word keyword.Only ∷ l) (p.2 ∙ ap (λ l. l ++ p.1) p.3.1 ∙ ap (λ l. token.Str p.3.0 ∷ l) (closed p.1 p.4)))
middle_step d x Neither more ts s e r = absurd cc

text_is : (x : Token) → is_text x ≡ true → (v : List ℕ) × (x ≡ token.Str v)
text_is (token.Str v) e = (v, refl)
text_is _ e = absurd cc

step : (s : Sym) (x : Token) (more : List Sym) (ts : List Token) → expand s x ≡ Some more → Reads more ts → Means s (x ∷ ts)
step (Expr d) x more ts e r = expr_step d x (head_of x) more ts (head_spells x) e r
step (Operator d) x more ts e r = middle_step d x (middle_of x) more ts (middle_spells x) e r
step Text x more ts e r =
    let p = passed_step (λ m. Reads m ts) (is_text x) more e r in
    let v = text_is x p.0 in
    (v.0, ap (λ l. x ∷ l) p.1 ∙ ap (λ y. y ∷ []) v.1)
step Open x more ts e r = let p = passed_step (λ m. Reads m ts) (is_opening x) more e r in ap (λ l. x ∷ l) p.1 ∙ ap (λ y. y ∷ []) (is_open x p.0)
step Close x more ts e r = let p = passed_step (λ m. Reads m ts) (is_closing x) more e r in ap (λ l. x ∷ l) p.1 ∙ ap (λ y. y ∷ []) (is_close x p.0)
step Comma x more ts e r = let p = passed_step (λ m. Reads m ts) (is_comma x) more e r in ap (λ l. x ∷ l) p.1 ∙ ap (λ y. y ∷ []) (is_part x p.0)

whole : (s : Sym) → (ts : List Token) × (l : List ℕ) × Runs table (s ∷ []) ts l []
whole (Expr d) = (token.Str [] ∷ [], d ∷ [], ([], [], refl, refl, (refl, refl)))
whole (Operator d) = (token.Mark mark.Plus ∷ token.Str [] ∷ closing ∷ [], 0 ∷ d ∷ 0 ∷ [], (Expr d ∷ Close ∷ [], d ∷ 0 ∷ [], refl, refl, ([], 0 ∷ [], refl, refl, ([], [], refl, refl, (refl, refl)))))
whole Text = (token.Str [] ∷ [], 0 ∷ [], ([], [], refl, refl, (refl, refl)))
whole Open = (opening ∷ [], 0 ∷ [], ([], [], refl, refl, (refl, refl)))
whole Close = (closing ∷ [], 0 ∷ [], ([], [], refl, refl, (refl, refl)))
whole Comma = (comma ∷ [], 0 ∷ [], ([], [], refl, refl, (refl, refl)))

expr_means : (d : ℕ) (ts : List Token) (l : List ℕ) → Runs table (Expr d ∷ []) ts l [] → IsExpr ts
expr_means d ts l r =
    let p = built table Means step ts (Expr d ∷ []) l r in
    (p.3.0, p.3.1, p.2 ∙ ap (λ z. p.0 ++ z) p.4 ∙ append-nil p.0 ∙ p.3.2)

pub expr_fits : Fits table exprs Expr
expr_fits = record { runs = λ d t h. expr_runs d t [] h; means = expr_means; whole = whole }
