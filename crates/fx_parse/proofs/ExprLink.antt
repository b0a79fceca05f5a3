-- Reading an expression goes as its machine does, and reads the tokens of each expression.
use Rattle.std.proofs.Common.{◌≡◌, ℕ, zero, suc, ◌-◌, ◌≤◌, true, false, cond, Some, Result, Ok, Err, List, [], ◌∷◌, ◌++◌, length, refl, sym, ap, ◌∙◌, arith, append_assoc}
use Rattle.std.proofs.lemmas.List.Folds.{list_all-append}
use Rattle.std.proofs.lemmas.Bool.{and_parts, leb-true, lt-ltb, le-ltb}
use Rattle.fx_expr.specs.ExprTree.{ExprTree}
use Rattle.fx_expr.specs.declared.expr.BinOp.{BinOp}
use Rattle.fx_expr.specs.declared.expr.UnOp.{UnOp}
use Rattle.fx_lex.specs.declared.token.Token.{Token}
use Rattle.fx_lex.specs.declared.token.Token.TheVariants as token
use Rattle.fx_parse.specs.declared.keyword.Keyword.TheVariants as keyword
use Rattle.fx_parse.specs.Stuck.{Stuck, Unexpected, TooNested, ◌>>=◌}
use Rattle.fx_parse.specs.Keywords.{word}
use Rattle.fx_parse.specs.Grammars.{opening, closing, comma, binary_token, unary_word, bool_word, expr_tokens, expr_levels, has_names}
use Rattle.fx_parse.specs.Reader.{expect, is_opening, is_closing, is_comma, Head, Leaf, Bracket, Before, Choice, Nothing, head_of, Middle, Binary, Glob, Neither, middle_of, middle_found, middle_at, glob_at, ReadExpr, second_at, bracket_at, before_at, choice_at, form_at, too_nested, is_nothing, read_expr}
use Rattle.fx_parse.proofs.Machine.{at_most, scan, scan_from}
use Rattle.fx_parse.proofs.Tests.{IsTest, scan_test}
use Rattle.fx_parse.proofs.ExprMachine.{Sym, Expr, Operator, Text, Open, Close, Comma, table, head_stack, middle_stack, head_word, head_unary, head_bool, head_name, middle_binary, middle_only}

-- a chain of readings
pub same_then : {A B : Type 0} (r : Result A Stuck) (f g : A → Result B Stuck) → ((a : A) → f a ≡ g a) → (r >>= f) ≡ (r >>= g)
same_then (Ok x) f g h = h x
same_then (Err e) f g h = refl

pub then_then : {A B C : Type 0} (r : Result A Stuck) (f : A → Result B Stuck) (g : B → Result C Stuck) → ((r >>= f) >>= g) ≡ (r >>= (λ a. f a >>= g))
then_then (Ok x) f g = refl
then_then (Err e) f g = refl

abbrev go : List Sym → List Token → Result (List Token) Stuck
go stack ts = scan table stack ts

is_open : IsTest table Open is_opening
is_open = record { expands = λ x. refl; low = λ x. refl }

is_close : IsTest table Close is_closing
is_close = record { expands = λ x. refl; low = λ x. refl }

is_between : IsTest table Comma is_comma
is_between = record { expands = λ x. refl; low = λ x. refl }

scan_text : (stack : List Sym) (ts : List Token) → go (Text ∷ stack) ts ≡ (glob_at ts >>= (λ r. go stack r.1))
scan_text stack [] = refl
scan_text stack (token.Word w ∷ ts) = refl
scan_text stack (token.Number n ∷ ts) = refl
scan_text stack (token.Str v ∷ ts) = refl
scan_text stack (token.Mark m ∷ ts) = refl
scan_text stack (token.Def ∷ ts) = refl

-- what a reader does, the machine does from its start at a level
abbrev Follows : ℕ → ReadExpr → Type 0
Follows d read = (stack : List Sym) (ts : List Token) → go (Expr d ∷ stack) ts ≡ (read ts >>= (λ r. go stack r.1))

module _ (d : ℕ) (read : ReadExpr) (follows : Follows d read) where
  scan_second : (stack : List Sym) (a : ExprTree) (m : Middle) (more : List Sym) (ts : List Token) → middle_stack d m ≡ Some more → go (more ++ stack) ts ≡ (second_at read a m ts >>= (λ r. go stack r.1))
  unfolding second_at
  scan_second stack a (Binary op) more ts e =
      let parts : Expr d ∷ Close ∷ [] ≡ more = cc in
      ap (λ k. go (k ++ stack) ts) (sym parts) ∙ follows (Close ∷ stack) ts ∙ same_then (read ts) _ _ (λ b. scan_test table is_close stack b.1 ∙ sym (then_then (expect is_closing b.1) (λ rest. Ok (ExprTree.bin op a b.0, rest)) (λ r. go stack r.1))) ∙ sym (then_then (read ts) _ (λ r. go stack r.1))
  scan_second stack a Glob more ts e =
      let parts : Text ∷ Close ∷ [] ≡ more = cc in
      ap (λ k. go (k ++ stack) ts) (sym parts) ∙ scan_text (Close ∷ stack) ts ∙ same_then (glob_at ts) _ _ (λ b. scan_test table is_close stack b.1 ∙ sym (then_then (expect is_closing b.1) (λ rest. Ok (ExprTree.only a b.0, rest)) (λ r. go stack r.1))) ∙ sym (then_then (glob_at ts) _ (λ r. go stack r.1))
  scan_second stack a Neither more ts e = absurd cc

  scan_middle_of : (stack : List Sym) (a : ExprTree) (x : Token) (ts : List Token) (m : Middle) → scan_from table (middle_stack d m) false (suc (length ts)) (λ more. go (more ++ stack) ts) ≡ (middle_found m x ts >>= (λ op. second_at read a op.0 op.1 >>= (λ r. go stack r.1)))
  scan_middle_of stack a x ts (Binary op) = scan_second stack a (Binary op) (Expr d ∷ Close ∷ []) ts refl
  scan_middle_of stack a x ts Glob = scan_second stack a Glob (Text ∷ Close ∷ []) ts refl
  scan_middle_of stack a x ts Neither = refl

  scan_middle : (stack : List Sym) (a : ExprTree) (ts : List Token) → go (Operator d ∷ stack) ts ≡ (middle_at ts >>= (λ op. second_at read a op.0 op.1 >>= (λ r. go stack r.1)))
  scan_middle stack a [] = refl
  scan_middle stack a (x ∷ ts) = scan_middle_of stack a x ts (middle_of x)

  scan_bracket : (stack : List Sym) (ts : List Token) → go (Expr d ∷ Operator d ∷ stack) ts ≡ (bracket_at read ts >>= (λ r. go stack r.1))
  unfolding bracket_at
  scan_bracket stack ts =
      follows (Operator d ∷ stack) ts ∙ same_then (read ts) _ _ (λ a. scan_middle stack a.0 a.1 ∙ sym (then_then (middle_at a.1) (λ op. second_at read a.0 op.0 op.1) (λ r. go stack r.1))) ∙ sym (then_then (read ts) _ (λ r. go stack r.1))

  scan_before : (stack : List Sym) (op : UnOp) (ts : List Token) → go (Open ∷ Expr d ∷ Close ∷ stack) ts ≡ (before_at read op ts >>= (λ r. go stack r.1))
  unfolding before_at
  scan_before stack op ts =
      scan_test table is_open (Expr d ∷ Close ∷ stack) ts ∙ same_then (expect is_opening ts) _ _ (λ inside. follows (Close ∷ stack) inside ∙ same_then (read inside) _ _ (λ a. scan_test table is_close stack a.1 ∙ sym (then_then (expect is_closing a.1) (λ rest. Ok (ExprTree.un op a.0, rest)) (λ r. go stack r.1))) ∙ sym (then_then (read inside) _ (λ r. go stack r.1))) ∙ sym (then_then (expect is_opening ts) _ (λ r. go stack r.1))

  scan_choice : (stack : List Sym) (ts : List Token) → go (Open ∷ Expr d ∷ Comma ∷ Expr d ∷ Comma ∷ Expr d ∷ Close ∷ stack) ts ≡ (choice_at read ts >>= (λ r. go stack r.1))
  unfolding choice_at
  scan_choice stack ts =
      let end = λ (r : ExprTree × List Token). go stack r.1 in
      scan_test table is_open (Expr d ∷ Comma ∷ Expr d ∷ Comma ∷ Expr d ∷ Close ∷ stack) ts ∙ same_then (expect is_opening ts) _ _ (λ inside. follows (Comma ∷ Expr d ∷ Comma ∷ Expr d ∷ Close ∷ stack) inside ∙ same_then (read inside) _ _ (λ c. scan_test table is_between (Expr d ∷ Comma ∷ Expr d ∷ Close ∷ stack) c.1 ∙ same_then (expect is_comma c.1) _ _ (λ second. follows (Comma ∷ Expr d ∷ Close ∷ stack) second ∙ same_then (read second) _ _ (λ a. scan_test table is_between (Expr d ∷ Close ∷ stack) a.1 ∙ same_then (expect is_comma a.1) _ _ (λ third. follows (Close ∷ stack) third ∙ same_then (read third) _ _ (λ b. scan_test table is_close stack b.1 ∙ sym (then_then (expect is_closing b.1) (λ rest. Ok (ExprTree.choose c.0 a.0 b.0, rest)) end)) ∙ sym (then_then (read third) _ end)) ∙ sym (then_then (expect is_comma a.1) _ end)) ∙ sym (then_then (read second) _ end)) ∙ sym (then_then (expect is_comma c.1) _ end)) ∙ sym (then_then (read inside) _ end)) ∙ sym (then_then (expect is_opening ts) _ end)

-- one level
form_from : (d : ℕ) (read : ReadExpr) (stack : List Sym) (ts : List Token) (h : Head) → Follows (suc d) read → scan_from table (head_stack d h) false (suc (length ts)) (λ more. go (more ++ stack) ts) ≡ (cond (is_nothing h) (Err (Unexpected (suc (length ts)))) (form_at read h ts) >>= (λ r. go stack r.1))
unfolding form_at
form_from d read stack ts (Leaf t) follows = refl
form_from d read stack ts Bracket follows = scan_bracket (suc d) read follows stack ts
form_from d read stack ts (Before op) follows = scan_before (suc d) read follows stack op ts
form_from d read stack ts Choice follows = scan_choice (suc d) read follows stack ts
form_from d read stack ts Nothing follows = refl

-- no level is left
deep_from : (d : ℕ) (stack : List Sym) (x : Token) (ts : List Token) (h : Head) → scan_from table (head_stack d h) true (suc (length ts)) (λ more. go (more ++ stack) ts) ≡ (too_nested h (x ∷ ts) >>= (λ r. go stack r.1))
deep_from d stack x ts (Leaf t) = refl
deep_from d stack x ts Bracket = refl
deep_from d stack x ts (Before op) = refl
deep_from d stack x ts Choice = refl
deep_from d stack x ts Nothing = refl

-- with as many levels left as there are from d up to 64, none where d is above
pub expr_follows : (left d : ℕ) → left ≡ 65 - d → Follows d (read_expr left)
unfolding read_expr
expr_follows zero d e stack [] = refl
expr_follows zero d e stack (x ∷ ts) =
    ap (λ b. scan_from table (head_stack d (head_of x)) b (suc (length ts)) (λ more. go (more ++ stack) ts)) (lt-ltb 64 d (omega (arith, e))) ∙ deep_from d stack x ts (head_of x)
expr_follows (suc n) d e stack [] = refl
expr_follows (suc n) d e stack (x ∷ ts) =
    ap (λ b. scan_from table (head_stack d (head_of x)) b (suc (length ts)) (λ more. go (more ++ stack) ts)) (le-ltb 64 d (omega (arith, e))) ∙ form_from d (read_expr n) stack ts (head_of x) (expr_follows n (suc d) (omega (arith, e)))

-- the tokens of an expression are read as that expression
level_fits : (bound d : ℕ) (t : ExprTree) → at_most bound (expr_levels d t) ≡ true → d ≤ bound
level_fits bound d (ExprTree.str v) h = leb-true d bound (and_parts _ _ h).0
level_fits bound d (ExprTree.int n) h = leb-true d bound (and_parts _ _ h).0
level_fits bound d (ExprTree.bool b) h = leb-true d bound (and_parts _ _ h).0
level_fits bound d ExprTree.empty h = leb-true d bound (and_parts _ _ h).0
level_fits bound d (ExprTree.var w) h = leb-true d bound (and_parts _ _ h).0
level_fits bound d (ExprTree.bin op a b) h = leb-true d bound (and_parts _ _ h).0
level_fits bound d (ExprTree.un op a) h = leb-true d bound (and_parts _ _ h).0
level_fits bound d (ExprTree.choose c a b) h = leb-true d bound (and_parts _ _ h).0
level_fits bound d (ExprTree.only a glob) h = leb-true d bound (and_parts _ _ h).0

-- one level of the reader, at a token that begins a form
opens : (n : ℕ) (x : Token) (ts : List Token) (h : Head) → head_of x ≡ h → is_nothing h ≡ false → read_expr (suc n) (x ∷ ts) ≡ form_at (read_expr n) h ts
unfolding read_expr
opens n x ts h e some =
    ap (λ k. cond (is_nothing k) (Err (Unexpected (suc (length ts)))) (form_at (read_expr n) k ts)) e ∙ ap (λ b. cond b (Err (Unexpected (suc (length ts)))) (form_at (read_expr n) h ts)) some

-- the levels of a front and of what follows
pub front_low : (bound : ℕ) (k l : List ℕ) → at_most bound (k ++ l) ≡ true → at_most bound k ≡ true
front_low bound k l h = (and_parts _ _ (sym (list_all-append _ k l) ∙ h)).0

pub rest_low : (bound : ℕ) (k l : List ℕ) → at_most bound (k ++ l) ≡ true → at_most bound l ≡ true
rest_low bound k l h = (and_parts _ _ (sym (list_all-append _ k l) ∙ h)).1

pub tail_low : (bound d : ℕ) (l : List ℕ) → at_most bound (d ∷ l) ≡ true → at_most bound l ≡ true
tail_low bound d l h = (and_parts _ _ h).1

again_bin : (n : ℕ) (op : BinOp) (a b : ExprTree) (rest : List Token) → ((r : List Token) → read_expr n (expr_tokens a ++ r) ≡ Ok (a, r)) → ((r : List Token) → read_expr n (expr_tokens b ++ r) ≡ Ok (b, r)) → bracket_at (read_expr n) ((expr_tokens a ++ (binary_token op ∷ (expr_tokens b ++ closing ∷ []))) ++ rest) ≡ Ok (ExprTree.bin op a b, rest)
unfolding bracket_at second_at
again_bin n op a b rest first second =
    let tail = expr_tokens b ++ closing ∷ [] in
    let f : ExprTree × List Token → Result (ExprTree × List Token) Stuck = λ a. middle_at a.1 >>= (λ op. second_at (read_expr n) a.0 op.0 op.1) in
    let g : Middle × List Token → Result (ExprTree × List Token) Stuck = λ op. second_at (read_expr n) a op.0 op.1 in
    let h : ExprTree × List Token → Result (ExprTree × List Token) Stuck = λ b. expect is_closing b.1 >>= (λ rest. Ok (ExprTree.bin op a b.0, rest)) in
    let one = ap (λ ts. read_expr n ts >>= f) (append_assoc (expr_tokens a) (binary_token op ∷ tail) rest) ∙ ap (λ r. r >>= f) (first (binary_token op ∷ (tail ++ rest))) in
    let two : (middle_at (binary_token op ∷ (tail ++ rest)) >>= g) ≡ second_at (read_expr n) a (Binary op) (tail ++ rest) = ap (λ m. middle_found m (binary_token op) (tail ++ rest) >>= g) (middle_binary op) in
    let three : second_at (read_expr n) a (Binary op) (tail ++ rest) ≡ Ok (ExprTree.bin op a b, rest) = ap (λ ts. read_expr n ts >>= h) (append_assoc (expr_tokens b) (closing ∷ []) rest) ∙ ap (λ r. r >>= h) (second (closing ∷ rest)) in
    one ∙ two ∙ three

again_only : (n : ℕ) (a : ExprTree) (glob : List ℕ) (rest : List Token) → ((r : List Token) → read_expr n (expr_tokens a ++ r) ≡ Ok (a, r)) → bracket_at (read_expr n) ((expr_tokens a ++ (word keyword.Only ∷ token.Str glob ∷ closing ∷ [])) ++ rest) ≡ Ok (ExprTree.only a glob, rest)
unfolding bracket_at second_at
again_only n a glob rest first =
    let f : ExprTree × List Token → Result (ExprTree × List Token) Stuck = λ a. middle_at a.1 >>= (λ op. second_at (read_expr n) a.0 op.0 op.1) in
    let g : Middle × List Token → Result (ExprTree × List Token) Stuck = λ op. second_at (read_expr n) a op.0 op.1 in
    let tail = token.Str glob ∷ closing ∷ rest in
    let one = ap (λ ts. read_expr n ts >>= f) (append_assoc (expr_tokens a) (word keyword.Only ∷ token.Str glob ∷ closing ∷ []) rest) ∙ ap (λ r. r >>= f) (first (word keyword.Only ∷ tail)) in
    let two : (middle_at (word keyword.Only ∷ tail) >>= g) ≡ second_at (read_expr n) a Glob tail = ap (λ m. middle_found m (word keyword.Only) tail >>= g) middle_only in
    one ∙ two

again_un : (n : ℕ) (op : UnOp) (a : ExprTree) (rest : List Token) → ((r : List Token) → read_expr n (expr_tokens a ++ r) ≡ Ok (a, r)) → before_at (read_expr n) op (opening ∷ ((expr_tokens a ++ closing ∷ []) ++ rest)) ≡ Ok (ExprTree.un op a, rest)
unfolding before_at
again_un n op a rest first =
    let f : ExprTree × List Token → Result (ExprTree × List Token) Stuck = λ a. expect is_closing a.1 >>= (λ rest. Ok (ExprTree.un op a.0, rest)) in
    ap (λ ts. read_expr n ts >>= f) (append_assoc (expr_tokens a) (closing ∷ []) rest) ∙ ap (λ r. r >>= f) (first (closing ∷ rest))

again_choice : (n : ℕ) (c a b : ExprTree) (rest : List Token) → ((r : List Token) → read_expr n (expr_tokens c ++ r) ≡ Ok (c, r)) → ((r : List Token) → read_expr n (expr_tokens a ++ r) ≡ Ok (a, r)) → ((r : List Token) → read_expr n (expr_tokens b ++ r) ≡ Ok (b, r)) → choice_at (read_expr n) (opening ∷ ((expr_tokens c ++ (comma ∷ (expr_tokens a ++ (comma ∷ (expr_tokens b ++ closing ∷ []))))) ++ rest)) ≡ Ok (ExprTree.choose c a b, rest)
unfolding choice_at
again_choice n c a b rest one two three =
    let h : ExprTree → ExprTree → ExprTree × List Token → Result (ExprTree × List Token) Stuck = λ c a b. expect is_closing b.1 >>= (λ rest. Ok (ExprTree.choose c a b.0, rest)) in
    let g : ExprTree → ExprTree × List Token → Result (ExprTree × List Token) Stuck = λ c a. expect is_comma a.1 >>= (λ third. read_expr n third >>= h c a.0) in
    let f : ExprTree × List Token → Result (ExprTree × List Token) Stuck = λ c. expect is_comma c.1 >>= (λ second. read_expr n second >>= g c.0) in
    let last = expr_tokens b ++ closing ∷ [] in
    let middle = expr_tokens a ++ (comma ∷ last) in
    ap (λ ts. read_expr n ts >>= f) (append_assoc (expr_tokens c) (comma ∷ middle) rest) ∙ ap (λ r. r >>= f) (one (comma ∷ (middle ++ rest))) ∙ ap (λ ts. read_expr n ts >>= g c) (append_assoc (expr_tokens a) (comma ∷ last) rest) ∙ ap (λ r. r >>= g c) (two (comma ∷ (last ++ rest))) ∙ ap (λ ts. read_expr n ts >>= h c a) (append_assoc (expr_tokens b) (closing ∷ []) rest) ∙ ap (λ r. r >>= h c a) (three (closing ∷ rest))

pub expr_again : (t : ExprTree) (bound left d : ℕ) (rest : List Token) → left ≡ suc bound - d → has_names t ≡ true → at_most bound (expr_levels d t) ≡ true → read_expr left (expr_tokens t ++ rest) ≡ Ok (t, rest)
unfolding form_at
expr_again t bound zero d rest e h low = let fits = level_fits bound d t low in absurd (omega (arith, e, fits))
expr_again (ExprTree.str v) bound (suc n) d rest e h low = opens n (token.Str v) rest (Leaf (ExprTree.str v)) refl refl
expr_again (ExprTree.int z) bound (suc n) d rest e h low = opens n (token.Number z) rest (Leaf (ExprTree.int z)) refl refl
expr_again (ExprTree.bool b) bound (suc n) d rest e h low = opens n (token.Word (bool_word b)) rest (Leaf (ExprTree.bool b)) (head_bool b) refl
expr_again ExprTree.empty bound (suc n) d rest e h low = opens n (word keyword.Empty) rest (Leaf ExprTree.empty) (head_word keyword.Empty) refl
expr_again (ExprTree.var w) bound (suc n) d rest e h low = opens n (token.Word w) rest (Leaf (ExprTree.var w)) (head_name w h) refl
expr_again (ExprTree.bin op a b) bound (suc n) d rest e h low =
    let hs = and_parts (has_names a) (has_names b) h in
    let inner = tail_low bound d (expr_levels (suc d) a ++ (0 ∷ (expr_levels (suc d) b ++ 0 ∷ []))) low in
    let behind = tail_low bound 0 (expr_levels (suc d) b ++ 0 ∷ []) (rest_low bound (expr_levels (suc d) a) (0 ∷ (expr_levels (suc d) b ++ 0 ∷ [])) inner) in
    let next : n ≡ suc bound - suc d = omega (arith, e) in
    opens n opening _ Bracket refl refl ∙ again_bin n op a b rest (λ r. expr_again a bound n (suc d) r next hs.0 (front_low bound (expr_levels (suc d) a) _ inner)) (λ r. expr_again b bound n (suc d) r next hs.1 (front_low bound (expr_levels (suc d) b) (0 ∷ []) behind))
expr_again (ExprTree.un op a) bound (suc n) d rest e h low =
    let inner = tail_low bound 0 (expr_levels (suc d) a ++ 0 ∷ []) (tail_low bound d (0 ∷ (expr_levels (suc d) a ++ 0 ∷ [])) low) in
    let next : n ≡ suc bound - suc d = omega (arith, e) in
    opens n (token.Word (unary_word op)) _ (Before op) (head_unary op) refl ∙ again_un n op a rest (λ r. expr_again a bound n (suc d) r next h (front_low bound (expr_levels (suc d) a) (0 ∷ []) inner))
expr_again (ExprTree.choose c a b) bound (suc n) d rest e h low =
    let hs = and_parts (has_names c) _ h in
    let is = and_parts (has_names a) (has_names b) hs.1 in
    let lb = expr_levels (suc d) b ++ 0 ∷ [] in
    let la = expr_levels (suc d) a ++ (0 ∷ lb) in
    let lc = expr_levels (suc d) c ++ (0 ∷ la) in
    let first = tail_low bound 0 lc (tail_low bound d (0 ∷ lc) low) in
    let second = tail_low bound 0 la (rest_low bound (expr_levels (suc d) c) (0 ∷ la) first) in
    let third = tail_low bound 0 lb (rest_low bound (expr_levels (suc d) a) (0 ∷ lb) second) in
    let next : n ≡ suc bound - suc d = omega (arith, e) in
    opens n (word keyword.If) _ Choice (head_word keyword.If) refl ∙ again_choice n c a b rest (λ r. expr_again c bound n (suc d) r next hs.0 (front_low bound (expr_levels (suc d) c) (0 ∷ la) first)) (λ r. expr_again a bound n (suc d) r next is.0 (front_low bound (expr_levels (suc d) a) (0 ∷ lb) second)) (λ r. expr_again b bound n (suc d) r next is.1 (front_low bound (expr_levels (suc d) b) (0 ∷ []) third))
expr_again (ExprTree.only a glob) bound (suc n) d rest e h low =
    let inner = tail_low bound d (expr_levels (suc d) a ++ 0 ∷ 0 ∷ 0 ∷ []) low in
    let next : n ≡ suc bound - suc d = omega (arith, e) in
    opens n opening _ Bracket refl refl ∙ again_only n a glob rest (λ r. expr_again a bound n (suc d) r next h (front_low bound (expr_levels (suc d) a) _ inner))

-- the reader at each kind of first token
pub read_end : (left : ℕ) → read_expr left [] ≡ Err (Unexpected 0)
unfolding read_expr
read_end zero = refl
read_end (suc n) = refl

nested_nothing : (h : Head) (ts : List Token) → is_nothing h ≡ true → too_nested h ts ≡ Err (Unexpected (length ts))
nested_nothing Nothing ts e = refl
nested_nothing (Leaf t) ts e = absurd cc
nested_nothing Bracket ts e = absurd cc
nested_nothing (Before op) ts e = absurd cc
nested_nothing Choice ts e = absurd cc

nested_some : (h : Head) (ts : List Token) → is_nothing h ≡ false → too_nested h ts ≡ Err (TooNested (length ts))
nested_some Nothing ts e = absurd cc
nested_some (Leaf t) ts e = refl
nested_some Bracket ts e = refl
nested_some (Before op) ts e = refl
nested_some Choice ts e = refl

nothing_at : (left : ℕ) (x : Token) (rest : List Token) → is_nothing (head_of x) ≡ true → read_expr left (x ∷ rest) ≡ Err (Unexpected (length (x ∷ rest)))
unfolding read_expr
nothing_at zero x rest e = nested_nothing (head_of x) (x ∷ rest) e
nothing_at (suc n) x rest e = ap (λ b. cond b (Err (Unexpected (length (x ∷ rest)))) (form_at (read_expr n) (head_of x) rest)) e

deep_at : (x : Token) (rest : List Token) → is_nothing (head_of x) ≡ false → read_expr 0 (x ∷ rest) ≡ Err (TooNested (length (x ∷ rest)))
unfolding read_expr
deep_at x rest e = nested_some (head_of x) (x ∷ rest) e

module _ (x : Token) (rest all : List Token) (h : Head) (parts : all ≡ x ∷ rest) (kind : h ≡ head_of x) where
  pub read_nothing : (left : ℕ) → is_nothing h ≡ true → read_expr left all ≡ Err (Unexpected (length all))
  read_nothing left e =
      ap (read_expr left) parts ∙ nothing_at left x rest (ap is_nothing (sym kind) ∙ e) ∙ ap (λ l. Err (Unexpected (length l))) (sym parts)

  pub read_deep : (left : ℕ) → left ≡ 0 → is_nothing h ≡ false → read_expr left all ≡ Err (TooNested (length all))
  read_deep left is_zero e =
      ap (λ n. read_expr n all) is_zero ∙ ap (read_expr 0) parts ∙ deep_at x rest (ap is_nothing (sym kind) ∙ e) ∙ ap (λ l. Err (TooNested (length l))) (sym parts)

  pub read_form : (left n : ℕ) → left ≡ suc n → is_nothing h ≡ false → read_expr left all ≡ form_at (read_expr n) h rest
  read_form left n more e =
      ap (λ n. read_expr n all) more ∙ ap (read_expr (suc n)) parts ∙ opens n x rest h (sym kind) e
