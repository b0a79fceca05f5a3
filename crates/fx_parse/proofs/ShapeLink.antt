-- Reading a shape goes as its machine does, and reads the tokens of each shape.
use Rattle.std.proofs.Common.{◌≡◌, ℕ, zero, suc, ◌-◌, ◌≤◌, Bool, true, false, cond, Result, Ok, Err, List, [], ◌∷◌, ◌++◌, length, refl, sym, ap, ◌∙◌, arith, append_assoc}
use Rattle.std.proofs.lemmas.Bool.{and_parts, leb-true, lt-ltb, le-ltb}
use Rattle.fx_expr.specs.ShapeTree.{ShapeTree}
use Rattle.fx_lex.specs.declared.token.Token.{Token}
use Rattle.fx_parse.specs.declared.keyword.Keyword.TheVariants as keyword
use Rattle.fx_parse.specs.declared.shape_head.ShapeStart.{ShapeStart}
use Rattle.fx_parse.specs.declared.shape_head.ShapeStart.TheVariants as start
use Rattle.fx_parse.specs.Stuck.{Stuck, Unexpected, TooNested, ◌>>=◌}
use Rattle.fx_parse.specs.Keywords.{word}
use Rattle.fx_parse.specs.Grammars.{opening, closing, comma, shape_tokens, shape_levels, shapes}
use Rattle.fx_parse.specs.Reader.{expect, is_opening, is_closing, is_comma}
use Rattle.fx_parse.specs.ShapeReader.{shape_of, ReadShape, pair_at, opt_at, table_at, shape_form_at, is_no_shape, shape_too_nested, read_shape}
use Rattle.fx_parse.proofs.Machine.{at_most, scan, scan_from}
use Rattle.fx_parse.proofs.Tests.{IsTest, scan_test}
use Rattle.fx_parse.proofs.ReaderPlaces.{Follows}
use Rattle.fx_parse.proofs.ShapeMachine.{Sym, Shape, Open, Close, Comma, table, shape_stack, shape_word, shape_fits}
use Rattle.fx_parse.proofs.ExprLink.{same_then, then_then, front_low, rest_low, tail_low}

abbrev go : List Sym → List Token → Result (List Token) Stuck
go stack ts = scan table stack ts

is_open : IsTest table Open is_opening
is_open = record { expands = λ x. refl; low = λ x. refl }

is_close : IsTest table Close is_closing
is_close = record { expands = λ x. refl; low = λ x. refl }

is_between : IsTest table Comma is_comma
is_between = record { expands = λ x. refl; low = λ x. refl }

-- what a reader does, the machine does from its start at a level
abbrev GoesAs : ℕ → ReadShape → Type 0
GoesAs d read = (stack : List Sym) (ts : List Token) → go (Shape d ∷ stack) ts ≡ (read ts >>= (λ r. go stack r.1))

-- the closing bracket behind a part
abbrev closes : (ShapeTree → ShapeTree) → ShapeTree × List Token → List Token → Result (ShapeTree × List Token) Stuck
closes make a rest = Ok (make a.0, rest)

abbrev made : (ShapeTree → ShapeTree) → ShapeTree × List Token → Result (ShapeTree × List Token) Stuck
made make a = expect is_closing a.1 >>= closes make a

module _ (d : ℕ) (read : ReadShape) (follows : GoesAs d read) where
  scan_inside : (make : ShapeTree → ShapeTree) (stack : List Sym) (ts : List Token) → go (Open ∷ Shape d ∷ Close ∷ stack) ts ≡ ((expect is_opening ts >>= (λ inside. read inside >>= made make)) >>= (λ r. go stack r.1))
  scan_inside make stack ts =
      scan_test table is_open (Shape d ∷ Close ∷ stack) ts ∙ same_then (expect is_opening ts) _ _ (λ inside. follows (Close ∷ stack) inside ∙ same_then (read inside) _ _ (λ a. scan_test table is_close stack a.1 ∙ sym (then_then (expect is_closing a.1) (closes make a) (λ r. go stack r.1))) ∙ sym (then_then (read inside) (made make) (λ r. go stack r.1))) ∙ sym (then_then (expect is_opening ts) (λ inside. read inside >>= made make) (λ r. go stack r.1))

  scan_pair : (stack : List Sym) (ts : List Token) → go (Open ∷ Shape d ∷ Comma ∷ Shape d ∷ Close ∷ stack) ts ≡ (pair_at read ts >>= (λ r. go stack r.1))
  unfolding pair_at
  scan_pair stack ts =
      let end = λ (r : ShapeTree × List Token). go stack r.1 in
      scan_test table is_open (Shape d ∷ Comma ∷ Shape d ∷ Close ∷ stack) ts ∙ same_then (expect is_opening ts) _ _ (λ inside. follows (Comma ∷ Shape d ∷ Close ∷ stack) inside ∙ same_then (read inside) _ _ (λ a. scan_test table is_between (Shape d ∷ Close ∷ stack) a.1 ∙ same_then (expect is_comma a.1) _ _ (λ second. follows (Close ∷ stack) second ∙ same_then (read second) _ _ (λ b. scan_test table is_close stack b.1 ∙ sym (then_then (expect is_closing b.1) (λ rest. Ok (ShapeTree.pair a.0 b.0, rest)) end)) ∙ sym (then_then (read second) _ end)) ∙ sym (then_then (expect is_comma a.1) _ end)) ∙ sym (then_then (read inside) _ end)) ∙ sym (then_then (expect is_opening ts) _ end)

-- one level
form_from : (d : ℕ) (read : ReadShape) (stack : List Sym) (ts : List Token) (h : ShapeStart) → GoesAs (suc d) read → scan_from table (shape_stack d h) false (suc (length ts)) (λ more. go (more ++ stack) ts) ≡ (cond (is_no_shape h) (Err (Unexpected (suc (length ts)))) (shape_form_at read h ts) >>= (λ r. go stack r.1))
unfolding shape_form_at opt_at table_at
form_from d read stack ts start.Str follows = refl
form_from d read stack ts start.Int follows = refl
form_from d read stack ts start.Bool follows = refl
form_from d read stack ts start.Names follows = refl
form_from d read stack ts start.Pair follows = scan_pair (suc d) read follows stack ts
form_from d read stack ts start.Opt follows = scan_inside (suc d) read follows ShapeTree.opt stack ts
form_from d read stack ts start.Table follows = scan_inside (suc d) read follows ShapeTree.table stack ts
form_from d read stack ts start.Nothing follows = refl

-- no level is left
deep_from : (d : ℕ) (stack : List Sym) (x : Token) (ts : List Token) (h : ShapeStart) → scan_from table (shape_stack d h) true (suc (length ts)) (λ more. go (more ++ stack) ts) ≡ (shape_too_nested h (x ∷ ts) >>= (λ r. go stack r.1))
deep_from d stack x ts start.Str = refl
deep_from d stack x ts start.Int = refl
deep_from d stack x ts start.Bool = refl
deep_from d stack x ts start.Names = refl
deep_from d stack x ts start.Pair = refl
deep_from d stack x ts start.Opt = refl
deep_from d stack x ts start.Table = refl
deep_from d stack x ts start.Nothing = refl

shape_follows : (left d : ℕ) → left ≡ 65 - d → GoesAs d (read_shape left)
unfolding read_shape
shape_follows zero d e stack [] = refl
shape_follows zero d e stack (x ∷ ts) =
    ap (λ b. scan_from table (shape_stack d (shape_of x)) b (suc (length ts)) (λ more. go (more ++ stack) ts)) (lt-ltb 64 d (omega (arith, e))) ∙ deep_from d stack x ts (shape_of x)
shape_follows (suc n) d e stack [] = refl
shape_follows (suc n) d e stack (x ∷ ts) =
    ap (λ b. scan_from table (shape_stack d (shape_of x)) b (suc (length ts)) (λ more. go (more ++ stack) ts)) (le-ltb 64 d (omega (arith, e))) ∙ form_from d (read_shape n) stack ts (shape_of x) (shape_follows n (suc d) (omega (arith, e)))

level_fits : (bound d : ℕ) (t : ShapeTree) → at_most bound (shape_levels d t) ≡ true → d ≤ bound
level_fits bound d ShapeTree.str h = leb-true d bound (and_parts _ _ h).0
level_fits bound d ShapeTree.int h = leb-true d bound (and_parts _ _ h).0
level_fits bound d ShapeTree.bool h = leb-true d bound (and_parts _ _ h).0
level_fits bound d ShapeTree.names h = leb-true d bound (and_parts _ _ h).0
level_fits bound d (ShapeTree.pair a b) h = leb-true d bound (and_parts _ _ h).0
level_fits bound d (ShapeTree.opt a) h = leb-true d bound (and_parts _ _ h).0
level_fits bound d (ShapeTree.table a) h = leb-true d bound (and_parts _ _ h).0

-- one level of the reader, at a token that begins a form
opens : (n : ℕ) (x : Token) (ts : List Token) (h : ShapeStart) → shape_of x ≡ h → is_no_shape h ≡ false → read_shape (suc n) (x ∷ ts) ≡ shape_form_at (read_shape n) h ts
unfolding read_shape
opens n x ts h e some =
    ap (λ k. cond (is_no_shape k) (Err (Unexpected (suc (length ts)))) (shape_form_at (read_shape n) k ts)) e ∙ ap (λ b. cond b (Err (Unexpected (suc (length ts)))) (shape_form_at (read_shape n) h ts)) some

again_inside : (n : ℕ) (make : ShapeTree → ShapeTree) (a : ShapeTree) (rest : List Token) → ((r : List Token) → read_shape n (shape_tokens a ++ r) ≡ Ok (a, r)) → (read_shape n ((shape_tokens a ++ closing ∷ []) ++ rest) >>= made make) ≡ Ok (make a, rest)
again_inside n make a rest first =
    ap (λ ts. read_shape n ts >>= made make) (append_assoc (shape_tokens a) (closing ∷ []) rest) ∙ ap (λ r. r >>= made make) (first (closing ∷ rest))

again_pair : (n : ℕ) (a b : ShapeTree) (rest : List Token) → ((r : List Token) → read_shape n (shape_tokens a ++ r) ≡ Ok (a, r)) → ((r : List Token) → read_shape n (shape_tokens b ++ r) ≡ Ok (b, r)) → pair_at (read_shape n) (opening ∷ ((shape_tokens a ++ (comma ∷ (shape_tokens b ++ closing ∷ []))) ++ rest)) ≡ Ok (ShapeTree.pair a b, rest)
unfolding pair_at
again_pair n a b rest one two =
    let h : ShapeTree → ShapeTree × List Token → Result (ShapeTree × List Token) Stuck = λ a b. expect is_closing b.1 >>= (λ rest. Ok (ShapeTree.pair a b.0, rest)) in
    let g : ShapeTree × List Token → Result (ShapeTree × List Token) Stuck = λ a. expect is_comma a.1 >>= (λ second. read_shape n second >>= h a.0) in
    let last = shape_tokens b ++ closing ∷ [] in
    ap (λ ts. read_shape n ts >>= g) (append_assoc (shape_tokens a) (comma ∷ last) rest) ∙ ap (λ r. r >>= g) (one (comma ∷ (last ++ rest))) ∙ ap (λ ts. read_shape n ts >>= h a) (append_assoc (shape_tokens b) (closing ∷ []) rest) ∙ ap (λ r. r >>= h a) (two (closing ∷ rest))

shape_again : (t : ShapeTree) (bound left d : ℕ) (rest : List Token) → left ≡ suc bound - d → at_most bound (shape_levels d t) ≡ true → read_shape left (shape_tokens t ++ rest) ≡ Ok (t, rest)
unfolding shape_form_at opt_at table_at
shape_again t bound zero d rest e low = let fits = level_fits bound d t low in absurd (omega (arith, e, fits))
shape_again ShapeTree.str bound (suc n) d rest e low = opens n (word keyword.Str) rest start.Str (shape_word keyword.Str) refl
shape_again ShapeTree.int bound (suc n) d rest e low = opens n (word keyword.Int) rest start.Int (shape_word keyword.Int) refl
shape_again ShapeTree.bool bound (suc n) d rest e low = opens n (word keyword.Bool) rest start.Bool (shape_word keyword.Bool) refl
shape_again ShapeTree.names bound (suc n) d rest e low = opens n (word keyword.Names) rest start.Names (shape_word keyword.Names) refl
shape_again (ShapeTree.pair a b) bound (suc n) d rest e low =
    let lb = shape_levels (suc d) b ++ 0 ∷ [] in
    let la = shape_levels (suc d) a ++ (0 ∷ lb) in
    let first = tail_low bound 0 la (tail_low bound d (0 ∷ la) low) in
    let second = tail_low bound 0 lb (rest_low bound (shape_levels (suc d) a) (0 ∷ lb) first) in
    let next : n ≡ suc bound - suc d = omega (arith, e) in
    opens n (word keyword.Pair) _ start.Pair (shape_word keyword.Pair) refl ∙ again_pair n a b rest (λ r. shape_again a bound n (suc d) r next (front_low bound (shape_levels (suc d) a) (0 ∷ lb) first)) (λ r. shape_again b bound n (suc d) r next (front_low bound (shape_levels (suc d) b) (0 ∷ []) second))
shape_again (ShapeTree.opt a) bound (suc n) d rest e low =
    let inner = tail_low bound 0 (shape_levels (suc d) a ++ 0 ∷ []) (tail_low bound d (0 ∷ (shape_levels (suc d) a ++ 0 ∷ [])) low) in
    let next : n ≡ suc bound - suc d = omega (arith, e) in
    opens n (word keyword.Opt) _ start.Opt (shape_word keyword.Opt) refl ∙ again_inside n ShapeTree.opt a rest (λ r. shape_again a bound n (suc d) r next (front_low bound (shape_levels (suc d) a) (0 ∷ []) inner))
shape_again (ShapeTree.table a) bound (suc n) d rest e low =
    let inner = tail_low bound 0 (shape_levels (suc d) a ++ 0 ∷ []) (tail_low bound d (0 ∷ (shape_levels (suc d) a ++ 0 ∷ [])) low) in
    let next : n ≡ suc bound - suc d = omega (arith, e) in
    opens n (word keyword.Table) _ start.Table (shape_word keyword.Table) refl ∙ again_inside n ShapeTree.table a rest (λ r. shape_again a bound n (suc d) r next (front_low bound (shape_levels (suc d) a) (0 ∷ []) inner))

pub shape_reader : Follows table shapes Shape read_shape
shape_reader = record { fits = shape_fits; follows = shape_follows; again = λ t bound left d rest e h low. shape_again t bound left d rest e low }

-- the reader at each kind of first token
pub read_end : (left : ℕ) → read_shape left [] ≡ Err (Unexpected 0)
unfolding read_shape
read_end zero = refl
read_end (suc n) = refl

nested_nothing : (h : ShapeStart) (ts : List Token) → is_no_shape h ≡ true → shape_too_nested h ts ≡ Err (Unexpected (length ts))
nested_nothing start.Nothing ts e = refl
nested_nothing _ ts e = absurd cc

nested_some : (h : ShapeStart) (ts : List Token) → is_no_shape h ≡ false → shape_too_nested h ts ≡ Err (TooNested (length ts))
nested_some start.Nothing ts e = absurd cc
nested_some start.Str ts e = refl
nested_some start.Int ts e = refl
nested_some start.Bool ts e = refl
nested_some start.Names ts e = refl
nested_some start.Pair ts e = refl
nested_some start.Opt ts e = refl
nested_some start.Table ts e = refl

nothing_at : (left : ℕ) (x : Token) (rest : List Token) → is_no_shape (shape_of x) ≡ true → read_shape left (x ∷ rest) ≡ Err (Unexpected (length (x ∷ rest)))
unfolding read_shape
nothing_at zero x rest e = nested_nothing (shape_of x) (x ∷ rest) e
nothing_at (suc n) x rest e = ap (λ b. cond b (Err (Unexpected (length (x ∷ rest)))) (shape_form_at (read_shape n) (shape_of x) rest)) e

deep_at : (x : Token) (rest : List Token) → is_no_shape (shape_of x) ≡ false → read_shape 0 (x ∷ rest) ≡ Err (TooNested (length (x ∷ rest)))
unfolding read_shape
deep_at x rest e = nested_some (shape_of x) (x ∷ rest) e

module _ (x : Token) (rest all : List Token) (h : ShapeStart) (parts : all ≡ x ∷ rest) (kind : h ≡ shape_of x) where
  pub read_nothing : (left : ℕ) → is_no_shape h ≡ true → read_shape left all ≡ Err (Unexpected (length all))
  read_nothing left e =
      ap (read_shape left) parts ∙ nothing_at left x rest (ap is_no_shape (sym kind) ∙ e) ∙ ap (λ l. Err (Unexpected (length l))) (sym parts)

  pub read_deep : (left : ℕ) → left ≡ 0 → is_no_shape h ≡ false → read_shape left all ≡ Err (TooNested (length all))
  read_deep left is_zero e =
      ap (λ n. read_shape n all) is_zero ∙ ap (read_shape 0) parts ∙ deep_at x rest (ap is_no_shape (sym kind) ∙ e) ∙ ap (λ l. Err (TooNested (length l))) (sym parts)

  pub read_form : (left n : ℕ) → left ≡ suc n → is_no_shape h ≡ false → read_shape left all ≡ shape_form_at (read_shape n) h rest
  read_form left n more e =
      ap (λ n. read_shape n all) more ∙ ap (read_shape (suc n)) parts ∙ opens n x rest h (sym kind) e
