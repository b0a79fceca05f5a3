-- A value is read as it is spelled.
use Rattle.std.proofs.Common.{◌≡◌, ℕ, zero, suc, ◌+◌, ◌^◌, ◌<◌, true, false, cond, nat_eq, pos, List, [], ◌∷◌, ◌++◌, length, codes, Option, Some, None, refl, sym, ap, ◌∙◌, append_assoc, length-append, arith}
use Rattle.std.specs.Fmt.{decimal}
use Rattle.std.specs.List.{AllByRecursion, flat_map, join_by, list_all}
use Rattle.std.specs.Option.{option_map, option_and_then}
use Rattle.std.proofs.lemmas.Bool.{and_parts}
use Rattle.std.proofs.lemmas.Bool.Decides.{nat_tests}
use Rattle.std.proofs.lemmas.Fmt.{digits_decimal, decimal_nonempty}
use Rattle.fx_report.specs.Readable.{AreBytes, IsInteger}
use Rattle.fx_expr.specs.Tree.{Tree, TreeRows, str, int, bool, names, pair, nothing, some, table, no_rows, row, rows, entries}
use Rattle.fx_report.specs.Print.{comma, joined, quote, row_text, row_texts, value_text}
use Rattle.fx_report.proofs.Rows.{joined_rows}
use Rattle.fx_read_report.specs.Limits.{Limits}
use Rattle.fx_read_report.specs.Numbers.{EndsDigits, after, is_digit}
use Rattle.fx_read_report.specs.Values.{Reader, before, keys_in, keys_of, kind_at, kind_of, or_false, or_pieces, piece_at, pieces_at, row_at, set_within, table_within, text_at, value_at, value_by}
use Rattle.fx_read_report.specs.declared.values.Kind.{Kind}
use Rattle.fx_read_report.specs.declared.values.Kind.TheVariants as kind
use Rattle.fx_read_report.proofs.Digits.{after_read, integer_read, own}
use Rattle.fx_read_report.proofs.Scans.{quote_read}

-- ---- what is within limits

pub record IsTextIn (limits : Limits) (text : List ℕ) : Type 0 where
  pub bytes : AreBytes text
  pub taken : limits.takes_text text ≡ true

abbrev mutual
  pub IsIn : Limits → ℕ → Tree → Type 0
  IsIn limits zero v = ⊥
  IsIn limits (suc levels) (str text) = IsTextIn limits text
  IsIn limits (suc levels) (int n) = IsInteger n
  IsIn limits (suc levels) (bool b) = Unit {0}
  IsIn limits (suc levels) (names texts) = AllByRecursion (IsTextIn limits) texts × (limits.takes_set texts ≡ true)
  IsIn limits (suc levels) (pair a b) = IsIn limits levels a × IsIn limits levels b
  IsIn limits (suc levels) nothing = Unit {0}
  IsIn limits (suc levels) (some a) = IsIn limits levels a
  IsIn limits (suc levels) (table rows) = AreRowsIn limits levels rows × (limits.takes_set (keys_in rows) ≡ true)

  pub AreRowsIn : Limits → ℕ → TreeRows → Type 0
  AreRowsIn limits levels no_rows = Unit {0}
  AreRowsIn limits levels (row key v rest) = IsTextIn limits key × IsIn limits levels v × AreRowsIn limits levels rest

-- ---- kinds, which the first byte tells

abbrev kind_in : Tree → Kind
kind_in (str t) = kind.Text
kind_in (int n) = kind.Integer
kind_in (bool b) = kind.Truth
kind_in (names ts) = kind.Names
kind_in (pair a b) = kind.Pair
kind_in nothing = kind.Nothing
kind_in (some a) = kind.Some
kind_in (table rs) = kind.Table

digit_kind : (c : ℕ) → is_digit c ≡ true → kind_of c ≡ kind.Integer
digit_kind c e =
    let other : nat_eq c 34 ≡ false = grind (arith, nat_tests) in
    let minus : nat_eq c 45 ≡ false = grind (arith, nat_tests) in
    rw (other, minus, e) refl

number_kind : (ds x : List ℕ) → list_all is_digit ds ≡ true → 0 < length ds → kind_at (ds ++ x) ≡ kind.Integer
number_kind [] x p h = absurd (omega arith)
number_kind (c ∷ ds) x p h = digit_kind c (and_parts (is_digit c) (list_all is_digit ds) p).0

decimal_kind : (n : ℕ) (x : List ℕ) → n < 2 ^ 64 → kind_at (decimal n ++ x) ≡ kind.Integer
decimal_kind n x small = number_kind (decimal n) x (digits_decimal own n small) (decimal_nonempty n small)

text_kind : (limits : Limits) (levels : ℕ) (v : Tree) (x : List ℕ) → IsIn limits (suc levels) v → kind_at (value_text v ++ x) ≡ kind_in v
unfolding quote
text_kind m l (int (pos n)) x p = decimal_kind n x (omega arith)
text_kind m l (bool true) x p = refl
text_kind m l (bool false) x p = refl
text_kind m l v x p = refl

-- ---- pieces

pub record Pieces (A : Type 0) : Type 1 where
  pub piece : A → List ℕ
  pub Is : A → Type 0
  pub close : ℕ
  pub read : List ℕ → Option (A × List ℕ)
  pub marks : (a : A) (x : List ℕ) → after (close ∷ []) (piece a ++ x) ≡ None
  pub other : (x : List ℕ) → after (close ∷ []) (44 ∷ x) ≡ None
  pub stops : (x : List ℕ) → EndsDigits (close ∷ x)
  pub reads : (a : A) (x : List ℕ) → Is a → EndsDigits x → read (piece a ++ x) ≡ Some (a, x)

module _ {A : Type 0} (l : Pieces A) where
  abbrev after_each : List A → List ℕ
  after_each ps = flat_map (λ a. comma ++ l.piece a) ps

  front_stops : (ps : List A) (y : List ℕ) → EndsDigits (after_each ps ++ l.close ∷ y)
  front_stops [] y = l.stops y
  front_stops (a ∷ ps) y = refl

  few : (ps : List A) (y : List ℕ) → length ps < length (after_each ps ++ l.close ∷ y)
  few [] y = omega arith
  few (a ∷ ps) y = let later = few ps y in omega (arith, later, length-append (after_each ps) (l.close ∷ y), length-append (comma ++ l.piece a ++ after_each ps) (l.close ∷ y), length-append (comma ++ l.piece a) (after_each ps), length-append (after_each (a ∷ ps)) (l.close ∷ y), length-append comma (l.piece a))

  abbrev going : ℕ → Option (A × List ℕ) → Option (List A × List ℕ)
  going n o = option_and_then (λ r. option_map (λ m. (r.0 ∷ m.0, m.1)) (pieces_at l.read l.close n false r.1)) o

  read_on : (ps : List A) (n : ℕ) (y : List ℕ) → AllByRecursion l.Is ps → length ps < n → pieces_at l.read l.close n false (after_each ps ++ l.close ∷ y) ≡ Some (ps, y)
  read_on ps zero y p h = absurd (omega arith)
  read_on [] (suc n) y p h = ap (λ o. or_pieces o (option_and_then (λ start. going n (l.read start)) (piece_at (l.close ∷ y) false))) (after_read (l.close ∷ []) y)
  read_on (a ∷ ps) (suc n) y p h =
      let x = after_each ps ++ l.close ∷ y in
      let form : after_each (a ∷ ps) ++ l.close ∷ y ≡ codes ", " ++ (l.piece a ++ x) = append_assoc (comma ++ l.piece a) (after_each ps) (l.close ∷ y) in
      ap (pieces_at l.read l.close (suc n) false) form
      ∙ (ap (λ o. or_pieces o (option_and_then (λ start. going n (l.read start)) (piece_at (codes ", " ++ (l.piece a ++ x)) false))) (l.other (32 ∷ (l.piece a ++ x)))
      ∙ (ap (λ o. option_and_then (λ start. going n (l.read start)) o) (after_read (codes ", ") (l.piece a ++ x))
      ∙ (ap (going n) (l.reads a x p.0 (front_stops ps y)) ∙ ap (λ o. option_map (λ m. (a ∷ m.0, m.1)) o) (read_on ps n y p.1 (omega arith)))))

  pub pieces_read : (ps : List A) (n : ℕ) (y : List ℕ) → AllByRecursion l.Is ps → length ps < n → pieces_at l.read l.close n true (join_by l.piece comma ps ++ l.close ∷ y) ≡ Some (ps, y)
  pieces_read ps zero y p h = absurd (omega arith)
  pieces_read [] (suc n) y p h = ap (λ o. or_pieces o (going n (l.read (l.close ∷ y)))) (after_read (l.close ∷ []) y)
  pieces_read (a ∷ ps) (suc n) y p h =
      let x = after_each ps ++ l.close ∷ y in
      ap (pieces_at l.read l.close (suc n) true) (append_assoc (l.piece a) (after_each ps) (l.close ∷ y))
      ∙ (ap (λ o. or_pieces o (going n (l.read (l.piece a ++ x)))) (l.marks a x)
      ∙ (ap (going n) (l.reads a x p.0 (front_stops ps y)) ∙ ap (λ o. option_map (λ m. (a ∷ m.0, m.1)) o) (read_on ps n y p.1 (omega arith))))

  pub few_pieces : (ps : List A) (y : List ℕ) → length ps < suc (length (join_by l.piece comma ps ++ l.close ∷ y))
  few_pieces [] y = omega arith
  few_pieces (a ∷ ps) y =
      let later = few ps y in
      omega (arith, later, ap length (append_assoc (l.piece a) (after_each ps) (l.close ∷ y)), length-append (l.piece a) (after_each ps ++ l.close ∷ y))

-- ---- texts and rows

text_read : (m : Limits) (t x : List ℕ) → IsTextIn m t → text_at m (quote t ++ x) ≡ Some (t, x)
text_read m t x p =
    ap (λ o. option_and_then (λ r. cond (m.takes_text r.0) (Some r) None) o) (quote_read t x p.bytes) ∙ ap (λ b. cond b (Some (t, x)) None) p.taken

no_quote : (t x : List ℕ) → after (125 ∷ []) (quote t ++ x) ≡ None
unfolding after quote
no_quote t x = refl

no_row : (e : List ℕ × Tree) (x : List ℕ) → after (93 ∷ []) (row_text e ++ x) ≡ None
unfolding after quote
no_row e x = refl

no_comma : (x : List ℕ) → after (125 ∷ []) (44 ∷ x) ≡ None
unfolding after
no_comma x = refl

no_row_comma : (x : List ℕ) → after (93 ∷ []) (44 ∷ x) ≡ None
unfolding after
no_row_comma x = refl

abbrev texts : Limits → Pieces (List ℕ)
texts m = record { piece = quote; Is = IsTextIn m; close = 125; read = text_at m; marks = no_quote; other = no_comma; stops = λ x. refl; reads = λ t x p s. text_read m t x p }

row_form : (k v x : List ℕ) → ((k ++ codes " = ") ++ v) ++ x ≡ k ++ (codes " = " ++ (v ++ x))
row_form k v x = simp append_assoc

row_read : (m : Limits) (read : Reader) (e : List ℕ × Tree) (x : List ℕ) → IsTextIn m e.0 → read (value_text e.1 ++ x) ≡ Some (e.1, x) → row_at m read (row_text e ++ x) ≡ Some (e, x)
row_read m read e x p reads =
    ap (row_at m read) (row_form (quote e.0) (value_text e.1) x)
    ∙ (ap (λ o. option_and_then (λ k. option_and_then (λ start. option_map (λ v. ((k.0, v.0), v.1)) (read start)) (after (codes " = ") k.1)) o) (text_read m e.0 (codes " = " ++ (value_text e.1 ++ x)) p)
    ∙ (ap (λ o. option_and_then (λ start. option_map (λ v. ((e.0, v.0), v.1)) (read start)) o) (after_read (codes " = ") (value_text e.1 ++ x)) ∙ ap (λ o. option_map (λ v. ((e.0, v.0), v.1)) o) reads))

rows_entries : (rs : TreeRows) → rows (entries rs) ≡ rs
rows_entries no_rows = refl
rows_entries (row k v rs) = ap (λ t. row k v t) (rows_entries rs)

keys_same : (rs : TreeRows) → keys_of (entries rs) ≡ keys_in rs
keys_same no_rows = refl
keys_same (row k v rs) = ap (λ t. k ∷ t) (keys_same rs)

-- ---- values

not_true : (x : List ℕ) → after (codes "true") (codes "false" ++ x) ≡ None
unfolding after
not_true x = refl

before_read : (read : Reader) (v : Tree) (words x : List ℕ) → read (value_text v ++ (words ++ x)) ≡ Some (v, words ++ x) → before read words (value_text v ++ (words ++ x)) ≡ Some (v, x)
before_read read v words x reads =
    ap (λ o. option_and_then (λ r. option_map (λ rest. (r.0, rest)) (after words r.1)) o) reads ∙ ap (λ o. option_map (λ rest. (v, rest)) o) (after_read words x)

set_form : (t x : List ℕ) → (123 ∷ (t ++ codes "}")) ++ x ≡ codes "{" ++ (t ++ 125 ∷ x)
set_form t x = simp append_assoc

table_form : (t x : List ℕ) → (91 ∷ (t ++ codes "]")) ++ x ≡ codes "[" ++ (t ++ 93 ∷ x)
table_form t x = simp append_assoc

pair_form : (a b x : List ℕ) → ((((60 ∷ a) ++ comma) ++ b) ++ codes ">") ++ x ≡ codes "<" ++ (a ++ (codes ", " ++ (b ++ (codes ">" ++ x))))
pair_form a b x = simp append_assoc

some_form : (a x : List ℕ) → ((codes "some(" ++ a) ++ codes ")") ++ x ≡ codes "some(" ++ (a ++ (codes ")" ++ x))
some_form a x = simp append_assoc

table_text : (rs : TreeRows) (x : List ℕ) → value_text (table rs) ++ x ≡ codes "[" ++ (join_by row_text comma (entries rs) ++ 93 ∷ x)
table_text rs x =
    let same : joined (row_texts rs) ≡ join_by row_text comma (entries rs) = ap (λ r. joined (row_texts r)) (sym (rows_entries rs)) ∙ joined_rows (entries rs) in
    table_form (joined (row_texts rs)) x ∙ ap (λ t. codes "[" ++ (t ++ 93 ∷ x)) same

-- what is spelled is read, whatever stands behind it but a digit
abbrev pub Reads : Limits → ℕ → Type 0
Reads m levels = (v : Tree) (x : List ℕ) → IsIn m levels v → EndsDigits x → value_at m levels (value_text v ++ x) ≡ Some (v, x)

module _ (m : Limits) (levels : ℕ) (later : Reads m levels) where
  abbrev read : Reader
  read = value_at m levels

  abbrev rows_of : Pieces (List ℕ × Tree)
  rows_of = record {
    piece = row_text;
    Is = λ e. IsTextIn m e.0 × IsIn m levels e.1;
    close = 93;
    read = row_at m read;
    marks = no_row;
    other = no_row_comma;
    stops = λ x. refl;
    reads = λ e x p s. row_read m read e x p.0 (later e.1 x p.1 s);
  }

  rows_all : (rs : TreeRows) → AreRowsIn m levels rs → AllByRecursion rows_of.Is (entries rs)
  rows_all no_rows p = tt
  rows_all (row k v rs) p = ((p.0, p.1), rows_all rs p.2)

  abbrev sets : Option (List (List ℕ) × List ℕ) → Option (Tree × List ℕ)
  sets o = option_and_then (set_within m) o

  abbrev tables : Option (List (List ℕ × Tree) × List ℕ) → Option (Tree × List ℕ)
  tables o = option_and_then (table_within m) o

  of_kind : (v : Tree) (x : List ℕ) → IsIn m (suc levels) v → EndsDigits x → value_by m read (kind_in v) (value_text v ++ x) ≡ Some (v, x)
  of_kind (str t) x p s = ap (option_map (λ r. (str r.0, r.1))) (text_read m t x p)
  of_kind (int n) x p s = ap (option_map (λ r. (int r.0, r.1))) (integer_read n x p s)
  of_kind (bool true) x p s = ap (λ o. or_false o (after (codes "false") (codes "true" ++ x))) (after_read (codes "true") x)
  of_kind (bool false) x p s =
      ap (λ o. or_false o (after (codes "false") (codes "false" ++ x))) (not_true x) ∙ ap (λ o. option_map (λ r. (bool false, r)) o) (after_read (codes "false") x)
  of_kind (names ts) x p s =
      let inner = join_by quote comma ts ++ 125 ∷ x in
      ap (value_by m read kind.Names) (set_form (join_by quote comma ts) x)
      ∙ (ap (λ o. option_and_then (λ i. sets (pieces_at (text_at m) 125 (suc (length inner)) true i)) o) (after_read (codes "{") inner)
      ∙ (ap sets (pieces_read (texts m) ts (suc (length inner)) x p.0 (few_pieces (texts m) ts x)) ∙ ap (λ b. cond b (Some (names ts, x)) None) p.1))
  of_kind (pair a b) x p s =
      let second = value_text b ++ (codes ">" ++ x) in
      let inner = value_text a ++ (codes ", " ++ second) in
      ap (value_by m read kind.Pair) (pair_form (value_text a) (value_text b) x)
      ∙ (ap (λ o. option_and_then (λ i. option_and_then (λ r. option_map (λ q. (pair r.0 q.0, q.1)) (before read (codes ">") r.1)) (before read (codes ", ") i)) o) (after_read (codes "<") inner)
      ∙ (ap (λ o. option_and_then (λ r. option_map (λ q. (pair r.0 q.0, q.1)) (before read (codes ">") r.1)) o) (before_read read a (codes ", ") second (later a (codes ", " ++ second) p.0 refl))
      ∙ ap (λ o. option_map (λ q. (pair a q.0, q.1)) o) (before_read read b (codes ">") x (later b (codes ">" ++ x) p.1 refl))))
  of_kind nothing x p s = ap (λ o. option_map (λ r. (nothing, r)) o) (after_read (codes "none") x)
  of_kind (some a) x p s =
      let inner = value_text a ++ (codes ")" ++ x) in
      ap (value_by m read kind.Some) (some_form (value_text a) x)
      ∙ (ap (λ o. option_and_then (λ i. option_map (λ q. (some q.0, q.1)) (before read (codes ")") i)) o) (after_read (codes "some(") inner)
      ∙ ap (λ o. option_map (λ q. (some q.0, q.1)) o) (before_read read a (codes ")") x (later a (codes ")" ++ x) p refl)))
  of_kind (table rs) x p s =
      let es = entries rs in
      let inner = join_by row_text comma es ++ 93 ∷ x in
      let up : m.takes_set (keys_of es) ≡ true = ap m.takes_set (keys_same rs) ∙ p.1 in
      ap (value_by m read kind.Table) (table_text rs x)
      ∙ (ap (λ o. option_and_then (λ i. tables (pieces_at (row_at m read) 93 (suc (length inner)) true i)) o) (after_read (codes "[") inner)
      ∙ (ap tables (pieces_read rows_of es (suc (length inner)) x (rows_all rs p.0) (few_pieces rows_of es x))
      ∙ (ap (λ b. cond b (Some (table (rows es), x)) None) up ∙ ap (λ r. Some (table r, x)) (rows_entries rs))))

pub value_read : (m : Limits) (levels : ℕ) → Reads m levels
value_read m zero v x p s = absurd p
value_read m (suc levels) v x p s =
    ap (λ k. value_by m (value_at m levels) k (value_text v ++ x)) (text_kind m levels v x p) ∙ of_kind m levels (value_read m levels) v x p s
