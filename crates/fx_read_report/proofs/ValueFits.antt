-- A value that was read is one that can be printed.
use Rattle.std.proofs.Common.{◌≡◌, ℕ, zero, suc, ◌-◌, ◌^◌, ◌<◌, ◌≤◌, ℤ, pos, negsuc, Bool, true, false, cond, ◌||◌, nat_eq, nat_le, nat_lt, List, [], ◌∷◌, length, Option, Some, None, codes, refl, sym, ap, subst, ◌∙◌, arith}
use Rattle.std.specs.List.{AllByRecursion}
use Rattle.std.specs.Option.{option_map, option_and_then}
use Rattle.std.proofs.lemmas.Bool.Decides.{nat_tests}
use Rattle.std.proofs.lemmas.Bool.{cond_both}
use Rattle.fx_expr.specs.Tree.{Tree, rows}
use Rattle.fx_report.specs.Print.{is_printable}
use Rattle.fx_report.specs.Readable.{AreBytes, IsInteger}
use Rattle.fx_read_report.specs.Limits.{ascends, strict}
use Rattle.fx_read_report.specs.Numbers.{after, integer_by, leading_integer, leading_number, negative, positive, signed}
use Rattle.fx_read_report.specs.Quotes.{IsPlace, digit_value, high_step, low_step, scan, step, stepped, unquoted}
use Rattle.fx_read_report.specs.declared.quotes.Place.{Place}
use Rattle.fx_read_report.specs.declared.quotes.Place.TheVariants.{Plain, Escape, High, Low}
use Rattle.fx_read_report.specs.declared.quotes.Step.{Step}
use Rattle.fx_read_report.specs.declared.quotes.Step.TheVariants.{Go, Byte, End, Bad}
use Rattle.fx_read_report.specs.Values.{ArePrintedRows, IsPrinted, IsPrintedText, Reader, before, keys_in, keys_of, kind_at, or_false, or_pieces, piece_at, pieces_at, row_at, set_within, table_within, text_at, value_at, value_by}
use Rattle.fx_read_report.specs.declared.values.Kind.{Kind}
use Rattle.fx_read_report.specs.declared.values.Kind.TheVariants as kind
use Rattle.fx_read_report.proofs.ValueLoops.{ascends_is}

-- ---- what holds of whatever was read

abbrev pub Fits : {A : Type 0} → (A → Type 0) → Option (A × List ℕ) → Type 0
Fits P None = Unit {0}
Fits P (Some r) = P r.0

module _ {A B : Type 0} (P : A → Type 0) (Q : B → Type 0) where
  then_fits : (o : Option (A × List ℕ)) (f : A × List ℕ → Option (B × List ℕ)) → Fits P o → ((r : A × List ℕ) → P r.0 → Fits Q (f r)) → Fits Q (option_and_then f o)
  then_fits None f p h = tt
  then_fits (Some r) f p h = h r p

  map_fits : (o : Option (A × List ℕ)) (g : A → B) → Fits P o → ((a : A) → P a → Q (g a)) → Fits Q (option_map (λ r. (g r.0, r.1)) o)
  map_fits None g p h = tt
  map_fits (Some r) g p h = h r.0 p

module _ {A : Type 0} (P : A → Type 0) where
  behind_fits : (o : Option (List ℕ)) (f : List ℕ → Option (A × List ℕ)) → ((x : List ℕ) → Fits P (f x)) → Fits P (option_and_then f o)
  behind_fits None f h = tt
  behind_fits (Some x) f h = h x

  left_fits : (o : Option (List ℕ)) (a : A) → P a → Fits P (option_map (λ x. (a, x)) o)
  left_fits None a p = tt
  left_fits (Some x) a p = p

  if_fits : (b : Bool) (r : A × List ℕ) → (b ≡ true → P r.0) → Fits P (cond b (Some r) None)
  if_fits true r h = h refl
  if_fits false r h = tt

-- ---- texts

abbrev StepFits : Step → Type 0
StepFits (Go place) = IsPlace place
StepFits (Byte b) = b < 256
StepFits End = Unit {0}
StepFits Bad = Unit {0}

plain_by : (q s p : Bool) (b : ℕ) → is_printable b ≡ p → StepFits (cond q End (cond s (Go Escape) (cond p (Byte b) Bad)))
plain_by true s p b e = tt
plain_by false true p b e = tt
plain_by false false true b e = grind (arith, nat_tests)
plain_by false false false b e = tt

escape_by : (q s n h : Bool) (b : ℕ) → nat_eq b 34 ≡ q → nat_eq b 92 ≡ s → StepFits (cond (q || s) (Byte b) (cond n (Byte 10) (cond h (Go High) Bad)))
escape_by true s n h b e f = grind (arith, nat_tests)
escape_by false true n h b e f = grind (arith, nat_tests)
escape_by false false true h b e f = omega arith
escape_by false false false true b e f = tt
escape_by false false false false b e f = tt

digit_small : (c d : ℕ) → digit_value c ≡ Some d → d < 16
digit_small c d e = grind (arith, nat_tests)

high_fits : (o : Option ℕ) (c : ℕ) → digit_value c ≡ o → StepFits (high_step o)
high_fits None c e = tt
high_fits (Some d) c e = digit_small c d e

low_fits : (o : Option ℕ) (high c : ℕ) → high < 16 → digit_value c ≡ o → StepFits (low_step high o)
low_fits None high c h e = tt
low_fits (Some low) high c h e = let small = digit_small c low e in omega (arith, h, small)

step_fits : (place : Place) (c : ℕ) → IsPlace place → StepFits (step place c)
step_fits Plain c p = plain_by (nat_eq c 34) (nat_eq c 92) (is_printable c) c refl
step_fits Escape c p = escape_by (nat_eq c 34) (nat_eq c 92) (nat_eq c 110) (nat_eq c 120) c refl refl
step_fits High c p = high_fits (digit_value c) c refl
step_fits (Low high) c p = low_fits (digit_value c) high c p refl

stepped_fits : (s : Step) (rest : List ℕ) → StepFits s → ((place : Place) → IsPlace place → Fits AreBytes (scan place rest)) → Fits AreBytes (stepped s rest (λ next. scan next rest))
stepped_fits (Go place) rest p later = later place p
stepped_fits (Byte b) rest p later = map_fits AreBytes AreBytes (scan Plain rest) (λ t. b ∷ t) (later Plain tt) (λ t h. (p, h))
stepped_fits End rest p later = tt
stepped_fits Bad rest p later = tt

scan_fits : (bytes : List ℕ) (place : Place) → IsPlace place → Fits AreBytes (scan place bytes)
scan_fits [] place p = tt
scan_fits (c ∷ rest) place p = stepped_fits (step place c) rest (step_fits place c p) (λ next q. scan_fits rest next q)

unquoted_fits : (bytes : List ℕ) → Fits AreBytes (unquoted bytes)
unfolding unquoted
unquoted_fits [] = tt
unquoted_fits (b ∷ rest) = cond_both (nat_eq b 34) (scan Plain rest) None (Fits AreBytes) (λ e. scan_fits rest Plain tt) (λ e. tt)

text_fits : (bytes : List ℕ) → Fits IsPrintedText (text_at strict bytes)
text_fits bytes =
    then_fits AreBytes IsPrintedText (unquoted bytes) (λ t. cond (nat_le (length t.0) 1048576) (Some t) None) (unquoted_fits bytes)
    (λ t p. if_fits IsPrintedText (nat_le (length t.0) 1048576) t (λ e. record { bytes = p; short = few (length t.0) e }))
  where
    few : (n : ℕ) → nat_le n 1048576 ≡ true → n ≤ 1048576
    few n e = grind (arith, nat_tests)

-- ---- integers

positive_fits : (n : ℕ) (x : List ℕ) → Fits IsInteger (option_map (λ z. (z, x)) (positive n))
positive_fits n x = by (nat_lt n (2 ^ 63)) refl
  where
    by : (b : Bool) → nat_lt n (2 ^ 63) ≡ b → Fits IsInteger (option_map (λ z. (z, x)) (cond b (Some (pos n)) None))
    by true e = grind (arith, nat_tests)
    by false e = tt

negative_fits : (n : ℕ) (x : List ℕ) → Fits IsInteger (option_map (λ z. (z, x)) (negative n))
negative_fits zero x = tt
negative_fits (suc n) x = by (nat_eq (suc n) 0) (nat_lt (2 ^ 63) (suc n)) refl
  where
    by : (z b : Bool) → nat_lt (2 ^ 63) (suc n) ≡ b → Fits IsInteger (option_map (λ z. (z, x)) (cond z None (cond b None (Some (negsuc (suc n - 1))))))
    by true b e = tt
    by false true e = tt
    by false false e = small e
      where
        small : nat_lt (2 ^ 63) (suc n) ≡ false → suc n - 1 < 2 ^ 63
        small e = grind (arith, nat_tests)

signed_fits : (sign : ℕ → Option ℤ) (o : Option (ℕ × List ℕ)) → ((n : ℕ) (x : List ℕ) → Fits IsInteger (option_map (λ z. (z, x)) (sign n))) → Fits IsInteger (signed sign o)
signed_fits sign None h = tt
signed_fits sign (Some r) h = h r.0 r.1

integer_by_fits : (o : Option (List ℕ)) (bytes : List ℕ) → Fits IsInteger (integer_by o bytes)
integer_by_fits None bytes = signed_fits positive (leading_number bytes) positive_fits
integer_by_fits (Some digits) bytes = signed_fits negative (leading_number digits) negative_fits

integer_fits : (bytes : List ℕ) → Fits IsInteger (leading_integer bytes)
unfolding leading_integer
integer_fits bytes = integer_by_fits (after (codes "-") bytes) bytes

-- ---- lists of pieces

or_fits : {A : Type 0} (P : A → Type 0) (o : Option (List ℕ)) (other : Option (List A × List ℕ)) → Fits (AllByRecursion P) other → Fits (AllByRecursion P) (or_pieces o other)
or_fits P (Some rest) other h = tt
or_fits P None other h = h

pieces_fit : {A : Type 0} (P : A → Type 0) (read : List ℕ → Option (A × List ℕ)) (close : ℕ) → ((x : List ℕ) → Fits P (read x)) → (n : ℕ) (first : Bool) (bytes : List ℕ) → Fits (AllByRecursion P) (pieces_at read close n first bytes)
pieces_fit P read close each zero first bytes = tt
pieces_fit P read close each (suc n) first bytes =
    or_fits P (after (close ∷ []) bytes) _ (behind_fits (AllByRecursion P) (piece_at bytes first) (λ start. option_and_then (λ r. option_map (λ m. (r.0 ∷ m.0, m.1)) (pieces_at read close n false r.1)) (read start)) (λ start.
    then_fits P (AllByRecursion P) (read start) (λ r. option_map (λ m. (r.0 ∷ m.0, m.1)) (pieces_at read close n false r.1)) (each start) (λ r p.
    map_fits (AllByRecursion P) (AllByRecursion P) (pieces_at read close n false r.1) (λ l. r.0 ∷ l) (pieces_fit P read close each n false r.1) (λ l q. (p, q)))))

-- ---- values

module _ (levels : ℕ) (read : Reader) (inner : (x : List ℕ) → Fits (IsPrinted levels) (read x)) where
  abbrev RowFits : List ℕ × Tree → Type 0
  RowFits e = IsPrintedText e.0 × IsPrinted levels e.1

  abbrev Is : Tree → Type 0
  Is = IsPrinted (suc levels)

  all_rows : (es : List (List ℕ × Tree)) → AllByRecursion RowFits es → ArePrintedRows levels (rows es)
  all_rows [] p = tt
  all_rows (e ∷ es) p = (p.0.0, p.0.1, all_rows es p.1)

  keys_same : (es : List (List ℕ × Tree)) → keys_of es ≡ keys_in (rows es)
  keys_same [] = refl
  keys_same (e ∷ es) = ap (λ l. e.0 ∷ l) (keys_same es)

  row_fits : (x : List ℕ) → Fits RowFits (row_at strict read x)
  row_fits x =
      then_fits IsPrintedText RowFits (text_at strict x) (λ k. option_and_then (λ start. option_map (λ v. ((k.0, v.0), v.1)) (read start)) (after (codes " = ") k.1)) (text_fits x) (λ k p.
      behind_fits RowFits (after (codes " = ") k.1) (λ start. option_map (λ v. ((k.0, v.0), v.1)) (read start)) (λ start.
      map_fits (IsPrinted levels) RowFits (read start) (λ v. (k.0, v)) (inner start) (λ v q. (p, q))))

  before_fits : (words x : List ℕ) → Fits (IsPrinted levels) (before read words x)
  before_fits words x =
      then_fits (IsPrinted levels) (IsPrinted levels) (read x) (λ v. option_map (λ rest. (v.0, rest)) (after words v.1)) (inner x) (λ v p. left_fits (IsPrinted levels) (after words v.1) v.0 p)

  truth_fits : (o p : Option (List ℕ)) → Fits Is (or_false o p)
  truth_fits (Some x) p = tt
  truth_fits None p = left_fits Is p (Tree.bool false) tt

  by_fits : (k : Kind) (x : List ℕ) → Fits Is (value_by strict read k x)
  by_fits kind.Text x = map_fits IsPrintedText Is (text_at strict x) Tree.str (text_fits x) (λ t p. p)
  by_fits kind.Integer x = map_fits IsInteger Is (leading_integer x) Tree.int (integer_fits x) (λ z p. p)
  by_fits kind.Truth x = truth_fits (after (codes "true") x) (after (codes "false") x)
  by_fits kind.Names x =
      behind_fits Is (after (codes "{") x) (λ y. option_and_then (set_within strict) (pieces_at (text_at strict) 125 (length x) true y)) (λ y.
      then_fits (AllByRecursion IsPrintedText) Is (pieces_at (text_at strict) 125 (length x) true y) (set_within strict) (pieces_fit IsPrintedText (text_at strict) 125 text_fits (length x) true y) (λ ts p.
      if_fits Is (ascends ts.0) (Tree.names ts.0, ts.1) (λ e. (p, ascends_is ts.0 e))))
  by_fits kind.Pair x =
      behind_fits Is (after (codes "<") x) (λ y. option_and_then (λ a. option_map (λ b. (Tree.pair a.0 b.0, b.1)) (before read (codes ">") a.1)) (before read (codes ", ") y)) (λ y.
      then_fits (IsPrinted levels) Is (before read (codes ", ") y) (λ a. option_map (λ b. (Tree.pair a.0 b.0, b.1)) (before read (codes ">") a.1)) (before_fits (codes ", ") y) (λ a p.
      map_fits (IsPrinted levels) Is (before read (codes ">") a.1) (λ b. Tree.pair a.0 b) (before_fits (codes ">") a.1) (λ b q. (p, q))))
  by_fits kind.Nothing x = left_fits Is (after (codes "none") x) Tree.nothing tt
  by_fits kind.Some x =
      behind_fits Is (after (codes "some(") x) (λ y. option_map (λ a. (Tree.some a.0, a.1)) (before read (codes ")") y)) (λ y.
      map_fits (IsPrinted levels) Is (before read (codes ")") y) Tree.some (before_fits (codes ")") y) (λ a p. p))
  by_fits kind.Table x =
      behind_fits Is (after (codes "[") x) (λ y. option_and_then (table_within strict) (pieces_at (row_at strict read) 93 (length x) true y)) (λ y.
      then_fits (AllByRecursion RowFits) Is (pieces_at (row_at strict read) 93 (length x) true y) (table_within strict) (pieces_fit RowFits (row_at strict read) 93 row_fits (length x) true y) (λ es p.
      if_fits Is (ascends (keys_of es.0)) (Tree.table (rows es.0), es.1) (λ e. (all_rows es.0 p, ascends_is (keys_in (rows es.0)) (ap ascends (sym (keys_same es.0)) ∙ e)))))
  by_fits kind.Other x = tt

value_fits : (levels : ℕ) (x : List ℕ) → Fits (IsPrinted levels) (value_at strict levels x)
value_fits zero x = tt
value_fits (suc levels) x = by_fits levels (value_at strict levels) (value_fits levels) (kind_at x) x

pub found_fits : (levels : ℕ) (bytes : List ℕ) (v : Tree) (x : List ℕ) → Some (v, x) ≡ value_at strict levels bytes → IsPrinted levels v
found_fits levels bytes v x e = subst (Fits (IsPrinted levels)) (sym e) (value_fits levels bytes)
