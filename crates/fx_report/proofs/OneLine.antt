-- No printed line has a line feed inside, whatever it is of.
use Rattle.std.proofs.Common.{◌≡◌, ℕ, zero, suc, ◌/◌, ◌%◌, ◌==◌, Bool, true, false, not, ◌&&◌, eqb, List, [], ◌∷◌, ◌++◌, ℤ, pos, negsuc, codes, refl, arith}
use Rattle.std.specs.Fmt.{decimal, digit_glyph, digits, digits_onto, signed_decimal}
use Rattle.std.specs.List.{AllByRecursion, flat_map, join_by}
use Rattle.std.proofs.lemmas.Bool.{and_from, and_parts, cond_both, not_from_false}
use Rattle.std.proofs.lemmas.Bool.Decides.{nat_tests}
use Rattle.fx_expr.specs.Tree.{Tree, TreeRows, str, int, bool, names, pair, nothing, some, table, no_rows, row}
use Rattle.fx_expr.specs.declared.fault.ExprFault.{ExprFault}
use Rattle.fx_expr.specs.declared.fault.ExprFault.TheVariants.{TooLong, Overflow, NotNumber}
use Rattle.fx_expr.specs.Faults.{fault_text}
use Rattle.fx_store.specs.Names.{path_text}
use Rattle.fx_spec.specs.Refusals.{refusal_number}
use Rattle.fx_spec.specs.declared.refusal.Refusal.{Refusal}
use Rattle.fx_spec.specs.declared.refusal.Refusal.TheVariants.{Blocked, Expr}
use Rattle.fx_spec.specs.declared.refusal.End.{End}
use Rattle.fx_spec.specs.declared.refusal.End.TheVariants.{Done, Stopped, Aborted}
use Rattle.fx_report.specs.Print.{comma, is_printable, joined, quote, row_texts, spelled, value_text}
use Rattle.fx_report.specs.Report.{end_text, field, refusal_text}

-- no byte is a line feed
abbrev pub one_line : List ℕ → Bool
one_line [] = true
one_line (c ∷ x) = not (eqb c 10) && one_line x

abbrev pub IsLine : List ℕ → Type 0
IsLine x = one_line x ≡ true

pub line_append : (a b : List ℕ) → IsLine a → IsLine b → IsLine (a ++ b)
line_append [] b p q = q
line_append (c ∷ a) b p q =
    let both = and_parts (not (eqb c 10)) (one_line a) p in
    and_from (not (eqb c 10)) (one_line (a ++ b)) both.0 (line_append a b both.1 q)

-- pieces behind others, as sums of texts are bracketed
abbrev pub behind : List ℕ → List (List ℕ) → List ℕ
behind a [] = a
behind a (b ∷ bs) = behind (a ++ b) bs

pub pieces_line : (a : List ℕ) (bs : List (List ℕ)) → IsLine a → AllByRecursion IsLine bs → IsLine (behind a bs)
pieces_line a [] p all = p
pieces_line a (b ∷ bs) p all = pieces_line (a ++ b) bs (line_append a b p all.0) all.1

-- numbers

glyph_apart : (d : ℕ) → not (eqb (digit_glyph false d) 10) ≡ true
glyph_apart d = grind (arith, nat_tests)

glyph_line : (d : ℕ) (x : List ℕ) → IsLine x → IsLine (digit_glyph false d ∷ x)
glyph_line d x p = and_from (not (eqb (digit_glyph false d) 10)) (one_line x) (glyph_apart d) p

digits_line : (k n : ℕ) (x : List ℕ) → IsLine x → IsLine (digits_onto k 10 false n x)
digits_line zero n x p = p
digits_line (suc k) n x p =
    let next = glyph_line (n % 10) x p in
    cond_both (n / 10 == 0) (digit_glyph false (n % 10) ∷ x) (digits_onto k 10 false (n / 10) (digit_glyph false (n % 10) ∷ x)) IsLine (λ e. next)
    (λ e. digits_line k (n / 10) (digit_glyph false (n % 10) ∷ x) next)

decimal_line : (n : ℕ) → IsLine (decimal n)
unfolding digits
decimal_line n = digits_line 64 n [] refl

integer_line : (n : ℤ) → IsLine (signed_decimal n)
integer_line (pos n) = decimal_line n
integer_line (negsuc n) = decimal_line (suc n)

-- texts between quotation marks

spelled_line : (b : ℕ) → IsLine (spelled b)
unfolding spelled
spelled_line b = cond_both (b == 34) _ _ IsLine (λ e. refl)
    (λ e. cond_both (b == 92) _ _ IsLine (λ e. refl)
    (λ e. cond_both (b == 10) _ _ IsLine (λ e. refl)
    (λ other. cond_both (is_printable b) _ _ IsLine (λ e. and_from (not (eqb b 10)) true (not_from_false (eqb b 10) other) refl)
    (λ e. glyph_line (b / 16) (digit_glyph false (b % 16) ∷ []) (glyph_line (b % 16) [] refl)))))

flat_line : {A : Type 0} (f : A → List ℕ) → ((a : A) → IsLine (f a)) → (xs : List A) → IsLine (flat_map f xs)
flat_line f each [] = refl
flat_line f each (x ∷ xs) = line_append (f x) (flat_map f xs) (each x) (flat_line f each xs)

pub quote_line : (bytes : List ℕ) → IsLine (quote bytes)
unfolding quote
quote_line bytes = line_append (flat_map spelled bytes) (codes "\"") (flat_line spelled spelled_line bytes) refl

-- values

texts_line : (texts : List (List ℕ)) → IsLine (join_by quote comma texts)
texts_line [] = refl
texts_line (t ∷ ts) = line_append (quote t) (flat_map (λ t. comma ++ quote t) ts) (quote_line t) (flat_line (λ t. comma ++ quote t) quote_line ts)

later_line : (pieces : List (List ℕ)) → AllByRecursion IsLine pieces → IsLine (flat_map (λ t. comma ++ t) pieces)
later_line [] all = refl
later_line (t ∷ ts) all = line_append t (flat_map (λ t. comma ++ t) ts) all.0 (later_line ts all.1)

joined_line : (pieces : List (List ℕ)) → AllByRecursion IsLine pieces → IsLine (joined pieces)
joined_line [] all = refl
joined_line (t ∷ ts) all = later_line (t ∷ ts) all

mutual
  pub value_line : (v : Tree) → IsLine (value_text v)
  value_line (str bytes) = quote_line bytes
  value_line (int n) = integer_line n
  value_line (bool true) = refl
  value_line (bool false) = refl
  value_line (names texts) = line_append (join_by quote comma texts) (codes "}") (texts_line texts) refl
  value_line (pair a b) = pieces_line (codes "<") (value_text a ∷ comma ∷ value_text b ∷ codes ">" ∷ []) refl (value_line a, (refl, (value_line b, (refl, tt))))
  value_line nothing = refl
  value_line (some a) = line_append (value_text a) (codes ")") (value_line a) refl
  value_line (table rows) = line_append (joined (row_texts rows)) (codes "]") (joined_line (row_texts rows) (rows_line rows)) refl

  rows_line : (rows : TreeRows) → AllByRecursion IsLine (row_texts rows)
  rows_line no_rows = tt
  rows_line (row key v others) = (pieces_line (quote key) (codes " = " ∷ value_text v ∷ []) (quote_line key) (refl, (value_line v, tt)), rows_line others)

-- fields and ends

pub field_line : (words : List ℕ) (n : ℕ) → IsLine words → IsLine (field words n)
unfolding field
field_line words n p = line_append words (decimal n) p (decimal_line n)

fault_line : (f : ExprFault) → IsLine (fault_text f)
fault_line TooLong = refl
fault_line Overflow = refl
fault_line NotNumber = refl

refusal_line : (r : Refusal) → IsLine (refusal_text r)
refusal_line (Blocked path) = quote_line (path_text path)
refusal_line (Expr f) = fault_line f
refusal_line r = refl

pub end_line : (d : End) → IsLine (end_text d)
end_line Done = refl
end_line (Stopped command refusal) =
    pieces_line (field (codes "stopped ") command) (field (codes " ") (refusal_number refusal) ∷ codes " " ∷ refusal_text refusal ∷ [])
    (field_line (codes "stopped ") command refl) (field_line (codes " ") (refusal_number refusal) refl, (refl, (refusal_line refusal, tt)))
end_line Aborted = refl
