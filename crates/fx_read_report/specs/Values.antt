-- The values that a report can print, and what is read of them at the front of bytes. What is spelled is read; what else is
-- read is told apart by printing it again.
use Rattle.std.specs.Prelude.{ℕ, zero, suc, ◌||◌, Bool, true, false, cond, nat_eq, List, [], ◌∷◌, length, Option, Some, None, codes}
use Rattle.std.specs.Borrow.{Bor}
use Rattle.std.specs.List.{AllByRecursion}
use Rattle.std.specs.Option.{option_map, option_and_then}
use Rattle.fx_expr.specs.Bytes.{IsText}
use Rattle.fx_expr.specs.Sets.{IsAscending}
use Rattle.fx_expr.specs.Tree.{Tree, TreeRows, str, int, bool, names, pair, nothing, some, table, no_rows, row, rows}
use Rattle.fx_expr.specs.Views.{tree_of}
use Rattle.fx_expr.specs.declared.value.Value.{Value}
use Rattle.fx_report.specs.Readable.{AreBytes, IsInteger}
use Rattle.fx_read_report.specs.Limits.{Limits}
use Rattle.fx_read_report.specs.Numbers.{after, is_digit, leading_integer}
use Rattle.fx_read_report.specs.Quotes.{unquoted}
use Rattle.fx_read_report.specs.declared.values.Kind.{Kind}
use Rattle.fx_read_report.specs.declared.values.Kind.TheVariants as kind

-- bytes, no more than a text can have
pub record IsPrintedText (text : List ℕ) : Type 0 where
  pub bytes : AreBytes text
  pub short : IsText text

-- the texts of a table
abbrev pub keys_in : TreeRows → List (List ℕ)
keys_in no_rows = []
keys_in (row key v rest) = key ∷ keys_in rest

abbrev mutual
  -- A value that nests at most so deep, itself counted: of texts that can be printed, of integers of 64 bits, and of sets
  -- and tables in strictly ascending order.
  pub IsPrinted : ℕ → Tree → Type 0
  IsPrinted zero v = ⊥
  IsPrinted (suc levels) (str text) = IsPrintedText text
  IsPrinted (suc levels) (int n) = IsInteger n
  IsPrinted (suc levels) (bool b) = Unit {0}
  IsPrinted (suc levels) (names texts) = AllByRecursion IsPrintedText texts × IsAscending texts
  IsPrinted (suc levels) (pair a b) = IsPrinted levels a × IsPrinted levels b
  IsPrinted (suc levels) nothing = Unit {0}
  IsPrinted (suc levels) (some a) = IsPrinted levels a
  IsPrinted (suc levels) (table rows) = ArePrintedRows levels rows × IsAscending (keys_in rows)

  pub ArePrintedRows : ℕ → TreeRows → Type 0
  ArePrintedRows levels no_rows = Unit {0}
  ArePrintedRows levels (row key v rest) = IsPrintedText key × IsPrinted levels v × ArePrintedRows levels rest

-- the kind of value that begins with a byte
abbrev pub kind_of : ℕ → Kind
kind_of b =
    cond (nat_eq b 34) kind.Text (cond (nat_eq b 45 || is_digit b) kind.Integer (cond (nat_eq b 116 || nat_eq b 102) kind.Truth (cond (nat_eq b 123) kind.Names (cond (nat_eq b 60) kind.Pair (cond (nat_eq b 110) kind.Nothing (cond (nat_eq b 115) kind.Some (cond (nat_eq b 91) kind.Table kind.Other)))))))

abbrev pub kind_at : List ℕ → Kind
kind_at [] = kind.Other
kind_at (b ∷ rest) = kind_of b

-- what the readers of the program found, as trees
abbrev pub value_found : Option (Value × Bor (List ℕ)) → Option (Tree × List ℕ)
value_found found = option_map (λ r. (tree_of r.0, r.1.now)) found

-- ---- texts, and lists of pieces

-- the text of a quote
abbrev pub text_at : Limits → List ℕ → Option (List ℕ × List ℕ)
text_at limits bytes = option_and_then (λ t. cond (limits.takes_text t.0) (Some t) None) (unquoted bytes)

-- what stands behind the comma before a next piece
abbrev pub piece_at : List ℕ → Bool → Option (List ℕ)
piece_at bytes true = Some bytes
piece_at bytes false = after (codes ", ") bytes

abbrev pub or_pieces : {A : Type 0} → Option (List ℕ) → Option (List A × List ℕ) → Option (List A × List ℕ)
or_pieces (Some rest) other = Some ([], rest)
or_pieces None other = other

-- pieces with a comma and a space between them, fewer than so many, up to a closing byte
abbrev pub pieces_at : {A : Type 0} → (List ℕ → Option (A × List ℕ)) → ℕ → ℕ → Bool → List ℕ → Option (List A × List ℕ)
pieces_at read close zero first bytes = None
pieces_at read close (suc more) first bytes =
    or_pieces (after (close ∷ []) bytes) (option_and_then (λ start. option_and_then (λ r. option_map (λ m. (r.0 ∷ m.0, m.1)) (pieces_at read close more false r.1)) (read start)) (piece_at bytes first))

-- ---- values, by a reader of what is inside

abbrev pub Reader : Type 0
Reader = List ℕ → Option (Tree × List ℕ)

abbrev pub row_at : Limits → Reader → List ℕ → Option ((List ℕ × Tree) × List ℕ)
row_at limits read bytes = option_and_then (λ k. option_and_then (λ start. option_map (λ v. ((k.0, v.0), v.1)) (read start)) (after (codes " = ") k.1)) (text_at limits bytes)

-- a value with words behind it
abbrev pub before : Reader → List ℕ → List ℕ → Option (Tree × List ℕ)
before read words bytes = option_and_then (λ v. option_map (λ rest. (v.0, rest)) (after words v.1)) (read bytes)

abbrev pub keys_of : List (List ℕ × Tree) → List (List ℕ)
keys_of [] = []
keys_of (e ∷ es) = e.0 ∷ keys_of es

abbrev pub set_within : Limits → List (List ℕ) × List ℕ → Option (Tree × List ℕ)
set_within limits ts = cond (limits.takes_set ts.0) (Some (names ts.0, ts.1)) None

abbrev pub table_within : Limits → List (List ℕ × Tree) × List ℕ → Option (Tree × List ℕ)
table_within limits es = cond (limits.takes_set (keys_of es.0)) (Some (table (rows es.0), es.1)) None

abbrev pub text_value : Limits → List ℕ → Option (Tree × List ℕ)
text_value limits bytes = option_map (λ t. (str t.0, t.1)) (text_at limits bytes)

abbrev pub integer_value : List ℕ → Option (Tree × List ℕ)
integer_value bytes = option_map (λ z. (int z.0, z.1)) (leading_integer bytes)

abbrev pub or_false : Option (List ℕ) → Option (List ℕ) → Option (Tree × List ℕ)
or_false (Some rest) other = Some (bool true, rest)
or_false None other = option_map (λ rest. (bool false, rest)) other

abbrev pub truth_value : List ℕ → Option (Tree × List ℕ)
truth_value bytes = or_false (after (codes "true") bytes) (after (codes "false") bytes)

abbrev pub names_value : Limits → List ℕ → Option (Tree × List ℕ)
names_value limits bytes = option_and_then (λ inner. option_and_then (set_within limits) (pieces_at (text_at limits) 125 (length bytes) true inner)) (after (codes "{") bytes)

abbrev pub pair_value : Reader → List ℕ → Option (Tree × List ℕ)
pair_value read bytes = option_and_then (λ inner. option_and_then (λ a. option_map (λ b. (pair a.0 b.0, b.1)) (before read (codes ">") a.1)) (before read (codes ", ") inner)) (after (codes "<") bytes)

abbrev pub nothing_value : List ℕ → Option (Tree × List ℕ)
nothing_value bytes = option_map (λ rest. (nothing, rest)) (after (codes "none") bytes)

abbrev pub some_value : Reader → List ℕ → Option (Tree × List ℕ)
some_value read bytes = option_and_then (λ inner. option_map (λ a. (some a.0, a.1)) (before read (codes ")") inner)) (after (codes "some(") bytes)

abbrev pub table_value : Limits → Reader → List ℕ → Option (Tree × List ℕ)
table_value limits read bytes = option_and_then (λ inner. option_and_then (table_within limits) (pieces_at (row_at limits read) 93 (length bytes) true inner)) (after (codes "[") bytes)

abbrev pub value_by : Limits → Reader → Kind → Reader
value_by limits read kind.Text bytes = text_value limits bytes
value_by limits read kind.Integer bytes = integer_value bytes
value_by limits read kind.Truth bytes = truth_value bytes
value_by limits read kind.Names bytes = names_value limits bytes
value_by limits read kind.Pair bytes = pair_value read bytes
value_by limits read kind.Nothing bytes = nothing_value bytes
value_by limits read kind.Some bytes = some_value read bytes
value_by limits read kind.Table bytes = table_value limits read bytes
value_by limits read kind.Other bytes = None

-- the value at the front, which nests at most so deep, and what stands behind it
abbrev pub value_at : Limits → ℕ → List ℕ → Option (Tree × List ℕ)
value_at limits zero bytes = None
value_at limits (suc levels) bytes = value_by limits (value_at limits levels) (kind_at bytes) bytes

-- what was read with nothing behind it
abbrev pub alone : {A : Type 0} → Option (A × List ℕ) → Option A
alone None = None
alone (Some (a, [])) = Some a
alone (Some (a, b ∷ rest)) = None
