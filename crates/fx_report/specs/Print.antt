-- How bytes and values are printed. Every printed text is plain ASCII, whatever the bytes are.
use Rattle.std.specs.Prelude.{ℕ, ◌/◌, ◌%◌, ◌==◌, Bool, true, false, ◌&&◌, if◌then◌else◌, List, [], ◌∷◌, ◌++◌, codes, nat_le}
use Rattle.std.specs.Fmt.{digit_glyph, signed_decimal}
use Rattle.std.specs.List.{flat_map, join_by}
use Rattle.fx_expr.specs.Tree.{Tree, TreeRows, str, int, bool, names, pair, nothing, some, table, no_rows, row}

-- a printable character of ASCII, the space included
abbrev pub is_printable : ℕ → Bool
is_printable byte = nat_le 32 byte && nat_le byte 126

-- the two lower-case hexadecimal digits of a byte
abbrev pub hex_pair : ℕ → List ℕ
hex_pair byte = digit_glyph false (byte / 16) ∷ digit_glyph false (byte % 16) ∷ []

-- how a byte is spelled between quotation marks
unfoldable pub spelled : ℕ → List ℕ
spelled byte =
    if byte == 34 then codes "\\\""
    else
    (if byte == 92 then codes "\\\\"
    else
    (if byte == 10 then codes "\\n"
    else (if is_printable byte then byte ∷ [] else codes "\\x" ++ hex_pair byte)))

-- the bytes between quotation marks
unfoldable pub quote : List ℕ → List ℕ
quote bytes = codes "\"" ++ flat_map spelled bytes ++ codes "\""

-- what stands between the pieces of a list
abbrev pub comma : List ℕ
comma = codes ", "

-- the pieces, with a comma and a space between them
abbrev pub joined : List (List ℕ) → List ℕ
joined pieces = join_by (λ piece. piece) comma pieces

abbrev pub truth_text : Bool → List ℕ
truth_text true = codes "true"
truth_text false = codes "false"

abbrev mutual
  -- the printed form of a value
  pub value_text : Tree → List ℕ
  value_text (str bytes) = quote bytes
  value_text (int n) = signed_decimal n
  value_text (bool b) = truth_text b
  value_text (names texts) = codes "{" ++ join_by quote comma texts ++ codes "}"
  value_text (pair a b) = codes "<" ++ value_text a ++ comma ++ value_text b ++ codes ">"
  value_text nothing = codes "none"
  value_text (some a) = codes "some(" ++ value_text a ++ codes ")"
  value_text (table rows) = codes "[" ++ joined (row_texts rows) ++ codes "]"

  -- the printed form of each row of a table
  pub row_texts : TreeRows → List (List ℕ)
  row_texts no_rows = []
  row_texts (row key a rest) = (quote key ++ codes " = " ++ value_text a) ∷ row_texts rest

-- the printed form of one row
abbrev pub row_text : List ℕ × Tree → List ℕ
row_text entry = quote entry.0 ++ codes " = " ++ value_text entry.1
