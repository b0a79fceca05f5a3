-- How the table file spells bytes, so that a line of it has spaces around its arrow alone, and one line feed at its end.
use Rattle.std.specs.Prelude.{ℕ, ◌+◌, ◌-◌, ◌*◌, ◌/◌, ◌%◌, ◌==◌, Bool, true, cond, not, ◌&&◌, List, [], ◌∷◌, nat_le, Option, Some, None, option_map}
use Rattle.std.specs.Fmt.{digit_glyph}
use Rattle.std.specs.List.{flat_map}

-- a printable character of ASCII other than the space and `%`
abbrev pub is_plain_byte : ℕ → Bool
is_plain_byte byte = nat_le 33 byte && nat_le byte 126 && not (byte == 37)

-- such a byte stands for itself; any other is `%` and its two upper-case hexadecimal digits
abbrev pub spelled : ℕ → List ℕ
spelled byte = cond (is_plain_byte byte) (byte ∷ []) (37 ∷ digit_glyph true (byte / 16) ∷ digit_glyph true (byte % 16) ∷ [])

abbrev pub spelling : List ℕ → List ℕ
spelling bytes = flat_map spelled bytes

-- the byte that a character stands for by itself
abbrev pub plain_byte : ℕ → Option ℕ
plain_byte c = cond (is_plain_byte c) (Some c) None

-- the value of an upper-case hexadecimal digit
abbrev pub upper_digit_value : ℕ → Option ℕ
upper_digit_value c = cond (nat_le 48 c && nat_le c 57) (Some (c - 48)) (cond (nat_le 65 c && nat_le c 70) (Some (c - 55)) None)

-- the byte of two digits, if it does not stand for itself
abbrev pub escaped : Option ℕ → Option ℕ → Option ℕ
escaped (Some high) (Some low) = cond (is_plain_byte (16 * high + low)) None (Some (16 * high + low))
escaped _ _ = None

-- a byte and those behind it, if all could be read
abbrev pub byte_before : Option ℕ → Option (List ℕ) → Option (List ℕ)
byte_before None bytes = None
byte_before (Some byte) bytes = option_map (λ bs. byte ∷ bs) bytes

-- the bytes that a text spells
abbrev pub unspelled : List ℕ → Option (List ℕ)
unspelled [] = Some []
unspelled (c ∷ []) = byte_before (plain_byte c) (Some [])
unspelled (c ∷ d ∷ []) = byte_before (plain_byte c) (unspelled (d ∷ []))
unspelled (c ∷ d ∷ e ∷ text) =
    cond (c == 37) (byte_before (escaped (upper_digit_value d) (upper_digit_value e)) (unspelled text)) (byte_before (plain_byte c) (unspelled (d ∷ e ∷ text)))
