-- Reading one item of a string.
use Rattle.std.specs.Prelude.{ℕ, Bool, Option, Some, None, List, [], ◌∷◌, ◌==◌, if◌then◌else◌}
use Rattle.fx_lex.specs.Spelling.{Plain, Escaped, Hex, is_item, item_value}

-- the byte stands for itself
abbrev pub is_plain : ℕ → Bool
is_plain b = is_item (Plain b)

-- after `\x`
abbrev pub hex_item : List ℕ → Option (ℕ × ℕ)
hex_item [] = None
hex_item (high ∷ []) = None
hex_item (high ∷ low ∷ _) = if is_item (Hex high low) then Some (item_value (Hex high low), 4) else None

-- after `\`
abbrev pub escaped_item : List ℕ → Option (ℕ × ℕ)
escaped_item [] = None
escaped_item (b ∷ rest) = if b == 120 then hex_item rest else (if is_item (Escaped b) then Some (item_value (Escaped b), 2) else None)

-- the value and the length of the item at the front
abbrev pub first_item : List ℕ → Option (ℕ × ℕ)
first_item [] = None
first_item (b ∷ rest) = if b == 92 then escaped_item rest else (if is_item (Plain b) then Some (b, 1) else None)
