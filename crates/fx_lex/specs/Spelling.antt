-- How each token is spelled, in bytes of ASCII: 34 is `"`, 48 is `0`, 92 is `\`.
use Rattle.std.specs.Prelude.{◌≡◌, ◌≢◌, ℕ, ◌+◌, ◌-◌, ◌*◌, ◌≤◌, Bool, true, not, ◌&&◌, ◌||◌, ◌⊎◌, pos, List, [], ◌∷◌, ◌++◌, map, length, fold, flat_map, nat_le, nat_lt, ◌==◌, if◌then◌else◌}
use Rattle.std.specs.List.{list_all}
use Rattle.std.specs.Char.{digit_value}
use Rattle.fx_expr.specs.Bytes.{is_word_byte, has_word_start}
use Rattle.fx_lex.specs.declared.token.Token.{Token}
use Rattle.fx_lex.specs.declared.token.Token.TheVariants as token
use Rattle.fx_lex.specs.declared.token.Mark.{Mark}
use Rattle.fx_lex.specs.declared.token.Mark.TheVariants.{LeftParen, RightParen, LeftBrace, RightBrace, LeftAngle, RightAngle, Comma, Colon, ColonColon, Bar, Equal, EqualEqual, Plus, PlusPlus, Minus}

-- a letter of ASCII or `_`, then letters, digits or `_`, however many
abbrev pub IsWordRun : List ℕ → Type 0
IsWordRun bytes = (has_word_start bytes ≡ true) × (list_all is_word_byte bytes ≡ true)

-- a decimal digit
abbrev pub is_digit : ℕ → Bool
is_digit b = nat_le 48 b && nat_le b 57

-- one digit or more
abbrev pub IsDigitRun : List ℕ → Type 0
IsDigitRun bytes = (bytes ≢ []) × (list_all is_digit bytes ≡ true)

-- the number that digits write in base ten
abbrev pub digits_value : List ℕ → ℕ
digits_value digits = fold (λ n digit. 10 * n + (digit - 48)) 0 digits

-- no digit follows a `0` at the front
abbrev pub HasNoLeadingZero : List ℕ → Type 0
HasNoLeadingZero (b ∷ c ∷ digits) = b ≢ 48
HasNoLeadingZero _ = Unit {0}

-- the largest number that a text may write: 2 ^ 63 - 1
abbrev pub number_limit : ℕ
number_limit = 9223372036854775807

-- An item of a string: a byte that stands for itself, `\` with a byte, or `\x` with two digits.
pub data Item : Type 0 where
  Plain : ℕ → Item
  Escaped : ℕ → Item
  Hex : ℕ → ℕ → Item

-- from 0x20 to 0x7E other than `"` and `\`, or from 0x80 on; `\"`, `\\` or `\n`; hexadecimal digits of either case
abbrev pub is_item : Item → Bool
is_item (Plain b) = (nat_le 32 b && (nat_le b 126 && (not (b == 34) && not (b == 92)))) || nat_le 128 b
is_item (Escaped b) = b == 34 || (b == 92 || b == 110)
is_item (Hex high low) = nat_lt (digit_value high) 16 && nat_lt (digit_value low) 16

-- the bytes of an item
abbrev pub item_bytes : Item → List ℕ
item_bytes (Plain b) = b ∷ []
item_bytes (Escaped b) = 92 ∷ b ∷ []
item_bytes (Hex high low) = 92 ∷ 120 ∷ high ∷ low ∷ []

-- the byte that an item stands for: `\n` stands for a line feed
abbrev pub item_value : Item → ℕ
item_value (Plain b) = b
item_value (Escaped b) = if b == 110 then 10 else b
item_value (Hex high low) = 16 * digit_value high + digit_value low

-- a string between its quotes, and its value
pub record IsString (bytes value : List ℕ) : Type 0 where
  pub items : List Item
  pub right : list_all is_item items ≡ true
  pub spelled : bytes ≡ 34 ∷ (flat_map item_bytes items ++ 34 ∷ [])
  pub stands : value ≡ map item_value items

abbrev pub mark_bytes : Mark → List ℕ
mark_bytes LeftParen = 40 ∷ []
mark_bytes RightParen = 41 ∷ []
mark_bytes LeftBrace = 123 ∷ []
mark_bytes RightBrace = 125 ∷ []
mark_bytes LeftAngle = 60 ∷ []
mark_bytes RightAngle = 62 ∷ []
mark_bytes Comma = 44 ∷ []
mark_bytes Colon = 58 ∷ []
mark_bytes ColonColon = 58 ∷ 58 ∷ []
mark_bytes Bar = 124 ∷ []
mark_bytes Equal = 61 ∷ []
mark_bytes EqualEqual = 61 ∷ 61 ∷ []
mark_bytes Plus = 43 ∷ []
mark_bytes PlusPlus = 43 ∷ 43 ∷ []
mark_bytes Minus = 45 ∷ []

-- what is cut from a text in one piece, before its limits are looked at
abbrev pub IsLexeme : List ℕ → Type 0
IsLexeme bytes = (IsWordRun bytes ⊎ IsDigitRun bytes) ⊎ (((value : List ℕ) × IsString bytes value) ⊎ ((mark : Mark) × (bytes ≡ mark_bytes mark)))

-- the bytes spell the token: a word has at most 64 bytes, a number is within its limit and has no leading zero; `def` is a
-- word before it is kept
abbrev pub Spells : List ℕ → Token → Type 0
Spells bytes (token.Word word) = IsWordRun bytes × (length bytes ≤ 64) × (word ≡ bytes)
Spells bytes (token.Number n) = IsDigitRun bytes × HasNoLeadingZero bytes × (digits_value bytes ≤ number_limit) × (n ≡ pos (digits_value bytes))
Spells bytes (token.Str value) = IsString bytes value
Spells bytes (token.Mark mark) = bytes ≡ mark_bytes mark
Spells bytes token.Def = ⊥
