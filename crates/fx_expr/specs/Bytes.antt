-- Texts and words, as lists of bytes.
use Rattle.std.specs.Prelude.{◌≡◌, ℕ, ◌≤◌, Bool, true, false, ◌||◌, ◌&&◌, List, [], ◌∷◌, length, nat_eq, nat_le, slice_range}
use Rattle.std.specs.List.{list_all}
pub use Rattle.fx_text.specs.Bytes.{IsText}
use Rattle.fx_expr.specs.declared.word.TheConstants.{WORD_LIMIT}

-- a letter of ASCII or `_`
abbrev pub begins_word : ℕ → Bool
begins_word b = (nat_le 65 b && nat_le b 90) || ((nat_le 97 b && nat_le b 122) || nat_eq b 95)

-- such a byte, or a decimal digit
abbrev pub is_word_byte : ℕ → Bool
is_word_byte b = begins_word b || (nat_le 48 b && nat_le b 57)

-- the first byte is there and begins a word
abbrev pub has_word_start : List ℕ → Bool
has_word_start [] = false
has_word_start (b ∷ bytes) = begins_word b

-- a word: a letter or `_`, then letters, digits or `_`, at most so many bytes in all
pub record IsWord (bytes : List ℕ) : Type 0 where
  pub start : has_word_start bytes ≡ true
  pub each : list_all is_word_byte bytes ≡ true
  pub short : length bytes ≤ WORD_LIMIT

-- a word stands in the text from one place up to another
pub record IsWordAt (text : List ℕ) (start stop : ℕ) : Type 0 where
  pub ordered : start ≤ stop
  pub within : stop ≤ length text
  pub word : IsWord (slice_range text start stop)
