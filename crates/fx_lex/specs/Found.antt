-- What stands at the front of bytes.
use Rattle.std.specs.Prelude.{◌≡◌, ℕ, ◌<◌, ◌≤◌, List, Option, Some, None, take, drop, length, slice_index}
use Rattle.fx_lex.specs.declared.token.Token.TheVariants as token
use Rattle.fx_lex.specs.declared.scan.Found.{Found}
use Rattle.fx_lex.specs.declared.scan.Found.TheVariants as found
use Rattle.fx_lex.specs.Reading.{IsGap, StandsAt, HasNoPiece}

-- a gap or a token of so many bytes, or neither; of a string the quote at its front
abbrev pub IsFoundAt : List ℕ → Found → Type 0
IsFoundAt bytes (found.Gap n) = (0 < n) × (n ≤ length bytes) × IsGap (take n bytes) (drop n bytes)
IsFoundAt bytes (found.Word n) = (0 < n) × (n ≤ length bytes) × StandsAt (take n bytes) (drop n bytes) (token.Word (take n bytes))
IsFoundAt bytes (found.Number number n) = (0 < n) × (n ≤ length bytes) × StandsAt (take n bytes) (drop n bytes) (token.Number number)
IsFoundAt bytes (found.Mark mark n) = (0 < n) × (n ≤ length bytes) × StandsAt (take n bytes) (drop n bytes) (token.Mark mark)
IsFoundAt bytes found.Quote = slice_index bytes 0 ≡ 34
IsFoundAt bytes found.Nothing = HasNoPiece bytes

-- a string of so many bytes, or nothing
abbrev pub IsStringAt : List ℕ → Option (List ℕ × ℕ) → Type 0
IsStringAt bytes (Some (text, n)) = (0 < n) × (n ≤ length bytes) × StandsAt (take n bytes) (drop n bytes) (token.Str text)
IsStringAt bytes None = HasNoPiece bytes
