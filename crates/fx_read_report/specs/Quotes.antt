-- Bytes between quotation marks, read byte by byte: 34 is `"`, 92 is `\`, 110 is `n`, 120 is `x`. What is spelled is read,
-- and more: a byte that has a shorter spelling is read by its two digits too.
use Rattle.std.specs.Prelude.{ℕ, ◌+◌, ◌-◌, ◌*◌, ◌==◌, cond, ◌&&◌, ◌||◌, ◌<◌, List, [], ◌∷◌, nat_le, Option, Some, None}
use Rattle.std.specs.Option.{option_map}
use Rattle.fx_report.specs.Print.{is_printable}
use Rattle.fx_read_report.specs.declared.quotes.Place.{Place}
use Rattle.fx_read_report.specs.declared.quotes.Place.TheVariants.{Plain, Escape, High, Low}
use Rattle.fx_read_report.specs.declared.quotes.Step.{Step}
use Rattle.fx_read_report.specs.declared.quotes.Step.TheVariants.{Go, Byte, End, Bad}

-- the value of a lower-case hexadecimal digit
abbrev pub digit_value : ℕ → Option ℕ
digit_value c = cond (nat_le 48 c && nat_le c 57) (Some (c - 48)) (cond (nat_le 97 c && nat_le c 102) (Some (c - 87)) None)

-- what follows from a byte between the marks
abbrev pub plain_step : ℕ → Step
plain_step b = cond (b == 34) End (cond (b == 92) (Go Escape) (cond (is_printable b) (Byte b) Bad))

abbrev pub escape_step : ℕ → Step
escape_step b = cond ((b == 34) || (b == 92)) (Byte b) (cond (b == 110) (Byte 10) (cond (b == 120) (Go High) Bad))

abbrev pub high_step : Option ℕ → Step
high_step None = Bad
high_step (Some high) = Go (Low high)

abbrev pub low_step : ℕ → Option ℕ → Step
low_step high None = Bad
low_step high (Some low) = Byte (16 * high + low)

abbrev pub step : Place → ℕ → Step
step Plain b = plain_step b
step Escape b = escape_step b
step High b = high_step (digit_value b)
step (Low high) b = low_step high (digit_value b)

abbrev pub byte_onto : ℕ → Option (List ℕ × List ℕ) → Option (List ℕ × List ℕ)
byte_onto b read = option_map (λ r. (b ∷ r.0, r.1)) read

abbrev pub stepped : Step → List ℕ → (Place → Option (List ℕ × List ℕ)) → Option (List ℕ × List ℕ)
stepped (Go place) rest read = read place
stepped (Byte b) rest read = byte_onto b (read Plain)
stepped End rest read = Some ([], rest)
stepped Bad rest read = None

-- the bytes that are spelled from a place on up to the closing mark, and what stands behind it
abbrev pub scan : Place → List ℕ → Option (List ℕ × List ℕ)
scan place [] = None
scan place (b ∷ rest) = stepped (step place b) rest (λ next. scan next rest)

-- the bytes between quotation marks at the front, and what stands behind them
unfoldable pub unquoted : List ℕ → Option (List ℕ × List ℕ)
unquoted [] = None
unquoted (b ∷ rest) = cond (b == 34) (scan Plain rest) None

-- the digit that was read has a value
abbrev pub IsPlace : Place → Type 0
IsPlace Plain = Unit {0}
IsPlace Escape = Unit {0}
IsPlace High = Unit {0}
IsPlace (Low high) = high < 16

abbrev pub GoesToPlace : Step → Type 0
GoesToPlace (Go place) = IsPlace place
GoesToPlace (Byte b) = Unit {0}
GoesToPlace End = Unit {0}
GoesToPlace Bad = Unit {0}
