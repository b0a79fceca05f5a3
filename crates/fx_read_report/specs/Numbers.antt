-- Words and numbers at the front of bytes.
use Rattle.std.specs.Prelude.{◌≡◌, ℕ, ◌-◌, ◌^◌, ℤ, pos, negsuc, Bool, false, cond, ◌&&◌, List, [], ◌∷◌, take, drop, length, nat_le, nat_lt, nat_eq, bytes_eq, Option, Some, None, codes}
use Rattle.std.specs.Option.{option_map, option_and_then}
use Rattle.std.specs.List.{prefix_len}
use Rattle.std.specs.Fmt.{decimal}
use Rattle.std.specs.Str.Parse.{digits_value}

-- what stands behind the words
unfoldable pub after : List ℕ → List ℕ → Option (List ℕ)
after words bytes = cond (bytes_eq (take (length words) bytes) words) (Some (drop (length words) bytes)) None

-- a decimal digit
abbrev pub is_digit : ℕ → Bool
is_digit b = nat_le 48 b && nat_le b 57

-- a text goes on with no digit
abbrev pub EndsDigits : List ℕ → Type 0
EndsDigits [] = Unit {0}
EndsDigits (c ∷ x) = is_digit c ≡ false

-- the number below 2 ^ 64 whose decimal text this is
unfoldable pub number_of : List ℕ → Option ℕ
number_of text =
    let number = digits_value 10 text in
    cond (bytes_eq (decimal number) text && nat_lt number (2 ^ 64)) (Some number) None

-- the number at the front, and what stands behind its digits
unfoldable pub leading_number : List ℕ → Option (ℕ × List ℕ)
leading_number bytes =
    option_map (λ n. (n, drop (prefix_len is_digit bytes) bytes)) (number_of (take (prefix_len is_digit bytes) bytes))

abbrev pub positive : ℕ → Option ℤ
positive n = cond (nat_lt n (2 ^ 63)) (Some (pos n)) None

abbrev pub negative : ℕ → Option ℤ
negative n = cond (nat_eq n 0) None (cond (nat_lt (2 ^ 63) n) None (Some (negsuc (n - 1))))

-- a number with its sign
abbrev pub signed : (ℕ → Option ℤ) → Option (ℕ × List ℕ) → Option (ℤ × List ℕ)
signed sign number = option_and_then (λ r. option_map (λ z. (z, r.1)) (sign r.0)) number

abbrev pub integer_by : Option (List ℕ) → List ℕ → Option (ℤ × List ℕ)
integer_by None bytes = signed positive (leading_number bytes)
integer_by (Some digits) bytes = signed negative (leading_number digits)

-- the integer at the front, with `-` before a negative one, and what stands behind its digits
unfoldable pub leading_integer : List ℕ → Option (ℤ × List ℕ)
leading_integer bytes = integer_by (after (codes "-") bytes) bytes
