-- What std's `parse` reads, in the words of numerals.
use Rattle.std.proofs.Common.{◌≡◌, ◌≢◌, ℕ, zero, suc, ◌^◌, ◌≤◌, ℤ, pos, negsuc, neg_ℤ, Bool, true, false, cond, List, [], ◌∷◌, length, drop, slice_index, MatchOption, Result, Ok, Err, refl, ap, sym, ◌∙◌, arith}
use Rattle.std.specs.Result.{result_ok}
use Rattle.std.specs.Str.{all_ascii_digits, IsAscii, IsUtf8}
use Rattle.std.specs.Str.Parse.{IsNumeral, digits_value, starts_with_minus, without_leading_sign, signed_digits_value, ParsesSigned}
use Rattle.std.specs.Fmt.{signed_decimal}
use Rattle.std.specs.Int.RustNames.{FitsSigned}
use Rattle.std.proofs.lemmas.Bool.{ltb-true, lt-ltb, eqb-true, and_from}
use Rattle.std.proofs.lemmas.Str.Parse.{IsNumeralModel, numerals_by_value, tells_all_ascii_digits, without_leading_plus_none}
use Rattle.std.proofs.lemmas.Fmt.{IsAscii-from_digits, length_signed_le}
use Rattle.std.proofs.lemmas.Str.{IsUtf8-from_ascii}
use Rattle.fx_base.proofs.Booleans.{second_true, first_true}
use mir.Syntax.{w64}
use Rattle.fx_expr.specs.Eval.{fits_64, digits_in, is_numeral, numeral_value, spells_64}

pub own_numerals : IsNumeralModel (λ ds. all_ascii_digits ds ≡ true) (digits_value 10)
own_numerals = numerals_by_value _ tells_all_ascii_digits

not_true : (b : Bool) → (b ≡ true → ⊥) → b ≡ false
not_true true f = absurd (f refl)
not_true false f = refl

pub fits : (z : ℤ) → FitsSigned w64 z → fits_64 z ≡ true
fits (pos n) h = lt-ltb n (2 ^ 63) h.sfits
fits (negsuc n) h = lt-ltb n (2 ^ 63) h.sfits

pub fits_back : (z : ℤ) → fits_64 z ≡ true → FitsSigned w64 z
fits_back (pos n) e = record { sfits = ltb-true n (2 ^ 63) e }
fits_back (negsuc n) e = record { sfits = ltb-true n (2 ^ 63) e }

numeral : (bs : List ℕ) → IsNumeral 10 (digits_in bs) → is_numeral bs ≡ true
numeral bs h = and_from _ _ (lt-ltb 0 (length (digits_in bs)) h.0) (own_numerals.from (digits_in bs) h.1)

numeral_back : (bs : List ℕ) → is_numeral bs ≡ true → IsNumeral 10 (digits_in bs)
numeral_back bs e = (ltb-true 0 (length (digits_in bs)) (first_true _ _ e), own_numerals.to (digits_in bs) (second_true _ _ e))

same_digits : (bs : List ℕ) → slice_index bs 0 ≢ 43 → without_leading_sign bs ≡ digits_in bs
same_digits bs other = ap (λ l. cond (starts_with_minus bs) (drop 1 bs) l) (without_leading_plus_none bs other)

same_value : (bs : List ℕ) → slice_index bs 0 ≢ 43 → signed_digits_value 10 bs ≡ numeral_value bs
same_value bs other = ap (λ l. cond (starts_with_minus bs) (neg_ℤ (pos (digits_value 10 l))) (pos (digits_value 10 l))) (same_digits bs other)

pub parsed : {E : Type 0} (bs : List ℕ) (r : Result ℤ E) → slice_index bs 0 ≢ 43 → ParsesSigned w64 10 bs r → MatchOption (result_ok r) (spells_64 bs ≡ false) (λ n. (spells_64 bs ≡ true) × (numeral_value bs ≡ n))
parsed bs (Ok n) other h =
    let ds : IsNumeral 10 (digits_in bs) = rw (same_digits bs other) at h.0.0 in
    let fit : FitsSigned w64 (numeral_value bs) = rw (same_value bs other) at h.0.1 in
    (and_from _ _ (numeral bs ds) (fits _ fit), sym (same_value bs other) ∙ sym h.1)
parsed bs (Err e) other h =
    not_true (spells_64 bs) λ good.
    h (rw (same_digits bs other) (numeral_back bs (first_true _ _ good)), rw (same_value bs other) (fits_back _ (second_true _ _ good)))

minus_ascii : (bs : List ℕ) (b : Bool) → starts_with_minus bs ≡ b → IsAscii (cond b (drop 1 bs) bs) → IsAscii bs
minus_ascii bs false e h = h
minus_ascii [] true e h = h
minus_ascii (c ∷ bs) true e h = at
  where
    at : IsAscii (c ∷ bs)
    at zero = omega (arith, ltb-true, eqb-true c 45 e)
    at (suc i) = h i

-- a numeral is text
pub numeral_utf8 : (bs : List ℕ) → (IsUtf8 bs → ⊥) → spells_64 bs ≡ false
numeral_utf8 bs other =
    not_true (spells_64 bs) λ good.
    other (IsUtf8-from_ascii bs (minus_ascii bs (starts_with_minus bs) refl (IsAscii-from_digits (digits_in bs) (numeral_back bs (first_true _ _ good)).1)))

pub decimal_short : (z : ℤ) → FitsSigned w64 z → length (signed_decimal z) ≤ 1048576
decimal_short z h = omega (arith, length_signed_le 19 z (omega (arith, h.sfits)) h.sfits)
