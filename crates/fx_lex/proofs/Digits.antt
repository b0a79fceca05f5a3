-- The value of digits, digit by digit.
use Rattle.std.proofs.Common.{◌≡◌, ℕ, ◌+◌, ◌-◌, ◌*◌, ◌<◌, ◌≤◌, List, [], ◌∷◌, length, take, drop, get_or, sym, ap, ◌∙◌, arith, take-append-drop}
use Rattle.std.specs.List.{fold}
use Rattle.std.proofs.lemmas.List.Sums.{fold-append, fold_more}
use Rattle.fx_lex.specs.Spelling.{digits_value}

grows : (n : ℕ) (digits : List ℕ) → n ≤ fold (λ n digit. 10 * n + (digit - 48)) n digits
grows n [] = omega arith
grows n (d ∷ digits) = let rest = grows (10 * n + (d - 48)) digits in omega (arith, rest)

pub value_more : (digits : List ℕ) (i : ℕ) → i < length digits → digits_value (take (i + 1) digits) ≡ 10 * digits_value (take i digits) + (get_or digits i 0 - 48)
value_more digits i h = fold_more (λ n digit. 10 * n + (digit - 48)) 0 digits i 0 h

-- the value of a front is at most that of all digits
pub value_grows : (digits : List ℕ) (i : ℕ) → digits_value (take i digits) ≤ digits_value digits
value_grows digits i =
    let joined = ap digits_value (sym (take-append-drop i digits)) ∙ fold-append (λ n digit. 10 * n + (digit - 48)) 0 (take i digits) (drop i digits) in
    let rest = grows (digits_value (take i digits)) (drop i digits) in
    omega (arith, joined, rest)
