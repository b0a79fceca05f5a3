-- Numbers are read as they are spelled, in decimal digits without leading zeros.
use Rattle.std.proofs.Common.{◌≡◌, ℕ, suc, ◌+◌, ◌-◌, ◌^◌, ◌<◌, ℤ, pos, negsuc, Bool, true, false, cond, ◌&&◌, nat_eq, nat_lt, List, [], ◌∷◌, ◌++◌, length, take, drop, Option, Some, None, Result, Ok, MatchOption, Bor, refl, ap, sym, subst, ◌∙◌, arith, rules, codes}
use Rattle.std.specs.Result.{result_ok}
use Rattle.std.specs.Option.{option_map}
use Rattle.std.specs.List.{list_all, prefix_len}
use Rattle.std.specs.Fmt.{decimal, signed_decimal}
use Rattle.std.specs.Prelude.{bytes_eq}
use Rattle.std.specs.Str.{IsUtf8}
use Rattle.std.specs.Str.Parse.{digits_value, ParsesUnsigned}
use Rattle.std.proofs.lemmas.Bool.{ltb-true, lt-ltb, and_parts, and_from}
use Rattle.std.proofs.lemmas.Bool.Decides.{nat_tests}
use Rattle.std.proofs.lemmas.Str.Parse.{IsNumeralModel, numerals_by_value}
use Rattle.std.proofs.lemmas.Str.{IsUtf8-from_ascii}
use Rattle.std.proofs.lemmas.Fmt.{IsAscii-from_digits, decimal_is_IsNumeral, digits_decimal, decimal_nonempty, parse-decimal}
use Rattle.std.proofs.lemmas.Option.{cond_some, some_pair_parts}
use Rattle.std.proofs.Math.Seq.{drop-append_seam, take-append_seam}
use Rattle.std.specs.Cmp.Lexicographic.{nat_list_eq_equiv, bytes_decides}
use Rattle.fx_report.specs.Readable.{IsInteger}
use Rattle.fx_read_report.specs.Numbers.{EndsDigits, after, is_digit, number_of, leading_number, leading_integer, integer_by, signed, positive, negative}

pub after_is : (words bytes : List ℕ) (r : Option (Bor (List ℕ))) → MatchOption r (bytes_eq (take (length words) bytes) words ≡ false) (λ x. (bytes_eq (take (length words) bytes) words ≡ true) × (x.now ≡ drop (length words) bytes) × (length x.now + length words ≡ length bytes)) → option_map (λ rest. rest.now) r ≡ after words bytes
unfolding after
after_is words bytes None h = ap (λ b. cond b (Some (drop (length words) bytes)) None) (sym h)
after_is words bytes (Some x) h = ap Some h.1 ∙ ap (λ b. cond b (Some (drop (length words) bytes)) None) (sym h.0)

pub own : IsNumeralModel (λ ds. list_all is_digit ds ≡ true) (digits_value 10)
own = numerals_by_value _ (search rules)

pub digits_utf8 : (ds : List ℕ) → list_all is_digit ds ≡ true → IsUtf8 ds
digits_utf8 ds digits = IsUtf8-from_ascii ds (IsAscii-from_digits ds (own.to ds digits))

prefix_step : (b : Bool) (d : ℕ) (ds : List ℕ) → is_digit d ≡ b → list_all is_digit (take (prefix_len is_digit ds) ds) ≡ true → list_all is_digit (take (cond b (1 + prefix_len is_digit ds) 0) (d ∷ ds)) ≡ true
prefix_step true d ds e h =
    let one : suc (prefix_len is_digit ds) ≡ 1 + prefix_len is_digit ds = omega arith in
    subst (λ (k : ℕ). list_all is_digit (take k (d ∷ ds)) ≡ true) one (and_from _ _ e h)
prefix_step false d ds e h = refl

prefix_all : (ds : List ℕ) → list_all is_digit (take (prefix_len is_digit ds) ds) ≡ true
prefix_all [] = refl
prefix_all (d ∷ ds) = prefix_step (is_digit d) d ds refl (prefix_all ds)

pub front_digits : (bytes : List ℕ) (count : ℕ) → count ≡ prefix_len is_digit bytes → list_all is_digit (take count bytes) ≡ true
front_digits bytes count e = ap (λ n. list_all is_digit (take n bytes)) e ∙ prefix_all bytes

-- ---- the laws

-- a number of that text is the one
pub number_is : (text : List ℕ) (n : ℕ) → n < 2 ^ 64 → decimal n ≡ text → number_of text ≡ Some n
unfolding number_of
number_is text n small e =
    let same : digits_value 10 text ≡ n = ap (digits_value 10) (sym e) ∙ (decimal_is_IsNumeral n small).1 in
    let spelled : bytes_eq (decimal n) text ≡ true = (bytes_decides (decimal n) text).1 e in
    rw (same, spelled, lt-ltb n (2 ^ 64) small) refl

pub number_read : (n : ℕ) → n < 2 ^ 64 → number_of (decimal n) ≡ Some n
number_read n small = number_is (decimal n) n small refl

pub number_spelled : (text : List ℕ) (n : ℕ) → number_of text ≡ Some n → (decimal n ≡ text) × (n < 2 ^ 64)
unfolding number_of
number_spelled text n e =
    let v = digits_value 10 text in
    let chosen = cond_some (bytes_eq (decimal v) text && nat_lt v (2 ^ 64)) v n e in
    let parts = and_parts (bytes_eq (decimal v) text) (nat_lt v (2 ^ 64)) chosen.0 in
    (ap decimal (sym chosen.1) ∙ (bytes_decides (decimal v) text).0 parts.0, subst (λ (m : ℕ). m < 2 ^ 64) chosen.1 (ltb-true v (2 ^ 64) parts.1))

no_number : (text : List ℕ) (o : Option ℕ) → number_of text ≡ o → ((n : ℕ) → n < 2 ^ 64 → decimal n ≡ text → ⊥) → o ≡ None
no_number text None e none = refl
no_number text (Some n) e none = let is = number_spelled text n e in absurd (none n is.1 is.0)

-- what `parse` cannot read is no number's text
pub not_parsed : {E : Type 0} (text : List ℕ) (r : Result ℕ E) → None ≡ result_ok r → ParsesUnsigned 64 10 text r → number_of text ≡ None
not_parsed text r none parsed = no_number text (number_of text) refl (λ n small is.
    let read : r ≡ Ok n = parse-decimal 64 n text r small (omega arith) (sym is) parsed in
    let bad : None ≡ Some n = none ∙ ap result_ok read in
    cc)

-- a text that is not that of the number read is none's
pub not_spelled : {E : Type 0} (text : List ℕ) (r : Result ℕ E) (k : ℕ) → Some k ≡ result_ok r → ParsesUnsigned 64 10 text r → bytes_eq (decimal k) text ≡ false → number_of text ≡ None
not_spelled text r k some parsed isnt = no_number text (number_of text) refl (λ n small is.
    let read : r ≡ Ok n = parse-decimal 64 n text r small (omega arith) (sym is) parsed in
    let found : Some k ≡ Some n = some ∙ ap result_ok read in
    let same : k ≡ n = cc in
    let spelled : bytes_eq (decimal k) text ≡ true = (bytes_decides (decimal k) text).1 (ap decimal same ∙ is) in
    let bad : true ≡ false = sym spelled ∙ isnt in
    cc)

none_first : (x : List ℕ) → EndsDigits x → prefix_len is_digit x ≡ 0
none_first [] s = refl
none_first (c ∷ x) s = ap (λ b. cond b (1 + prefix_len is_digit x) 0) s

prefix_of : (ds x : List ℕ) → list_all is_digit ds ≡ true → EndsDigits x → prefix_len is_digit (ds ++ x) ≡ length ds
prefix_of [] x p s = none_first x s
prefix_of (d ∷ ds) x p s =
    let parts = and_parts (is_digit d) (list_all is_digit ds) p in
    let later = prefix_of ds x parts.1 s in
    ap (λ b. cond b (1 + prefix_len is_digit (ds ++ x)) 0) parts.0 ∙ omega (arith, later)

pub leading_read : (n : ℕ) (x : List ℕ) → n < 2 ^ 64 → EndsDigits x → leading_number (decimal n ++ x) ≡ Some (n, x)
unfolding leading_number
leading_read n x small s =
    let ds = decimal n in
    let b = ds ++ x in
    ap (λ m. option_map (λ v. (v, drop m b)) (number_of (take m b))) (prefix_of ds x (digits_decimal own n small) s)
    ∙ (ap (λ t. option_map (λ v. (v, drop (length ds) b)) (number_of t)) (take-append_seam ds x)
    ∙ (ap (λ o. option_map (λ v. (v, drop (length ds) b)) o) (number_read n small) ∙ ap (λ t. Some (n, t)) (drop-append_seam ds x)))

-- what is spelled tells the number
pub decimal_cancel : (m n : ℕ) (x y : List ℕ) → m < 2 ^ 64 → n < 2 ^ 64 → EndsDigits x → EndsDigits y → decimal m ++ x ≡ decimal n ++ y → (m ≡ n) × (x ≡ y)
decimal_cancel m n x y p q s t e = some_pair_parts m n x y (sym (leading_read m x p s) ∙ (ap leading_number e ∙ leading_read n y q t))

-- words

pub after_read : (words x : List ℕ) → after words (words ++ x) ≡ Some x
unfolding after
after_read words x =
    let same : bytes_eq (take (length words) (words ++ x)) words ≡ true = ap (λ t. bytes_eq t words) (take-append_seam words x) ∙ nat_list_eq_equiv.refl words in
    ap (λ b. cond b (Some (drop (length words) (words ++ x))) None) same ∙ ap Some (drop-append_seam words x)

-- integers

no_minus : (ds x : List ℕ) → list_all is_digit ds ≡ true → 0 < length ds → after (codes "-") (ds ++ x) ≡ None
unfolding after
no_minus [] x p some = absurd (omega arith)
no_minus (d ∷ ds) x p some =
    let parts = and_parts (is_digit d) (list_all is_digit ds) p in
    ap (λ b. cond (b && true) (Some (ds ++ x)) None) (differs d parts.0)
  where
    differs : (d : ℕ) → is_digit d ≡ true → nat_eq d 45 ≡ false
    differs d e = grind (arith, nat_tests)

pub integer_read : (z : ℤ) (x : List ℕ) → IsInteger z → EndsDigits x → leading_integer (signed_decimal z ++ x) ≡ Some (z, x)
unfolding leading_integer after
integer_read (pos n) x small s =
    let less : n < 2 ^ 64 = omega arith in
    let fits : nat_lt n (2 ^ 63) ≡ true = lt-ltb n (2 ^ 63) small in
    ap (λ o. integer_by o (decimal n ++ x)) (no_minus (decimal n) x (digits_decimal own n less) (decimal_nonempty n less))
    ∙ (ap (λ o. signed positive o) (leading_read n x less s) ∙ ap (λ b. option_map (λ z. (z, x)) (cond b (Some (pos n)) None)) fits)
integer_read (negsuc n) x small s =
    let less : suc n < 2 ^ 64 = omega arith in
    let fits : nat_lt (2 ^ 63) (suc n) ≡ false = grind (arith, nat_tests) in
    let back : suc n - 1 ≡ n = omega arith in
    let some : nat_eq (suc n) 0 ≡ false = grind (arith, nat_tests) in
    ap (λ o. signed negative o) (leading_read (suc n) x less s)
    ∙ (ap (λ b. option_map (λ z. (z, x)) (cond (nat_eq (suc n) 0) None (cond b None (Some (negsuc (suc n - 1)))))) fits
    ∙ (ap (λ b. option_map (λ z. (z, x)) (cond b None (Some (negsuc (suc n - 1))))) some ∙ ap (λ m. Some (negsuc m, x)) back))
