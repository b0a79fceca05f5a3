-- The number whose decimal text a text is.
use Rattle.std.proofs.Common.{◌≡◌, ℕ, ◌+◌, ◌-◌, ◌^◌, ◌<◌, Bool, true, false, cond, ◌&&◌, ⊎_elim, List, Some, None, Result, Ok, refl, sym, ap, ◌∙◌, subst, arith}
use Rattle.std.specs.Prelude.{nat_lt}
use Rattle.std.specs.Fmt.{decimal}
use Rattle.std.specs.Str.{bytes_eq}
use Rattle.std.specs.Result.{result_ok}
use Rattle.std.specs.Str.Parse.{digits_value, ParsesUnsigned}
use Rattle.std.proofs.lemmas.Bool.{ltb-true, lt-ltb, and_parts}
use Rattle.std.proofs.lemmas.Bool.Decides.{eqb_tells}
use Rattle.std.proofs.lemmas.Fmt.{decimal_is_IsNumeral, parse-decimal}
use Rattle.std.proofs.lemmas.Slice.Eq.{bytes_eq-Decides}
use Rattle.fx_words.specs.Job.{decimal_number}

-- a number of that text is the one
pub number_is : (limit : ℕ) (text : List ℕ) (n : ℕ) → n < limit → n < 2 ^ 64 → decimal n ≡ text → decimal_number limit text ≡ Some n
number_is limit text n small wide e =
    let same : digits_value 10 text ≡ n = ap (digits_value 10) (sym e) ∙ (decimal_is_IsNumeral n wide).1 in
    let own : bytes_eq (decimal n) text ≡ true = (bytes_eq-Decides (decimal n) text).1 e in
    rw (same, own, lt-ltb n limit small) refl

-- and the one has that text, and is below the limit
pub number_says : (limit : ℕ) (text : List ℕ) (n : ℕ) → decimal_number limit text ≡ Some n → (decimal n ≡ text) × (n < limit)
number_says limit text n e = at (digits_value 10 text) (bytes_eq (decimal (digits_value 10 text)) text && nat_lt (digits_value 10 text) limit) refl e
  where
    at : (m : ℕ) (b : Bool) → bytes_eq (decimal m) text && nat_lt m limit ≡ b → cond b (Some m) None ≡ Some n → (decimal n ≡ text) × (n < limit)
    at m false is e = cc
    at m true is e =
        let same : m ≡ n = cc in
        let parts = and_parts (bytes_eq (decimal m) text) (nat_lt m limit) is in
        (ap decimal (sym same) ∙ (bytes_eq-Decides (decimal m) text).0 parts.0, subst (λ k. k < limit) same (ltb-true m limit parts.1))

-- where no number has that text there is none
no_number : (limit : ℕ) (text : List ℕ) → ((n : ℕ) → n < limit → decimal n ≡ text → ⊥) → decimal_number limit text ≡ None
no_number limit text none = at (digits_value 10 text) (bytes_eq (decimal (digits_value 10 text)) text && nat_lt (digits_value 10 text) limit) refl
  where
    at : (n : ℕ) (b : Bool) → bytes_eq (decimal n) text && nat_lt n limit ≡ b → cond b (Some n) None ≡ None
    at n false e = refl
    at n true e =
        let parts = and_parts (bytes_eq (decimal n) text) (nat_lt n limit) e in
        absurd (none n (ltb-true n limit parts.1) ((bytes_eq-Decides (decimal n) text).0 parts.0))

-- ---- a search for it

-- no number below `k` has the text
abbrev pub HasNoneBelow : ℕ → List ℕ → Type 0
HasNoneBelow k text = (j : ℕ) → j < k → bytes_eq (decimal j) text ≡ false

pub none_below : (k : ℕ) (text : List ℕ) → HasNoneBelow k text → bytes_eq (decimal k) text ≡ false → HasNoneBelow (k + 1) text
none_below k text none here j below =
    ⊎_elim (λ same. subst (λ n. bytes_eq (decimal n) text ≡ false) (sym same.1) here)
    (λ other. let ne : (j ≡ k → ⊥) = other.1 in none j (omega (arith, below))) (eqb_tells j k)

pub none_named : (count k : ℕ) (text : List ℕ) → count - k ≡ 0 → HasNoneBelow k text → decimal_number count text ≡ None
none_named count k text all none = no_number count text (λ n small is.
    let spelled : bytes_eq (decimal n) text ≡ true = (bytes_eq-Decides (decimal n) text).1 is in
    let bad : true ≡ false = sym spelled ∙ none n (omega (arith, all, small)) in
    cc)

-- what `parse` cannot read is no number's text
pub not_parsed : {E : Type 0} (text : List ℕ) (r : Result ℕ E) → None ≡ result_ok r → ParsesUnsigned 32 10 text r → decimal_number (2 ^ 32) text ≡ None
not_parsed text r none parsed = no_number (2 ^ 32) text (λ n small is.
    let read : r ≡ Ok n = parse-decimal 32 n text r small (omega arith) (sym is) parsed in
    let bad : None ≡ Some n = none ∙ ap result_ok read in
    cc)

-- a text that is not that of the number read is none's
pub not_spelled : {E : Type 0} (text : List ℕ) (r : Result ℕ E) (k : ℕ) → Some k ≡ result_ok r → ParsesUnsigned 32 10 text r → bytes_eq (decimal k) text ≡ false → decimal_number (2 ^ 32) text ≡ None
not_spelled text r k some parsed isnt = no_number (2 ^ 32) text (λ n small is.
    let read : r ≡ Ok n = parse-decimal 32 n text r small (omega arith) (sym is) parsed in
    let found : Some k ≡ Some n = some ∙ ap result_ok read in
    let same : k ≡ n = cc in
    let spelled : bytes_eq (decimal k) text ≡ true = (bytes_eq-Decides (decimal k) text).1 (ap decimal same ∙ is) in
    let bad : true ≡ false = sym spelled ∙ isnt in
    cc)
