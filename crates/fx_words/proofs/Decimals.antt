-- The decimal texts of numbers below 100.
use Rattle.std.proofs.Common.{◌≡◌, ℕ, zero, suc, ◌+◌, ◌<◌, ◌≤◌, ◌/◌, ◌%◌, Bool, true, false, cond, ◌&&◌, ltb, ⊎_elim, List, [], ◌∷◌, refl, sym, ap, ◌∙◌, subst, arith}
use Rattle.std.specs.Str.{bytes_eq}
use Rattle.std.specs.Fmt.{decimal, digits}
use Rattle.std.proofs.lemmas.Bool.Decides.{eqb_tells, nat_tests}
use Rattle.std.proofs.lemmas.Slice.Eq.{bytes_eq-Decides}
use Rattle.fx_base.proofs.Booleans.{first_true, second_true}

abbrev all_below : ℕ → (ℕ → Bool) → Bool
all_below zero f = true
all_below (suc n) f = f n && all_below n f

below : (n : ℕ) (f : ℕ → Bool) → all_below n f ≡ true → (k : ℕ) → k < n → f k ≡ true
below zero f e k h = absurd (omega arith)
below (suc n) f e k h =
    ⊎_elim (λ same. subst (λ m. f m ≡ true) (sym same.1) (first_true (f n) (all_below n f) e))
    (λ other. let ne : (k ≡ n → ⊥) = other.1 in let lower : k < n = omega arith in below n f (second_true (f n) (all_below n f) e) k lower) (eqb_tells k n)

-- the digits of a number below 100
abbrev pub two_digits : ℕ → List ℕ
two_digits n = cond (ltb n 10) ((48 + n % 10) ∷ []) ((48 + n / 10) ∷ (48 + n % 10) ∷ [])

is_right : ℕ → Bool
is_right n = bytes_eq (decimal n) (two_digits n)

all_right : all_below 100 is_right ≡ true
unfolding is_right digits
all_right = refl

pub decimal_below : (n : ℕ) → n < 100 → decimal n ≡ two_digits n
unfolding is_right
decimal_below n h = (bytes_eq-Decides (decimal n) (two_digits n)).0 (below 100 is_right all_right n h)

pub one_digit : (n : ℕ) → n < 10 → decimal n ≡ (48 + n % 10) ∷ []
one_digit n h =
    let less : ltb n 10 ≡ true = grind (arith, nat_tests) in
    decimal_below n (omega arith) ∙ ap (λ b. cond b ((48 + n % 10) ∷ []) ((48 + n / 10) ∷ (48 + n % 10) ∷ [])) less

pub both_digits : (n : ℕ) → 10 ≤ n → n < 100 → decimal n ≡ (48 + n / 10) ∷ (48 + n % 10) ∷ []
both_digits n h small =
    let more : ltb n 10 ≡ false = grind (arith, nat_tests) in
    decimal_below n small ∙ ap (λ b. cond b ((48 + n % 10) ∷ []) ((48 + n / 10) ∷ (48 + n % 10) ∷ [])) more
