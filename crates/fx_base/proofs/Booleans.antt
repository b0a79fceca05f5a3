-- Tests, and what they say together. Std's page Bool has more: `and_from`, `and_parts`, `or_left`, `or_right`, `or_parts`, `not-true`, `not-false`, `cases_Bool`, `eq-eqb`, `eqb-false`.
use Rattle.std.proofs.Common.{◌≡◌, Bool, true, false, ◌&&◌, cond, refl, sym}
use mir.Val.{bool_byte}
use Rattle.std.proofs.lemmas.Bool.{false≢true, both_ways}

pub first_true : (a b : Bool) → (a && b) ≡ true → a ≡ true
first_true true b e = refl
first_true false b e = e

pub second_true : (a b : Bool) → (a && b) ≡ true → b ≡ true
second_true true b e = e
second_true false b e = absurd (false≢true e)

pub third_true : (a b c : Bool) → (a && b && c) ≡ true → c ≡ true
third_true a b c e = second_true (a && b) c e

pub fifth_true : (a b c d r : Bool) → (a && (b && (c && (d && r)))) ≡ true → r ≡ true
fifth_true a b c d r e = second_true d r (second_true c (d && r) (second_true b (c && (d && r)) (second_true a (b && (c && (d && r))) e)))

-- a test that passes does not fail
pub never_both : (b : Bool) → b ≡ true → b ≡ false → ⊥
never_both b is isnt = both_ways b isnt is

-- tests that pass in the same cases are the same
pub same_test : (a b : Bool) → (a ≡ true → b ≡ true) → (b ≡ true → a ≡ true) → a ≡ b
same_test true true f g = refl
same_test true false f g = sym (f refl)
same_test false true f g = g refl
same_test false false f g = refl

-- a test as a number
pub byte_is : (c : Bool) → bool_byte c ≡ cond c 1 0
byte_is true = refl
byte_is false = refl
