-- A complete order of the eight scripts has each of the 1600 transactions once, so what is counted over it is counted over their numbers.
use Rattle.std.proofs.Common.{◌≡◌, ◌≢◌, inl, inr, ℕ, zero, suc, ◌+◌, ◌*◌, ◌/◌, ◌%◌, ◌<◌, ◌≤◌, Bool, true, false, cond, ◌&&◌, nat_eq, List, [], ◌∷◌, length, refl, sym, ap, ◌∙◌, arith, eq-eqb}
use Rattle.std.specs.List.{All, count_by, sum_by}
use Rattle.std.proofs.lemmas.Bool.{eqb-true, lt-ltb, and_from, cases_lt}
use Rattle.std.proofs.lemmas.List.Elements.{All-head, All-tail, All-weaker}
use Rattle.std.proofs.lemmas.List.Sums.{sum_by-cons, sum_by_push}
use Rattle.fx_spec.specs.Laws.{is_turn}
use Rattle.fx_spec.specs.Order.{BaseTree, IsComplete, first_numbers}
use Rattle.fx_spec.specs.Plans.{Turn, count_of}
use Rattle.fx_spec.proofs.Orders.{complete_has_each_once}
use Rattle.fx_laws.proofs.Spelled.{planned}
use Rattle.fx_machine.proofs.Sums.{sum_same, sum_apart}

-- a transaction of one of eight scripts of 200 each
abbrev pub IsOne : Turn → Type 0
IsOne turn = (turn.0 < 8) × (turn.1 < 200)

-- and its number
abbrev pub number_of : Turn → ℕ
number_of turn = 200 * turn.0 + turn.1

turned : (a b : ℕ) → a + b ≡ b + a
turned a b = omega arith

module _ (test : ℕ → Bool) where
  abbrev times : List Turn → ℕ → ℕ
  times o t = cond (test t) (count_by (is_turn (t / 200) (t % 200)) o) 0

  once_more : (turn : Turn) (o : List Turn) (t : ℕ) (b : Bool) → is_turn (t / 200) (t % 200) turn ≡ b → times (turn ∷ o) t ≡ times o t + cond (test t) (cond b 1 0) 0
  once_more turn o t b e = at (test t)
    where
      at : (c : Bool) → cond c (count_by (is_turn (t / 200) (t % 200)) (turn ∷ o)) 0 ≡ cond c (count_by (is_turn (t / 200) (t % 200)) o) 0 + cond c (cond b 1 0) 0
      at true =
          let more = sum_by-cons (λ u. cond (is_turn (t / 200) (t % 200) u) 1 0) turn o in
          let here : ◌≡◌ {A = ℕ} (cond (is_turn (t / 200) (t % 200) turn) 1 0) (cond b 1 0) = ap (λ c. cond c 1 0) e in
          omega (arith, more, here)
      at false = refl

  is_its_own : (turn : Turn) → IsOne turn → is_turn (number_of turn / 200) (number_of turn % 200) turn ≡ true
  is_its_own turn one =
      let k : number_of turn / 200 ≡ turn.0 = omega (arith, one.0, one.1) in
      let j : number_of turn % 200 ≡ turn.1 = omega (arith, one.0, one.1) in
      and_from (nat_eq turn.0 (number_of turn / 200)) (nat_eq turn.1 (number_of turn % 200)) (eq-eqb turn.0 (number_of turn / 200) (sym k)) (eq-eqb turn.1 (number_of turn % 200) (sym j))

  is_no_other : (turn : Turn) (t : ℕ) → IsOne turn → t ≢ number_of turn → is_turn (t / 200) (t % 200) turn ≡ false
  is_no_other turn t one other = by (nat_eq turn.0 (t / 200)) (nat_eq turn.1 (t % 200)) refl refl
    where
      by : (b c : Bool) → nat_eq turn.0 (t / 200) ≡ b → nat_eq turn.1 (t % 200) ≡ c → (nat_eq turn.0 (t / 200) && nat_eq turn.1 (t % 200)) ≡ false
      by false c e f = ap (λ x. x && nat_eq turn.1 (t % 200)) e
      by true false e f = ap (λ x. x && nat_eq turn.1 (t % 200)) e ∙ f
      by true true e f =
          let k : turn.0 ≡ t / 200 = eqb-true turn.0 (t / 200) e in
          let j : turn.1 ≡ t % 200 = eqb-true turn.1 (t % 200) f in
          absurd (other (omega (arith, k, j)))

  none_more : (c : Bool) (n : ℕ) → n ≡ n + cond c 0 0
  none_more true n = omega arith
  none_more false n = omega arith

  none_yet : (n : ℕ) → sum_by (times []) (first_numbers n) ≡ 0
  none_yet zero = refl
  none_yet (suc n) = sum_by_push (times []) (first_numbers n) n ∙ both (test n) (none_yet n)
    where
      both : (c : Bool) → sum_by (times []) (first_numbers n) ≡ 0 → sum_by (times []) (first_numbers n) + cond c 0 0 ≡ 0
      both true e = omega (arith, e)
      both false e = omega (arith, e)

  by_numbers : (o : List Turn) → All IsOne o → sum_by (times o) (first_numbers 1600) ≡ count_by (λ turn. test (number_of turn)) o
  by_numbers [] all = none_yet 1600
  by_numbers (turn ∷ o) all =
      let one : IsOne turn = All-head IsOne turn o all in
      let rest : sum_by (times o) (first_numbers 1600) ≡ count_by (λ turn. test (number_of turn)) o = by_numbers o (All-tail IsOne turn o all) in
      let inside : number_of turn < 1600 = omega (arith, one.0, one.1) in
      let apart = sum_apart (times o) (times (turn ∷ o)) 1600 (number_of turn) (cond (test (number_of turn)) 1 0) inside (once_more turn o (number_of turn) true (is_its_own turn one)) (λ t other. none_more (test t) (times o t) ∙ sym (once_more turn o t false (is_no_other turn t one other))) in
      apart
      ∙ ap (λ n. n + cond (test (number_of turn)) 1 0) rest
      ∙ turned (count_by (λ u. test (number_of u)) o) (cond (test (number_of turn)) 1 0)
      ∙ sym (sum_by-cons (λ u. cond (test (number_of u)) 1 0) turn o)

-- ---- complete orders

module _ (base : BaseTree) (o : List Turn) (complete : IsComplete base o) (eight : (k : ℕ) → k < 8 → count_of base.plan k ≡ 200) (no_more : (k : ℕ) → 8 ≤ k → count_of base.plan k ≡ 0) where
  one_of : (turn : Turn) → turn.1 < count_of base.plan turn.0 → IsOne turn
  one_of turn less = elim (cases_lt turn.0 8) [
    | inl few ↦ let all = eight turn.0 few in (few, omega (arith, less, all))
    | inr many ↦ let all = no_more turn.0 many in absurd (omega (arith, less, all))
  ]

  pub each_is_one : All IsOne o
  each_is_one = All-weaker (λ (turn : Turn). turn.1 < count_of base.plan turn.0) IsOne one_of o (planned base o complete.legal)

  pub each_once : (k j : ℕ) → k < 8 → j < 200 → count_by (is_turn k j) o ≡ 1
  each_once k j h l =
      let all = eight k h in
      complete_has_each_once base o complete k j ∙ ap (λ b. cond b 1 0) (lt-ltb j (count_of base.plan k) (omega (arith, l, all)))

  pub counted_once : (test : ℕ → Bool) → count_by (λ turn. test (number_of turn)) o ≡ sum_by (λ t. cond (test t) 1 0) (first_numbers 1600)
  counted_once test =
      sym (by_numbers test o each_is_one)
      ∙ sum_same (times test o) (λ t. cond (test t) 1 0) 1600 (λ t l. ap (λ n. cond (test t) n 0) (each_once (t / 200) (t % 200) (omega (arith, l)) (omega arith)))

  pub has_1600 : length o ≡ 1600
  has_1600 = sym (ones o) ∙ counted_once (λ t. true) ∙ refl
    where
      ones : (xs : List Turn) → count_by (λ turn. true) xs ≡ length xs
      ones [] = refl
      ones (x ∷ xs) = let rest = ones xs in let more = sum_by-cons (λ (u : Turn). 1) x xs in omega (arith, rest, more)
