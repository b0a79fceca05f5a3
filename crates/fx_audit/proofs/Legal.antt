-- A transaction of a legal order is its shell's next one, and stands in the script; and a front of a legal order is legal.
use Rattle.std.proofs.Common.{◌≡◌, ℕ, zero, suc, ◌<◌, ◌≤◌, Bool, true, false, cond, nat_lt, List, [], ◌∷◌, ◌++◌, length, take, drop, Some, None, refl, sym, ap, subst, ◌∙◌, arith, length-append, eq-eqb}
use Rattle.std.specs.Prelude.{slice_get, slice_index_or}
use Rattle.std.specs.List.{cons_option}
use Rattle.std.proofs.Math.Seq.{take-length}
use Rattle.std.proofs.lemmas.List.{map-append, take_all, take-append-le, take-append-drop}
use Rattle.std.proofs.lemmas.List.Elements.{filter_map-append}
use Rattle.std.proofs.lemmas.Option.{same_Some}
use Rattle.std.proofs.lemmas.Bool.{ltb-true, ltb-false}
use Rattle.fx_base.proofs.Lists.{at_middle}
use Rattle.fx_spec.specs.Plans.{Turn}
use Rattle.fx_spec.specs.Order.{BaseTree, IsLegal, number_in, numbers_of, first_numbers}
use Rattle.fx_machine.specs.declared.entry.Pair.{Pair}
use Rattle.fx_machine.proofs.Weight.{length_first}
use Rattle.fx_audit.specs.Legal.{IsNextIn}
use Rattle.fx_audit.specs.Orders.{pair_turn, pair_turns}

front_at : {X : Type 0} (xs ys : List X) (i : ℕ) → i < length xs → slice_get (xs ++ ys) i ≡ slice_get xs i
front_at [] ys i h = absurd (omega (arith, h))
front_at (x ∷ xs) ys zero h = refl
front_at (x ∷ xs) ys (suc i) h = front_at xs ys i (omega (arith, h))

first_at : (n i : ℕ) → i < n → slice_get (first_numbers n) i ≡ Some i
first_at zero i h = absurd (omega (arith, h))
first_at (suc n) i h = at (nat_lt i n) refl (first_at n i)
  where
    at : (b : Bool) → nat_lt i n ≡ b → (i < n → slice_get (first_numbers n) i ≡ Some i) → slice_get (first_numbers (suc n)) i ≡ Some i
    at true e rest = front_at (first_numbers n) (n ∷ []) i (omega (arith, ltb-true i n e, length_first n)) ∙ rest (ltb-true i n e)
    at false e rest =
        let same : n ≡ i = omega (arith, h, ltb-false i n e) in
        subst (λ i. slice_get (first_numbers (suc n)) i ≡ Some i) same
        (subst (λ k. slice_get (first_numbers n ++ n ∷ []) k ≡ Some n) (length_first n) (at_middle (first_numbers n) [] n))

-- the numbers of a shell around one of its transactions
numbers_around : (o more : List Turn) (turn : Turn) → numbers_of turn.0 (o ++ turn ∷ more) ≡ numbers_of turn.0 o ++ turn.1 ∷ numbers_of turn.0 more
numbers_around o more turn =
    filter_map-append (number_in turn.0) o (turn ∷ more) ∙ ap (λ b. numbers_of turn.0 o ++ cons_option (cond b (Some turn.1) None) (numbers_of turn.0 more)) (eq-eqb turn.0 turn.0 refl)

-- the transaction after a front of a legal order
pub legal_turn : (base : BaseTree) (o more : List Turn) (turn : Turn) → IsLegal base (o ++ turn ∷ more) → IsNextIn base o turn
legal_turn base o more turn legal =
    let here = legal turn.0 in
    let around = numbers_around o more turn in
    let count : length (numbers_of turn.0 o) < length (numbers_of turn.0 (o ++ turn ∷ more)) = omega (arith, ap length around, length-append (numbers_of turn.0 o) (turn.1 ∷ numbers_of turn.0 more)) in
    let stands : slice_get (numbers_of turn.0 (o ++ turn ∷ more)) (length (numbers_of turn.0 o)) ≡ Some turn.1 = ap (λ l. slice_get l (length (numbers_of turn.0 o))) around ∙ at_middle (numbers_of turn.0 o) (numbers_of turn.0 more) turn.1 in
    let numbered : slice_get (numbers_of turn.0 (o ++ turn ∷ more)) (length (numbers_of turn.0 o)) ≡ Some (length (numbers_of turn.0 o)) = ap (λ l. slice_get l (length (numbers_of turn.0 o))) here.in_turn ∙ first_at (length (numbers_of turn.0 (o ++ turn ∷ more))) (length (numbers_of turn.0 o)) count in
    let same : turn.1 ≡ length (numbers_of turn.0 o) = same_Some turn.1 (length (numbers_of turn.0 o)) (sym stands ∙ numbered) in
    let planned = here.planned in
    record { next = same; planned = omega (arith, same, count, planned) }

-- ---- fronts

take_first : (n m : ℕ) → m ≤ n → take m (first_numbers n) ≡ first_numbers m
take_first zero zero h = refl
take_first zero (suc m) h = absurd (omega (arith, h))
take_first (suc n) m h = at (nat_lt n m) refl (take_first n m)
  where
    at : (b : Bool) → nat_lt n m ≡ b → (m ≤ n → take m (first_numbers n) ≡ first_numbers m) → take m (first_numbers (suc n)) ≡ first_numbers m
    at true e rest =
        let same : suc n ≡ m = omega (arith, h, ltb-true n m e) in
        subst (λ k. take k (first_numbers (suc n)) ≡ first_numbers k) same (take_all (suc n) (first_numbers (suc n)) (omega (arith, length_first (suc n))))
    at false e rest =
        let few : m ≤ n = omega (arith, ltb-false n m e) in
        take-append-le m (first_numbers n) (n ∷ []) (omega (arith, length_first n, few)) ∙ rest few

first_front : (xs ys : List ℕ) → xs ++ ys ≡ first_numbers (length (xs ++ ys)) → xs ≡ first_numbers (length xs)
first_front xs ys e =
    let cut : take (length xs) (xs ++ ys) ≡ xs = take-append-le (length xs) xs ys (omega arith) ∙ take-length xs in
    sym cut ∙ (ap (λ l. take (length xs) l) e ∙ take_first (length (xs ++ ys)) (length xs) (omega (arith, length-append xs ys)))

-- a front of a legal order is legal
pub legal_front : (base : BaseTree) (o more : List Turn) → IsLegal base (o ++ more) → IsLegal base o
legal_front base o more legal shell =
    let around : numbers_of shell (o ++ more) ≡ numbers_of shell o ++ numbers_of shell more = filter_map-append (number_in shell) o more in
    let fits = (legal shell).planned in
    record {
      in_turn = first_front (numbers_of shell o) (numbers_of shell more) (subst (λ l. l ≡ first_numbers (length l)) around (legal shell).in_turn);
      planned = omega (arith, fits, ap length around, length-append (numbers_of shell o) (numbers_of shell more));
    }

pub legal_take : (base : BaseTree) (o : List Turn) (n : ℕ) → IsLegal base o → IsLegal base (take n o)
legal_take base o n legal = legal_front base (take n o) (drop n o) (subst (IsLegal base) (sym (take-append-drop n o)) legal)

-- ---- over the pairs of an order

split_at : {X : Type 0} (xs : List X) (i : ℕ) (d : X) → i < length xs → xs ≡ take i xs ++ slice_index_or xs i d ∷ drop (suc i) xs
split_at [] i d h = absurd (omega (arith, h))
split_at (y ∷ ys) zero d h = refl
split_at (y ∷ ys) (suc i) d h = ap (λ l. y ∷ l) (split_at ys i d (omega (arith, h)))

pub next_of : (base : BaseTree) (pairs : List Pair) (i : ℕ) (d : Pair) → IsLegal base (pair_turns pairs) → i < length pairs → IsNextIn base (pair_turns (take i pairs)) (pair_turn (slice_index_or pairs i d))
next_of base pairs i d legal h =
    let p = slice_index_or pairs i d in
    legal_turn base (pair_turns (take i pairs)) (pair_turns (drop (suc i) pairs)) (pair_turn p)
    (subst (IsLegal base) (ap pair_turns (split_at pairs i d h) ∙ map-append pair_turn (take i pairs) (p ∷ drop (suc i) pairs)) legal)
