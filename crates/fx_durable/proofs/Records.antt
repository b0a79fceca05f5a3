-- What the records of an order spell.
use Rattle.std.proofs.Common.{◌≡◌, ◌≢◌, ℕ, zero, suc, ◌*◌, ◌≤◌, List, [], ◌∷◌, ◌++◌, length, refl, ◌∙◌, ap, arith, Ok, false}
use Rattle.std.specs.Prelude.{All, nat_lt}
use Rattle.std.proofs.lemmas.List.Elements.{All-head, All-tail}
use Rattle.std.proofs.lemmas.Nat.{from_be_bytes-to_be_bytes_4}
use Rattle.std.proofs.lemmas.Bool.Decides.{nat_tests}
use Rattle.fx_base.specs.Limits.{txn_limit}
use Rattle.fx_durable.specs.Journal.{payload, turn_in, turn_before, reading, records, at_rest, FitsRecord, Spells}
use Rattle.fx_spec.specs.Plans.{Turn}

pub length-records : (order : List Turn) → length (records order) ≡ 9 * length order
length-records [] = refl
length-records (p ∷ order) = omega (arith, length-records order)

-- the gate 1 makes the record one of the journal's
pub records-open : (order : List Turn) (turn : Turn) → records order ++ 1 ∷ (payload turn ++ 0 ∷ []) ≡ at_rest (order ++ turn ∷ [])
records-open [] turn = refl
records-open (p ∷ order) turn = ap (λ (l : List ℕ). 1 ∷ payload p ++ l) (records-open order turn)

closed : (left gate : ℕ) (rest : List ℕ) → gate ≢ 1 → reading left (gate ∷ rest) ≡ Ok []
closed zero gate rest shut = grind (arith, nat_tests)
closed (suc left) gate rest shut = grind (arith, nat_tests)

-- the turn that was written is read
pub turn_in-payload : (turn : Turn) (rest : List ℕ) → FitsRecord turn → turn_in (payload turn ++ rest) ≡ turn
turn_in-payload turn rest fit = λ i. (from_be_bytes-to_be_bytes_4 turn.0 fit.shell i, from_be_bytes-to_be_bytes_4 turn.1 fit.txn i)

long : (turn : Turn) (rest : List ℕ) → nat_lt (length (payload turn ++ rest)) 8 ≡ false
long turn rest = grind (arith, nat_tests)

one_more : (left : ℕ) (turn : Turn) (rest : List ℕ) → FitsRecord turn → reading (suc left) (1 ∷ payload turn ++ rest) ≡ turn_before turn (reading left rest)
one_more left turn rest fit = rw (long turn rest, turn_in-payload turn rest fit) refl

-- a closed gate ends them, whatever stands behind it
pub reading-records : (left : ℕ) (order : List Turn) (gate : ℕ) (rest : List ℕ) → All FitsRecord order → length order ≤ left → gate ≢ 1 → reading left (records order ++ gate ∷ rest) ≡ Ok order
reading-records left [] gate rest fit room shut = closed left gate rest shut
reading-records zero (p ∷ order) gate rest fit room shut = absurd (omega (arith, room))
reading-records (suc left) (p ∷ order) gate rest fit room shut =
    one_more left p (records order ++ gate ∷ rest) (All-head FitsRecord p order fit)
    ∙ ap (λ r. turn_before p r) (reading-records left order gate rest (All-tail FitsRecord p order fit) (omega (arith, room)) shut)

pub spells_closed : (order : List Turn) (gate : ℕ) (rest : List ℕ) → All FitsRecord order → length order ≤ txn_limit → gate ≢ 1 → Spells order (records order ++ gate ∷ rest)
spells_closed order gate rest fit room shut = reading-records txn_limit order gate rest fit room shut
