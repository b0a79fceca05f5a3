-- What a crash leaves in each of the two steps of an append.
use Rattle.std.proofs.Common.{◌≡◌, inl, inr, ℕ, ◌+◌, ◌*◌, ◌≤◌, ◌<◌, List, [], ◌∷◌, ◌++◌, length, get_or, take, drop, sym, ◌∙◌, ap, subst, arith, append_assoc, length-append, take-append-drop}
use Rattle.std.proofs.lemmas.List.{take_at, drop_at, drop_more, take_all, drop_all, append-nil, length-take}
use Rattle.std.proofs.lemmas.Bool.{cases_eq}
use Rattle.std.proofs.Math.Seq.{take-take}
use Rattle.std.specs.Prelude.{All}
use Rattle.std.proofs.lemmas.List.Elements.{All-push}
use Rattle.fx_base.specs.Limits.{txn_limit}
use Rattle.fx_durable.specs.Disk.{Torn, with_bytes}
use Rattle.fx_durable.specs.Journal.{payload, records, at_rest, FitsRecord, Spells, IsBeforeOrAfter}
use Rattle.fx_spec.specs.Plans.{Turn}
use Rattle.fx_durable.proofs.Records.{length-records, records-open, spells_closed}

-- the turn and the next closed gate
abbrev pub behind : Turn → List ℕ
behind turn = payload turn ++ 0 ∷ []

-- the records with a whole record behind a gate
abbrev pub with_gate : List Turn → ℕ → Turn → List ℕ
with_gate order gate turn = records order ++ gate ∷ behind turn

module _ (order : List Turn) (count : ℕ) (counts : length order ≡ count) (fit : All FitsRecord order) (room : count < txn_limit) where
  size : length (records order) ≡ 9 * count
  size = omega (arith, length-records order, counts)

  pub length-at_rest : length (at_rest order) ≡ 9 * count + 1
  length-at_rest = omega (arith, size, length-append (records order) (0 ∷ []))

  pub spells_at_rest : Spells order (at_rest order)
  spells_at_rest = spells_closed order 0 [] fit (omega (arith, counts, room)) (omega arith)

  -- the closed gate stands in each outcome of the first write
  pub torn_behind : (n : ℕ) (c : List ℕ) → Torn (9 * count + 1) n (at_rest order) c → Spells order c
  torn_behind n c torn =
      let long : 9 * count + 1 ≤ length (at_rest order) = omega (arith, length-at_rest) in
      let front : take (9 * count + 1) c ≡ at_rest order = sym (take-take (9 * count + 1) (length (at_rest order)) c long) ∙ torn.before ∙ take_all _ _ (omega (arith, length-at_rest)) in
      let whole : c ≡ records order ++ 0 ∷ drop (9 * count + 1) c =
      sym (take-append-drop (9 * count + 1) c) ∙ ap (λ (l : List ℕ). l ++ drop (9 * count + 1) c) front ∙ append_assoc (records order) (0 ∷ []) (drop (9 * count + 1) c) in
      subst (Spells order) (sym whole) (spells_closed order 0 (drop (9 * count + 1) c) fit (omega (arith, counts, room)) (omega arith))

  pub written_behind : (turn : Turn) (c : List ℕ) → c ≡ at_rest order → with_bytes (9 * count + 1) (behind turn) c ≡ with_gate order 0 turn
  written_behind turn c is =
      let bytes = behind turn in
      ap (λ l. with_bytes (9 * count + 1) bytes l) is
      ∙ ap (λ (l : List ℕ). l ++ bytes ++ drop (9 * count + 1 + length bytes) (at_rest order)) (take_all _ _ (omega (arith, length-at_rest)))
      ∙ ap (λ (l : List ℕ). at_rest order ++ bytes ++ l) (drop_all (9 * count + 1 + length bytes) (at_rest order) (omega (arith, length-at_rest)))
      ∙ append-nil (at_rest order ++ bytes)
      ∙ append_assoc (records order) (0 ∷ []) bytes

  split : (gate : ℕ) (turn : Turn) → with_gate order gate turn ≡ (records order ++ gate ∷ []) ++ behind turn
  split gate turn = sym (append_assoc (records order) (gate ∷ []) (behind turn))

  front : (gate : ℕ) (turn : Turn) → take (9 * count) (with_gate order gate turn) ≡ records order
  front gate turn = take_at (records order) (gate ∷ behind turn) (9 * count) size

  back : (gate : ℕ) (turn : Turn) → drop (9 * count + 1) (with_gate order gate turn) ≡ behind turn
  back gate turn =
      ap (λ (l : List ℕ). drop (9 * count + 1) l) (split gate turn) ∙ drop_at (records order ++ gate ∷ []) (behind turn) (9 * count + 1) (omega (arith, size, length-append (records order) (gate ∷ [])))

  pub length-with_gate : (gate : ℕ) (turn : Turn) → length (with_gate order gate turn) ≡ 9 * count + 10
  length-with_gate gate turn = omega (arith, size, length-append (records order) (gate ∷ behind turn))

  -- the gate 1 makes the record one of the journal's
  opened : (turn : Turn) → with_gate order 1 turn ≡ at_rest (order ++ turn ∷ [])
  opened turn = records-open order turn

  pub spells_after : (turn : Turn) → FitsRecord turn → Spells (order ++ turn ∷ []) (at_rest (order ++ turn ∷ []))
  spells_after turn good = spells_closed (order ++ turn ∷ []) 0 [] (All-push FitsRecord order turn fit good) (omega (arith, counts, room, length-append order (turn ∷ []))) (omega arith)

  -- an open gate makes the record one of the journal's, whatever stands behind the next gate, which is closed
  spells_opened : (turn : Turn) → FitsRecord turn → (rest : List ℕ) → Spells (order ++ turn ∷ []) (with_gate order 1 turn ++ rest)
  spells_opened turn good rest =
      let whole : with_gate order 1 turn ++ rest ≡ records (order ++ turn ∷ []) ++ 0 ∷ rest = ap (λ (l : List ℕ). l ++ rest) (opened turn) ∙ append_assoc (records (order ++ turn ∷ [])) (0 ∷ []) rest in
      subst (Spells (order ++ turn ∷ [])) (sym whole) (spells_closed (order ++ turn ∷ []) 0 rest (All-push FitsRecord order turn fit good) (omega (arith, counts, room, length-append order (turn ∷ []))) (omega arith))

  pub spells_gate : (gate : ℕ) (turn : Turn) → FitsRecord turn → (rest : List ℕ) → IsBeforeOrAfter order turn (with_gate order gate turn ++ rest)
  spells_gate gate turn good rest = elim (cases_eq gate 1) [
    | inl is_open ↦ inr (subst (λ g. Spells (order ++ turn ∷ []) (with_gate order g turn ++ rest)) (sym is_open) (spells_opened turn good rest))
    | inr shut ↦ inl (subst (Spells order) (sym (append_assoc (records order) (gate ∷ behind turn) rest)) (spells_closed order gate (behind turn ++ rest) fit (omega (arith, counts, room)) shut))
  ]

  -- the record stands whole in each outcome of the second write
  pub torn_gate : (turn : Turn) → FitsRecord turn → (c : List ℕ) → Torn (9 * count) 1 (with_gate order 0 turn) c → IsBeforeOrAfter order turn c
  torn_gate turn good c torn =
      let size_here = length-with_gate 0 turn in
      let old_end = length (with_gate order 0 turn) in
      let d = take old_end c in
      let size_d : length d ≡ old_end = length-take old_end c ∙ omega (arith, torn.no_shorter) in
      let gate = get_or d (9 * count) 0 in
      let rest : drop (9 * count) d ≡ gate ∷ behind turn =
      drop_more d (9 * count) 0 (omega (arith, size_here, size_d)) ∙ ap (λ (l : List ℕ). gate ∷ l) (torn.after ∙ back 0 turn) in
      let whole : d ≡ with_gate order gate turn =
      sym (take-append-drop (9 * count) d) ∙ ap (λ (l : List ℕ). l ++ drop (9 * count) d) (torn.before ∙ front 0 turn) ∙ ap (λ (l : List ℕ). records order ++ l) rest in
      let all : c ≡ with_gate order gate turn ++ drop old_end c = sym (take-append-drop old_end c) ∙ ap (λ (l : List ℕ). l ++ drop old_end c) whole in
      subst (IsBeforeOrAfter order turn) (sym all) (spells_gate gate turn good (drop old_end c))

  pub written_gate : (turn : Turn) (c : List ℕ) → c ≡ with_gate order 0 turn → with_bytes (9 * count) (1 ∷ []) c ≡ at_rest (order ++ turn ∷ [])
  written_gate turn c is =
      ap (λ l. with_bytes (9 * count) (1 ∷ []) l) is
      ∙ ap (λ (l : List ℕ). l ++ (1 ∷ []) ++ drop (9 * count + 1) (with_gate order 0 turn)) (front 0 turn)
      ∙ ap (λ (l : List ℕ). records order ++ (1 ∷ []) ++ l) (back 0 turn)
      ∙ append_assoc (records order) (1 ∷ []) (behind turn)
      ∙ opened turn
