-- A run comes to its end: each event lowers the weight of the machine, and a round in which a shell has a transaction left has
-- an event.
use Rattle.std.proofs.Common.{◌≡◌, ◌⊎◌, inl, inr, ⊎_elim, ℕ, zero, suc, ◌<◌, ◌≤◌, Bool, true, false, nat_lt, List, [], ◌∷◌, ◌++◌, length, refl, sym, ap, subst, ◌∙◌, arith}
use Rattle.std.specs.Prelude.{IsSome}
use Rattle.std.specs.FinMap.{get}
use Rattle.std.specs.List.{Contains, count_by}
use Rattle.std.proofs.lemmas.Bool.{cases_lt}
use Rattle.std.proofs.lemmas.Bool.Decides.{nat_tests}
use Rattle.std.proofs.lemmas.List.{get_or_past}
use Rattle.std.proofs.lemmas.List.Elements.{Contains-append_cases}
use Rattle.fx_base.proofs.Lists.{only_one}
use Rattle.fx_base.proofs.Booleans.{never_both}
use Rattle.fx_store.specs.Whole.{IsWhole}
use Rattle.fx_spec.specs.Plans.{Turn}
use Rattle.fx_spec.specs.Order.{BaseTree, IsComplete, first_numbers}
use Rattle.fx_machine.specs.declared.event.Event.{Event}
use Rattle.fx_machine.specs.Laws.{IsReached}
use Rattle.fx_machine.specs.Machine.{Machine, Run, Step, next_txn, shell_of, resting}
use Rattle.fx_machine.specs.Measure.{has_left}
use Rattle.fx_machine.specs.Turns.{TakesTurns, left_out, steps, a_round, over, is_settled_by, has_more}
use Rattle.fx_machine.proofs.Weight.{weight, weight_falls}
use Rattle.fx_machine.proofs.Turns.{first_contains}
use Rattle.fx_machine.specs.Ends.{HasEvent, GoesOn, ComesToEnd}
use Rattle.fx_machine.proofs.Turning.{TurnsLeft, turns_left, more_is_left, runs_on}
use Rattle.fx_machine.proofs.Resting.{at_rest, completed}

-- ---- shells with a transaction left

-- a number below another that passes a test, or none
abbrev SomeBelow : (ℕ → Bool) → ℕ → Type 0
SomeBelow test n = (k : ℕ) × (k < n) × (test k ≡ true)

abbrev NoneBelow : (ℕ → Bool) → ℕ → Type 0
NoneBelow test n = (k : ℕ) → k < n → test k ≡ false

some_below : (test : ℕ → Bool) (n : ℕ) → SomeBelow test n ⊎ NoneBelow test n
some_below test zero = inr (λ k h. absurd (omega (arith, h)))
some_below test (suc n) = by (test n) refl (some_below test n)
  where
    by : (b : Bool) → test n ≡ b → SomeBelow test n ⊎ NoneBelow test n → SomeBelow test (suc n) ⊎ NoneBelow test (suc n)
    by true e before = inl (n, omega arith, e)
    by false e (inl found) = inl (found.0, (let l = found.1 in omega (arith, l)), found.2)
    by false e (inr none) = inr (λ k h. ⊎_elim (λ (l : k < n). none k l) (λ (g : n ≤ k). let same : n ≡ k = omega (arith, h, g) in subst (λ k. test k ≡ false) same e) (cases_lt k n))

-- a shell beyond the plan has no transaction left
none_past : (base : BaseTree) (before : List Event) (k : ℕ) → length base.plan ≤ k → has_more base before k ≡ false
none_past base before k h =
    let settled : ℕ = count_by (is_settled_by k) before in
    ap (λ script. nat_lt settled (length script)) (get_or_past base.plan k [] h) ∙ (let none : nat_lt settled 0 ≡ false = grind (arith, nat_tests) in none)

none_more : (base : BaseTree) (before : List Event) → NoneBelow (has_more base before) (length base.plan) → (k : ℕ) → has_more base before k ≡ false
none_more base before none k = ⊎_elim (λ (h : k < length base.plan). none k h) (λ (h : length base.plan ≤ k). none_past base before k h) (cases_lt k (length base.plan))

-- some events that lead from the machine to its end, by these turns
record Rest (base : BaseTree) (before : List Event) (turns : List ℕ) (m : Machine) : Type 0 where
  later : List Event
  order : List Turn
  run : Run base m later (resting base order)
  complete : IsComplete base order
  takes : TakesTurns base before turns later

-- by any turns there is such a rest of each run whose machine weighs less
abbrev EndsBelow : BaseTree → ℕ → Type 0
EndsBelow base limit = (before : List Event) (m : Machine) (turns : List ℕ) → Run base (resting base []) before m → weight base m < limit → Rest base before turns m

passed : (base : BaseTree) (before : List Event) (shell : ℕ) (turns : List ℕ) (m : Machine) → has_more base before shell ≡ false → Rest base before turns m → Rest base before (shell ∷ turns) m
passed base before shell turns m none rest = record { later = rest.later; order = rest.order; run = rest.run; complete = rest.complete; takes = left_out none rest.takes }

new_round : (base : BaseTree) (before : List Event) (shell : ℕ) (m : Machine) → has_more base before shell ≡ true → Rest base before (first_numbers (length base.plan)) m → Rest base before [] m
new_round base before shell m more rest = record { later = rest.later; order = rest.order; run = rest.run; complete = rest.complete; takes = a_round shell more rest.takes }

-- nothing is left to do
at_end : (base : BaseTree) (before : List Event) (m : Machine) → Run base (resting base []) before m → ((k : ℕ) → has_more base before k ≡ false) → Rest base before [] m
at_end base before m run none =
    let reached : IsReached base m = record { events = before; run = run } in
    let idle : (k : ℕ) → has_left base m k ≡ false = λ k. sym (more_is_left base before m k run) ∙ none k in
    record { later = []; order = m.order; run = at_rest base m reached idle; complete = completed base m reached idle; takes = over none }

-- an event, and the rest after it
one_event : (base : BaseTree) (limit : ℕ) → EndsBelow base limit → (before : List Event) (m : Machine) (e : Event) (m' : Machine) (turns : List ℕ) → Run base (resting base []) before m → weight base m < suc limit → has_more base before (shell_of e) ≡ true → Step base m e m' → Rest base before (shell_of e ∷ turns) m
one_event base limit ends before m e m' turns run light more step =
    let reached : IsReached base m = record { events = before; run = run } in
    let falls : weight base m' < weight base m = weight_falls base m m' e reached step in
    let rest : Rest base (before ++ e ∷ []) turns m' = ends (before ++ e ∷ []) m' turns (runs_on base (resting base []) before m (e ∷ []) m' run (m', step, refl)) (omega (arith, falls, light)) in
    record { later = e ∷ rest.later; order = rest.order; run = (m', step, rest.run); complete = rest.complete; takes = steps more rest.takes }

-- ---- turns

module _ (goes_on : GoesOn) (base : BaseTree) (whole : IsWhole (get base.loaded)) where
  -- the turn of a shell that has a transaction left
  a_turn : (limit : ℕ) → EndsBelow base limit → (before : List Event) (m : Machine) (shell : ℕ) (turns : List ℕ) → Run base (resting base []) before m → weight base m < suc limit → has_more base before shell ≡ true → Rest base before (shell ∷ turns) m
  a_turn limit ends before m shell turns run light more =
      let some : IsSome (next_txn base m.order shell) = sym (more_is_left base before m shell run) ∙ more in
      let has : HasEvent base m shell = goes_on base m shell whole (record { events = before; run = run }) some in
      subst (λ k. Rest base before (k ∷ turns) m) has.whose
      (one_event base limit ends before m has.event has.after turns run light (subst (λ k. has_more base before k ≡ true) (sym has.whose) more) has.step)

  -- turns among which is that of a shell that has a transaction left
  some_turn : (limit : ℕ) → EndsBelow base limit → (before : List Event) (m : Machine) (turns : List ℕ) (shell : ℕ) → Run base (resting base []) before m → weight base m < suc limit → has_more base before shell ≡ true → Contains turns shell → Rest base before turns m
  some_turn limit ends before m [] shell run light more inside = absurd (let l = inside.1 in omega (arith, l))
  some_turn limit ends before m (x ∷ turns) shell run light more inside = by (has_more base before x) refl (λ h. some_turn limit ends before m turns shell run light more h)
    where
      by : (b : Bool) → has_more base before x ≡ b → (Contains turns shell → Rest base before turns m) → Rest base before (x ∷ turns) m
      by true e rest = a_turn limit ends before m x turns run light e
      by false e rest = passed base before x turns m e (rest (⊎_elim
          (λ (h : Contains (x ∷ []) shell). absurd (never_both (has_more base before shell) more (subst (λ k. has_more base before k ≡ false) (only_one x shell h) e)))
          (λ (h : Contains turns shell). h) (Contains-append_cases (x ∷ []) turns shell inside)))

  any_turns : (limit : ℕ) → EndsBelow base limit → (before : List Event) (m : Machine) (turns : List ℕ) → Run base (resting base []) before m → weight base m < suc limit → Rest base before turns m
  any_turns limit ends before m [] run light = by (some_below (has_more base before) (length base.plan))
    where
      by : SomeBelow (has_more base before) (length base.plan) ⊎ NoneBelow (has_more base before) (length base.plan) → Rest base before [] m
      by (inl found) = new_round base before found.0 m found.2
          (some_turn limit ends before m (first_numbers (length base.plan)) found.0 run light found.2 (first_contains (length base.plan) found.0 found.1))
      by (inr none) = at_end base before m run (none_more base before none)
  any_turns limit ends before m (x ∷ turns) run light = by (has_more base before x) refl (any_turns limit ends before m turns run light)
    where
      by : (b : Bool) → has_more base before x ≡ b → Rest base before turns m → Rest base before (x ∷ turns) m
      by true e rest = a_turn limit ends before m x turns run light e
      by false e rest = passed base before x turns m e rest

  ends_below : (limit : ℕ) (before : List Event) (m : Machine) (turns : List ℕ) → Run base (resting base []) before m → weight base m < limit → Rest base before turns m
  ends_below zero before m turns run light = absurd (omega (arith, light))
  ends_below (suc limit) before m turns run light = any_turns limit (ends_below limit) before m turns run light

-- where each shell that has a transaction left has an event, each run comes to its end
pub comes_to_end : GoesOn → ComesToEnd
comes_to_end goes_on base schedule events m whole run begun =
    let turns : TurnsLeft base [] schedule events = turns_left begun in
    let rest : Rest base events turns.left m = ends_below goes_on base whole (suc (weight base m)) events m turns.left run (omega arith) in
    record { later = rest.later; order = rest.order; run = rest.run; complete = rest.complete; turns = turns.takes rest.later rest.takes }
