-- A run follows the schedule of its events' shells.
use Rattle.std.proofs.Common.{◌≡◌, ⊎_elim, ℕ, zero, suc, ◌<◌, Bool, true, false, cond, nat_eq, List, [], ◌∷◌, ◌++◌, length, Some, None, is_some, refl, sym, ap, subst, ◌∙◌, arith}
use Rattle.std.specs.List.{All, Contains, cons_option}
use Rattle.std.proofs.lemmas.Bool.Decides.{nat_tests}
use Rattle.std.proofs.lemmas.List.Elements.{All-nil, All-cons, Contains-append_cases}
use Rattle.std.specs.Prelude.{nat_lt}
use Rattle.fx_base.proofs.Lists.{only_one}
use Rattle.fx_spec.specs.Plans.{Turn, script_of, count_of}
use Rattle.fx_spec.specs.Order.{BaseTree, IsComplete, numbers_of, first_numbers}
use Rattle.fx_machine.specs.declared.event.Event.{Event}
use Rattle.fx_machine.specs.declared.event.Event.TheVariants as event
use Rattle.fx_machine.specs.Machine.{Machine, Run, Step, next_number, shell_of, resting}
use Rattle.fx_machine.specs.Measure.{has_left}
use Rattle.fx_machine.proofs.Legal.{fewer_settled}
use Rattle.fx_machine.proofs.Reached.{shell_within}
use Rattle.fx_machine.specs.Turns.{TakesTurns, steps, over}
use Rattle.fx_machine.proofs.Turning.{more_is_left, runs_on, some_within}
use Rattle.fx_diaries.specs.Runs.{shells_in}
use Rattle.fx_diaries.specs.Laws.{RunsHaveSchedules}

-- ---- nothing is left of a complete order

first_below : (n k : ℕ) → Contains (first_numbers n) k → k < n
first_below zero k h = absurd (let l = h.1 in omega (arith, l))
first_below (suc n) k h =
    ⊎_elim (λ (l : Contains (first_numbers n) k). (let below = first_below n k l in omega (arith, below)))
    (λ (l : Contains (n ∷ []) k). (let same = only_one n k l in omega (arith, same))) (Contains-append_cases (first_numbers n) (n ∷ []) k h)

-- the number of a shell's transaction that stands in an order
has_number : (o : List Turn) (shell txn : ℕ) → Contains o (shell, txn) → Contains (numbers_of shell o) txn
has_number [] shell txn h = absurd (let l = h.1 in omega (arith, l))
has_number (turn ∷ o) shell txn (zero, l, same) =
    subst (λ (t : Turn). Contains (numbers_of shell (t ∷ o)) txn) (sym same)
    (subst (λ (b : Bool). Contains (cons_option (cond b (Some txn) None) (numbers_of shell o)) txn) (let e : true ≡ nat_eq shell shell = grind (arith, nat_tests) in e) (0, omega arith, refl))
has_number (turn ∷ o) shell txn (suc i, l, same) = by (nat_eq turn.0 shell) (has_number o shell txn (i, (let h = l in omega (arith, h)), same))
  where
    by : (b : Bool) → Contains (numbers_of shell o) txn → Contains (cons_option (cond b (Some turn.1) None) (numbers_of shell o)) txn
    by true h = (suc h.0, (let l = h.1 in omega (arith, l)), h.2)
    by false h = h

-- a shell has no transaction left in a complete order
none_left : (base : BaseTree) (order : List Turn) → IsComplete base order → (k : ℕ) → has_left base (resting base order) k ≡ false
none_left base order complete k = by (nat_lt (next_number order k) (count_of base.plan k)) refl
  where
    by : (b : Bool) → nat_lt (next_number order k) (count_of base.plan k) ≡ b → has_left base (resting base order) k ≡ false
    by false e = some_within (script_of base.plan k) (next_number order k) ∙ e
    by true e =
        let within : next_number order k < count_of base.plan k = grind (arith, nat_tests) in
        let inside : Contains (numbers_of k order) (next_number order k) = has_number order k (next_number order k) (complete.all k (next_number order k) within) in
        let below : next_number order k < length (numbers_of k order) = first_below (length (numbers_of k order)) (next_number order k) (subst (λ ns. Contains ns (next_number order k)) (complete.legal k).in_turn inside) in
        absurd (omega (arith, below))

-- ---- turns

step_left : (base : BaseTree) (m : Machine) (e : Event) (m' : Machine) → Step base m e m' → has_left base m (shell_of e) ≡ true
step_left base m (event.Look shell path position) m' s = ap is_some s.next
step_left base m (event.Settled shell entry) m' s = ap is_some s.next
step_left base m (event.Conflict shell entry path) m' s = ap is_some s.next

follows : (base : BaseTree) (order : List Turn) → IsComplete base order → (before later : List Event) (m : Machine) → Run base (resting base []) before m → Run base m later (resting base order) → TakesTurns base before (shells_in later) later
follows base order complete before [] m ran run =
    over (λ k. more_is_left base before m k ran ∙ ap (λ (m : Machine). has_left base m k) run ∙ none_left base order complete k)
follows base order complete before (e ∷ later) m ran run =
    steps (more_is_left base before m (shell_of e) ran ∙ step_left base m e run.0 run.1)
    (follows base order complete (before ++ e ∷ []) later run.0 (runs_on base (resting base []) before m (e ∷ []) run.0 ran (run.0, run.1, refl)) run.2)

pub runs_have_schedules : RunsHaveSchedules
runs_have_schedules base events order run complete = follows base order complete [] events (resting base []) refl run

-- ---- the shells are the plan's

of_plan : (base : BaseTree) (m : Machine) (e : Event) (m' : Machine) → Step base m e m' → shell_of e < length base.plan
of_plan base m (event.Look shell path position) m' s = shell_within base shell (next_number m.order shell) (fewer_settled base m.order shell s.txn s.next)
of_plan base m (event.Settled shell entry) m' s = shell_within base shell (next_number m.order shell) (fewer_settled base m.order shell s.txn s.next)
of_plan base m (event.Conflict shell entry path) m' s = shell_within base shell (next_number m.order shell) (fewer_settled base m.order shell s.txn s.next)

pub shells_of_plan : (base : BaseTree) (m : Machine) (events : List Event) (m' : Machine) → Run base m events m' → All (λ shell. shell < length base.plan) (shells_in events)
shells_of_plan base m [] m' run = All-nil (λ shell. shell < length base.plan)
shells_of_plan base m (e ∷ events) m' run = All-cons (λ shell. shell < length base.plan) (shell_of e) (shells_in events) (of_plan base m e run.0 run.1) (shells_of_plan base run.0 events m' run.2)
