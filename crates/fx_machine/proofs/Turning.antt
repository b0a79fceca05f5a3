-- Turns that are left after some events, and which shells have a transaction left by then.
use Rattle.std.proofs.Common.{◌≡◌, ⊎_elim, ℕ, ◌+◌, ◌<◌, ◌≤◌, Bool, true, false, cond, nat_eq, nat_lt, List, [], ◌∷◌, ◌++◌, length, slice_get, is_some, refl, sym, ap, subst, ◌∙◌, arith, length-append, append_assoc}
use Rattle.std.specs.List.{count_by}
use Rattle.std.proofs.lemmas.Bool.{eqb-true}
use Rattle.std.proofs.lemmas.Bool.Decides.{nat_tests}
use Rattle.std.proofs.lemmas.List.{append-nil}
use Rattle.std.proofs.lemmas.List.Sums.{sum_by-cons}
use Rattle.std.proofs.lemmas.Option.{slice_get_cases}
use Rattle.fx_spec.specs.Plans.{Turn, script_of, count_of}
use Rattle.fx_spec.specs.Order.{BaseTree, numbers_of}
use Rattle.fx_spec.proofs.Orders.{numbers_own, numbers_other}
use Rattle.fx_machine.specs.declared.event.Event.{Event}
use Rattle.fx_machine.specs.declared.event.Event.TheVariants as event
use Rattle.fx_machine.specs.Machine.{Machine, Run, next_number, resting}
use Rattle.fx_machine.specs.Measure.{has_left}
use Rattle.fx_machine.specs.Turns.{TakesTurns, left_out, steps, a_round, BeginsTurns, leaves_out, goes, next_round, stops, is_settled_by, has_more}

-- ---- turns

-- some turns are left, and what takes them goes on from the events by the turns that were there before
pub record TurnsLeft (base : BaseTree) (before : List Event) (turns : List ℕ) (events : List Event) : Type 0 where
  pub left : List ℕ
  pub takes : (later : List Event) → TakesTurns base (before ++ events) left later → TakesTurns base before turns (events ++ later)

pub turns_left : {base : BaseTree} {before : List Event} {turns : List ℕ} {events : List Event} → BeginsTurns base before turns events → TurnsLeft base before turns events
turns_left (leaves_out none begun) = let rest = turns_left begun in record { left = rest.left; takes = λ later t. left_out none (rest.takes later t) }
turns_left {base} {before = before} (goes {e = e} {events = events} more begun) =
    let rest = turns_left begun in
    record {
      left = rest.left;
      takes = λ later t. steps more (rest.takes later (subst (λ es. TakesTurns base es rest.left later) (sym (append_assoc before (e ∷ []) events)) t));
    }
turns_left (next_round shell more begun) = let rest = turns_left begun in record { left = rest.left; takes = λ later t. a_round shell more (rest.takes later t) }
turns_left {base} {before = before} {turns = turns} stops = record { left = turns; takes = λ later t. subst (λ es. TakesTurns base es turns later) (append-nil before) t }

-- ---- transactions left

abbrev pub settled_by : ℕ → List Event → ℕ
settled_by k events = count_by (is_settled_by k) events

pub settled_cons : (k : ℕ) (e : Event) (events : List Event) → settled_by k (e ∷ events) ≡ cond (is_settled_by k e) 1 0 + settled_by k events
settled_cons k e events = sum_by-cons (λ e. cond (is_settled_by k e) 1 0) e events

-- a settled transaction is one of its shell's
next_more : (o : List Turn) (k shell txn : ℕ) → next_number (o ++ (shell, txn) ∷ []) k ≡ next_number o k + cond (nat_eq shell k) 1 0
next_more o k shell txn = by (nat_eq shell k) refl
  where
    by : (b : Bool) → nat_eq shell k ≡ b → next_number (o ++ (shell, txn) ∷ []) k ≡ next_number o k + cond b 1 0
    by true e =
        let same : shell ≡ k = eqb-true shell k e in
        let own : next_number (o ++ (k, txn) ∷ []) k ≡ next_number o k + 1 = ap length (numbers_own o k txn) ∙ length-append (numbers_of k o) (txn ∷ []) in
        subst (λ shell. next_number (o ++ (shell, txn) ∷ []) k ≡ next_number o k + 1) (sym same) own
    by false e = let same : next_number (o ++ (shell, txn) ∷ []) k ≡ next_number o k = ap length (numbers_other o k shell txn e) in omega (arith, same)

-- the number of a shell's next transaction is that of its settles
pub next_counts : (base : BaseTree) (m : Machine) (events : List Event) (m' : Machine) (k : ℕ) → Run base m events m' → next_number m'.order k ≡ next_number m.order k + settled_by k events
next_counts base m [] m' k run = let same : next_number m'.order k ≡ next_number m.order k = ap (λ (m : Machine). next_number m.order k) (sym run) in omega (arith, same)
next_counts base m (event.Look shell path position ∷ events) m' k run =
    let rest : next_number m'.order k ≡ next_number run.0.order k + settled_by k events = next_counts base run.0 events m' k run.2 in
    let here : next_number run.0.order k ≡ next_number m.order k = ap (λ (m : Machine). next_number m.order k) run.1.after in
    omega (arith, rest, here, settled_cons k (event.Look shell path position) events)
next_counts base m (event.Settled shell entry ∷ events) m' k run =
    let rest : next_number m'.order k ≡ next_number run.0.order k + settled_by k events = next_counts base run.0 events m' k run.2 in
    let here : next_number run.0.order k ≡ next_number m.order k + cond (nat_eq shell k) 1 0 =
    ap (λ (m : Machine). next_number m.order k) run.1.after ∙ next_more m.order k shell (next_number m.order shell) in
    omega (arith, rest, here, settled_cons k (event.Settled shell entry) events)
next_counts base m (event.Conflict shell entry path ∷ events) m' k run =
    let rest : next_number m'.order k ≡ next_number run.0.order k + settled_by k events = next_counts base run.0 events m' k run.2 in
    let here : next_number run.0.order k ≡ next_number m.order k = ap (λ (m : Machine). next_number m.order k) run.1.after in
    omega (arith, rest, here, settled_cons k (event.Conflict shell entry path) events)

pub some_within : {A : Type 0} (xs : List A) (i : ℕ) → is_some (slice_get xs i) ≡ nat_lt i (length xs)
some_within xs i =
    ⊎_elim (λ h. ap is_some h.2 ∙ sym (let l : i < length xs = h.1 in let t : nat_lt i (length xs) ≡ true = grind (arith, nat_tests) in t))
    (λ h. ap is_some h.1 ∙ sym (let l : length xs ≤ i = h.0 in let t : nat_lt i (length xs) ≡ false = grind (arith, nat_tests) in t))
    (slice_get_cases xs i).1

-- a shell has a transaction left where it has not settled all of its script
pub more_is_left : (base : BaseTree) (events : List Event) (m : Machine) (k : ℕ) → Run base (resting base []) events m → has_more base events k ≡ has_left base m k
more_is_left base events m k run =
    let count : next_number m.order k ≡ settled_by k events = (let h = next_counts base (resting base []) events m k run in omega (arith, h)) in
    ap (λ n. nat_lt n (count_of base.plan k)) (sym count) ∙ sym (some_within (script_of base.plan k) (next_number m.order k))

-- ---- runs

-- one run, and then another
pub runs_on : (base : BaseTree) (m : Machine) (events : List Event) (m' : Machine) (more : List Event) (m'' : Machine) → Run base m events m' → Run base m' more m'' → Run base m (events ++ more) m''
runs_on base m [] m' more m'' run on = subst (λ m. Run base m more m'') (sym run) on
runs_on base m (e ∷ events) m' more m'' run on = (run.0, run.1, runs_on base run.0 events m' more m'' run.2 on)
