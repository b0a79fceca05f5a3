-- The conflicts of a run to a complete order are good retries.
use Rattle.std.proofs.Common.{◌≡◌, inl, inr, ⊎_elim, ℕ, zero, suc, ◌<◌, ◌≤◌, Bool, true, false, cond, nat_eq, List, [], ◌∷◌, ◌++◌, map, length, get_or, set, slice_get, Some, None, refl, sym, ap, subst, ◌∙◌, arith, length-append}
use Rattle.std.specs.List.{All, Contains, cons_option, flat_map}
use Rattle.std.proofs.lemmas.Bool.{cases_lt, eqb-true, eqb-false}
use Rattle.std.proofs.lemmas.List.{map-append, append-nil, append_assoc}
use Rattle.std.proofs.lemmas.List.Concat.{flat_map-append}
use Rattle.std.proofs.lemmas.List.Elements.{All-nil, All-cons, All-head, All-tail, All-push, All-append, All-weaker, filter_map-append}
use Rattle.std.proofs.lemmas.Option.{slice_get-get_or, same_Some, none-some}
use Rattle.std.specs.FinMap.{get}
use Rattle.fx_base.proofs.Lists.{get_front, get_before}
use Rattle.fx_spec.specs.Plans.{Turn}
use Rattle.fx_spec.specs.Order.{BaseTree, Changes, number_in, numbers_of, first_numbers, IsComplete, RetryTree, IsRetry, Precedes, InOrder}
use Rattle.fx_spec.proofs.Orders.{state-front}
use Rattle.fx_machine.specs.declared.event.Event.{Event}
use Rattle.fx_machine.specs.declared.event.Event.TheVariants as event
use Rattle.fx_machine.specs.declared.retry.Retry.{Retry}
use Rattle.fx_machine.specs.Machine.{Machine, Look, looks_of, next_number, Restarts, Step, Run, resting}
use Rattle.fx_machine.specs.Tried.{retry_tree, conflicts_of}
use Rattle.fx_machine.specs.Laws.{CompleteRuns}
use Rattle.fx_machine.proofs.Legal.{fewer_settled}
use Rattle.fx_machine.proofs.Reached.{IsSound, set_looks, position_in, sound_step, sound_start}
use Rattle.fx_machine.proofs.Others.{other_entry}

-- ---- lists

pub below_first : (n : ℕ) → All (λ j. j < n) (first_numbers n)
below_first zero = All-nil (λ j. j < 0)
below_first (suc n) = All-push (λ j. j < suc n) (first_numbers n) n (All-weaker (λ j. j < n) (λ j. j < suc n) (λ j h. omega arith) (first_numbers n) (below_first n)) (omega arith)

-- what holds of the numbers of a shell's transactions holds of each that stands in the order
pub number_stands : (P : ℕ → Type 0) (o : List Turn) (shell place txn : ℕ) → All P (numbers_of shell o) → slice_get o place ≡ Some (shell, txn) → P txn
number_stands P [] shell place txn all e = absurd (none-some (shell, txn) e)
number_stands P (turn ∷ o) shell zero txn all e =
    let same : turn ≡ (shell, txn) = same_Some turn (shell, txn) e in
    first (nat_eq turn.0 shell) refl same all
  where
    first : (b : Bool) → nat_eq turn.0 shell ≡ b → turn ≡ (shell, txn) → All P (cons_option (cond b (Some turn.1) None) (numbers_of shell o)) → P txn
    first true is same all = subst P (ap (λ (t : Turn). t.1) same) (All-head P turn.1 (numbers_of shell o) all)
    first false is same all = absurd (eqb-false turn.0 shell is (ap (λ (t : Turn). t.0) same))
number_stands P (turn ∷ o) shell (suc place) txn all e = number_stands P o shell place txn (rest (nat_eq turn.0 shell) all) e
  where
    rest : (b : Bool) → All P (cons_option (cond b (Some turn.1) None) (numbers_of shell o)) → All P (numbers_of shell o)
    rest true all = All-tail P turn.1 (numbers_of shell o) all
    rest false all = all

pub next_after : (o : List Turn) (k txn shell : ℕ) → next_number (o ++ (k, txn) ∷ []) shell ≡ cond (nat_eq k shell) (suc (next_number o shell)) (next_number o shell)
next_after o k txn shell = ap length (filter_map-append (number_in shell) o ((k, txn) ∷ [])) ∙ by (nat_eq k shell)
  where
    by : (b : Bool) → length (numbers_of shell o ++ cons_option (cond b (Some txn) None) []) ≡ cond b (suc (next_number o shell)) (next_number o shell)
    by true = omega (arith, length-append (numbers_of shell o) (txn ∷ []))
    by false = ap length (append-nil (numbers_of shell o))

-- ---- runs

step_extends : (base : BaseTree) (m : Machine) (e : Event) (m' : Machine) → Step base m e m' → (more : List Turn) × (m'.order ≡ m.order ++ more)
step_extends base m (event.Look shell path position) m' s = ([], ap (λ (m : Machine). m.order) s.after ∙ sym (append-nil m.order))
step_extends base m (event.Settled shell entry) m' s = ((shell, next_number m.order shell) ∷ [], ap (λ (m : Machine). m.order) s.after)
step_extends base m (event.Conflict shell entry path) m' s = ([], ap (λ (m : Machine). m.order) s.after ∙ sym (append-nil m.order))

-- an order only grows
run_extends : (base : BaseTree) (m : Machine) (events : List Event) (m' : Machine) → Run base m events m' → (more : List Turn) × (m'.order ≡ m.order ++ more)
run_extends base m [] m' r = ([], ap (λ (m : Machine). m.order) (sym r) ∙ sym (append-nil m.order))
run_extends base m (e ∷ events) m' r =
    let one = step_extends base m e r.0 r.1 in
    let rest = run_extends base r.0 events m' r.2 in
    (one.0 ++ rest.0, rest.1 ∙ (ap (λ o. o ++ rest.0) one.1 ∙ append_assoc m.order one.0 rest.0))

-- ---- one shell

-- the retries of one shell, from a transaction and an entry on
record AreTried (base : BaseTree) (o : List Turn) (shell txn low : ℕ) (rs : List RetryTree) : Type 0 where
  each : All (IsRetry base o) rs
  whose : All (λ (r : RetryTree). r.shell ≡ shell) rs
  txns : All (λ (r : RetryTree). txn ≤ r.txn) rs
  entries : All (λ (r : RetryTree). low ≤ r.entry) rs
  order : InOrder rs

tried_none : (base : BaseTree) (o : List Turn) (shell txn low : ℕ) → AreTried base o shell txn low []
tried_none base o shell txn low = record {
  each = All-nil (IsRetry base o);
  whose = All-nil (λ (r : RetryTree). r.shell ≡ shell);
  txns = All-nil (λ (r : RetryTree). txn ≤ r.txn);
  entries = All-nil (λ (r : RetryTree). low ≤ r.entry);
  order = tt;
}

tried_later : (base : BaseTree) (o : List Turn) (shell txn low : ℕ) (rs : List RetryTree) → AreTried base o shell (suc txn) low rs → AreTried base o shell txn low rs
tried_later base o shell txn low rs t = record {
  each = t.each;
  whose = t.whose;
  txns = All-weaker (λ (r : RetryTree). suc txn ≤ r.txn) (λ (r : RetryTree). txn ≤ r.txn) (λ r h. omega arith) rs t.txns;
  entries = t.entries;
  order = t.order;
}

-- the retries that a first one precedes
precedes_all : (base : BaseTree) (o : List Turn) (r : RetryTree) (rs : List RetryTree) → AreTried base o r.shell r.txn (suc r.entry) rs → All (Precedes r) rs
precedes_all base o r rs t = λ k d h. inr (sym (t.whose k d h), t.txns k d h, t.entries k d h)

tried_more : (base : BaseTree) (o : List Turn) (low : ℕ) (r : RetryTree) (rs : List RetryTree) → IsRetry base o r → low ≤ r.entry → AreTried base o r.shell r.txn (suc r.entry) rs → AreTried base o r.shell r.txn low (r ∷ rs)
tried_more base o low r rs is from t = record {
  each = All-cons (IsRetry base o) r rs is t.each;
  whose = All-cons (λ (q : RetryTree). q.shell ≡ r.shell) r rs refl t.whose;
  txns = All-cons (λ (q : RetryTree). r.txn ≤ q.txn) r rs (omega arith) t.txns;
  entries = All-cons (λ (q : RetryTree). low ≤ q.entry) r rs from (All-weaker (λ (q : RetryTree). suc r.entry ≤ q.entry) (λ (q : RetryTree). low ≤ q.entry) (λ q h. omega arith) rs t.entries);
  order = (precedes_all base o r rs t, t.order);
}

-- a conflict is a retry of a complete order that the run's order has grown to
conflict_retries : (base : BaseTree) (m m' : Machine) (shell entry : ℕ) (path : List (List ℕ)) (o more : List Turn) → IsSound base m → Restarts base m shell entry path m' → IsComplete base o → o ≡ m.order ++ more → IsRetry base o (record { shell = shell; txn = next_number m.order shell; entry = entry; path = path })
conflict_retries base m m' shell entry path o more sound r complete grown =
    let here : Contains o (shell, next_number m.order shell) = complete.all shell (next_number m.order shell) (fewer_settled base m.order shell r.txn r.next) in
    let stands : slice_get o here.0 ≡ Some (shell, next_number m.order shell) = slice_get-get_or o here.0 (shell, next_number m.order shell) here.1 ∙ ap Some here.2 in
    let within : entry < length m.order = r.stale.3 in
    let at : slice_get m.order entry ≡ Some (get_or m.order entry (0, 0)) = slice_get-get_or m.order entry (0, 0) within in
    record {
      place = here.0;
      stands = stands;
      before = ⊎_elim
          (λ (early : here.0 < length m.order). absurd (own here.0 (get_before m.order more here.0 (shell, next_number m.order shell) early (subst (λ o. slice_get o here.0 ≡ Some (shell, next_number m.order shell)) grown stands))))
          (λ (late : length m.order ≤ here.0). let h : entry < here.0 = omega arith in h) (cases_lt here.0 (length m.order));
      other = (
        (get_or m.order entry (0, 0)).0,
        (get_or m.order entry (0, 0)).1,
        subst (λ o. slice_get o entry ≡ Some (get_or m.order entry (0, 0))) (sym grown) (get_front m.order more entry (get_or m.order entry (0, 0)) at),
        other_entry base m shell entry path sound r.stale (get_or m.order entry (0, 0)).0 (get_or m.order entry (0, 0)).1 at,
      );
      changed = subst (λ o. Changes base o entry path) (sym grown) (λ same. r.stale.4 (ap (λ nodes. get nodes path) (sym (state-front base m.order more entry (omega arith))) ∙ same ∙ ap (λ nodes. get nodes path) (state-front base m.order more (suc entry) within)));
    }
  where
    own : (place : ℕ) → slice_get m.order place ≡ Some (shell, next_number m.order shell) → ⊥
    own place e = let below : next_number m.order shell < next_number m.order shell = number_stands (λ j. j < next_number m.order shell) m.order shell place (next_number m.order shell) (subst (All (λ j. j < next_number m.order shell)) (sym (sound.legal shell).in_turn) (below_first (next_number m.order shell))) e in omega arith

-- what is set leaves a shell's looks at an entry or later
keeps_low : (m m' : Machine) (shell k low : ℕ) (x : List Look) → m'.looks ≡ set m.looks k x → (shell ≡ k → All (λ (l : Look). low ≤ l.1) x) → All (λ (l : Look). low ≤ l.1) (looks_of m shell) → All (λ (l : Look). low ≤ l.1) (looks_of m' shell)
keeps_low m m' shell k low x after own all =
    subst (λ ls. All (λ (l : Look). low ≤ l.1) (get_or ls shell [])) (sym after) (set_looks (All (λ (l : Look). low ≤ l.1)) m.looks k shell x (All-nil (λ (l : Look). low ≤ l.1)) own (λ n. all))

tried_since : (base : BaseTree) (o : List Turn) (shell txn low : ℕ) (rs : List RetryTree) (b : Bool) → AreTried base o shell (cond b (suc txn) txn) low rs → AreTried base o shell txn low rs
tried_since base o shell txn low rs true t = tried_later base o shell txn low rs t
tried_since base o shell txn low rs false t = t

-- a conflict of the shell comes before its later ones, and one of another shell changes nothing
tried_conflict : (base : BaseTree) (o : List Turn) (m m' : Machine) (shell k entry low : ℕ) (path : List (List ℕ)) (rs : List Retry) (more : List Turn) → IsSound base m → Restarts base m k entry path m' → IsComplete base o → o ≡ m.order ++ more → low ≤ length m.order → All (λ (l : Look). low ≤ l.1) (looks_of m shell)
    → ((low : ℕ) → low ≤ length m.order → All (λ (l : Look). low ≤ l.1) (looks_of m' shell) → AreTried base o shell (next_number m.order shell) low (map retry_tree rs))
    → AreTried base o shell (next_number m.order shell) low (map retry_tree (cond (nat_eq k shell) (record { shell = k; txn = next_number m.order shell; entry = entry; path = path } ∷ rs) rs))
tried_conflict base o m m' shell k entry low path rs more sound r complete grown short all rest = by (nat_eq k shell) refl
  where
    by : (b : Bool) → nat_eq k shell ≡ b → AreTried base o shell (next_number m.order shell) low (map retry_tree (cond b (record { shell = k; txn = next_number m.order shell; entry = entry; path = path } ∷ rs) rs))
    by true is =
        let same : k ≡ shell = eqb-true k shell is in
        let first : RetryTree = record { shell = k; txn = next_number m.order shell; entry = entry; path = path } in
        let retry : IsRetry base o (record { shell = k; txn = next_number m.order shell; entry = entry; path = path }) =
        subst (λ n. IsRetry base o (record { shell = k; txn = n; entry = entry; path = path })) (ap (next_number m.order) same) (conflict_retries base m m' k entry path o more sound r complete grown) in
        let since : low ≤ r.stale.0 = position_in (λ (l : Look). low ≤ l.1) (looks_of m k) path r.stale.0 (subst (λ k. All (λ (l : Look). low ≤ l.1) (looks_of m k)) (sym same) all) r.stale.1 in
        let not_after : r.stale.0 ≤ entry = r.stale.2 in
        let within : entry < length m.order = r.stale.3 in
        let later : AreTried base o shell (next_number m.order shell) (suc entry) (map retry_tree rs) =
        rest (suc entry) within (subst (λ k. All (λ (l : Look). suc entry ≤ l.1) (looks_of m' k)) same (set_own m m' k entry (ap (λ (m : Machine). m.looks) r.after))) in
        subst (λ s. AreTried base o s (next_number m.order shell) low (first ∷ map retry_tree rs)) same
        (tried_more base o low first (map retry_tree rs) retry (omega arith) (subst (λ s. AreTried base o s (next_number m.order shell) (suc entry) (map retry_tree rs)) (sym same) later))
      where
        set_own : (m m' : Machine) (k entry : ℕ) → m'.looks ≡ set m.looks k [] → All (λ (l : Look). suc entry ≤ l.1) (looks_of m' k)
        set_own m m' k entry after = subst (λ ls. All (λ (l : Look). suc entry ≤ l.1) (get_or ls k [])) (sym after) (set_looks (All (λ (l : Look). suc entry ≤ l.1)) m.looks k k [] (All-nil (λ (l : Look). suc entry ≤ l.1)) (λ e. All-nil (λ (l : Look). suc entry ≤ l.1)) (λ n. absurd (n refl)))
    by false is = rest low short (keeps_low m m' shell k low [] (ap (λ (m : Machine). m.looks) r.after) (λ e. All-nil (λ (l : Look). low ≤ l.1)) all)

-- from a state at which the shell's looks are all at an entry or later
tried_from : (base : BaseTree) (o : List Turn) → IsComplete base o → (shell txn low : ℕ) (events : List Event) (m : Machine) → IsSound base m → Run base m events (resting base o) → txn ≡ next_number m.order shell → low ≤ length m.order → All (λ (l : Look). low ≤ l.1) (looks_of m shell)
    → AreTried base o shell txn low (map retry_tree (conflicts_of shell txn events))
tried_from base o complete shell txn low [] m sound run number short all = tried_none base o shell txn low
tried_from base o complete shell txn low (event.Look k path position ∷ events) m sound run number short all =
    let order : run.0.order ≡ m.order = ap (λ (m : Machine). m.order) run.1.after in
    let now : position ≡ length m.order = run.1.now in
    tried_from base o complete shell txn low events run.0 (sound_step base m (event.Look k path position) run.0 sound run.1) run.2
    (number ∙ ap (λ o. next_number o shell) (sym order))
    (subst (λ o. low ≤ length o) (sym order) short)
    (keeps_low m run.0 shell k low (looks_of m k ++ (path, position) ∷ []) (ap (λ (m : Machine). m.looks) run.1.after)
    (λ e. All-push (λ (l : Look). low ≤ l.1) (looks_of m k) (path, position) (subst (λ k. All (λ (l : Look). low ≤ l.1) (looks_of m k)) e all) (omega arith)) all)
tried_from base o complete shell txn low (event.Settled k entry ∷ events) m sound run number short all =
    let order : run.0.order ≡ m.order ++ (k, next_number m.order k) ∷ [] = ap (λ (m : Machine). m.order) run.1.after in
    tried_since base o shell txn low (map retry_tree (conflicts_of shell (cond (nat_eq k shell) (suc txn) txn) events)) (nat_eq k shell)
    (tried_from base o complete shell (cond (nat_eq k shell) (suc txn) txn) low events run.0 (sound_step base m (event.Settled k entry) run.0 sound run.1) run.2
    (ap (λ n. cond (nat_eq k shell) (suc n) n) number ∙ sym (next_after m.order k (next_number m.order k) shell) ∙ ap (λ o. next_number o shell) (sym order))
    (subst (λ o. low ≤ length o) (sym order) (omega (arith, length-append m.order ((k, next_number m.order k) ∷ []))))
    (keeps_low m run.0 shell k low [] (ap (λ (m : Machine). m.looks) run.1.after) (λ e. All-nil (λ (l : Look). low ≤ l.1)) all))
tried_from base o complete shell txn low (event.Conflict k entry path ∷ events) m sound run number short all =
    let order : run.0.order ≡ m.order = ap (λ (m : Machine). m.order) run.1.after in
    let grown = run_extends base m (event.Conflict k entry path ∷ events) (resting base o) run in
    subst (λ n. AreTried base o shell n low (map retry_tree (cond (nat_eq k shell) (record { shell = k; txn = n; entry = entry; path = path } ∷ conflicts_of shell n events) (conflicts_of shell n events)))) (sym number)
    (tried_conflict base o m run.0 shell k entry low path (conflicts_of shell (next_number m.order shell) events) grown.0 sound run.1 complete grown.1 short all
    (λ low short all. tried_from base o complete shell (next_number m.order shell) low events run.0 (sound_step base m (event.Conflict k entry path) run.0 sound run.1) run.2
    (ap (λ o. next_number o shell) (sym order)) (subst (λ o. low ≤ length o) (sym order) short) all))

-- ---- all shells

-- the retries of the shells below a number
record AreRetries (base : BaseTree) (o : List Turn) (n : ℕ) (rs : List RetryTree) : Type 0 where
  each : All (IsRetry base o) rs
  below : All (λ (r : RetryTree). r.shell < n) rs
  order : InOrder rs

in_order_append : (xs ys : List RetryTree) → InOrder xs → InOrder ys → All (λ x. All (Precedes x) ys) xs → InOrder (xs ++ ys)
in_order_append [] ys first last between = last
in_order_append (x ∷ xs) ys first last between =
    (All-append (Precedes x) xs ys first.0 (All-head (λ x. All (Precedes x) ys) x xs between), in_order_append xs ys first.1 last (All-tail (λ x. All (Precedes x) ys) x xs between))

joined : (base : BaseTree) (o : List Turn) (n : ℕ) (xs ys : List RetryTree) (low : ℕ) → AreRetries base o n xs → AreTried base o n 0 low ys → AreRetries base o (suc n) (xs ++ ys)
joined base o n xs ys low a t = record {
  each = All-append (IsRetry base o) xs ys a.each t.each;
  below = All-append (λ (r : RetryTree). r.shell < suc n) xs ys (All-weaker (λ (r : RetryTree). r.shell < n) (λ (r : RetryTree). r.shell < suc n) (λ r h. omega arith) xs a.below) (All-weaker (λ (r : RetryTree). r.shell ≡ n) (λ (r : RetryTree). r.shell < suc n) (λ r h. omega arith) ys t.whose);
  order = in_order_append xs ys a.order t.order (λ k d h. λ j e l. inl (let low_shell = a.below k d h in let high = t.whose j e l in omega (arith, low_shell, high)));
}

retries_below : (base : BaseTree) (o : List Turn) (f : ℕ → List Retry) → ((shell : ℕ) → AreTried base o shell 0 0 (map retry_tree (f shell))) → (n : ℕ) → AreRetries base o n (map retry_tree (flat_map f (first_numbers n)))
retries_below base o f tried zero = record { each = All-nil (IsRetry base o); below = All-nil (λ (r : RetryTree). r.shell < 0); order = tt }
retries_below base o f tried (suc n) =
    let parts : map retry_tree (flat_map f (first_numbers n ++ n ∷ [])) ≡ map retry_tree (flat_map f (first_numbers n)) ++ map retry_tree (f n) =
    ap (map retry_tree) (flat_map-append f (first_numbers n) (n ∷ []) ∙ ap (λ last. flat_map f (first_numbers n) ++ last) (append-nil (f n))) ∙ map-append retry_tree (flat_map f (first_numbers n)) (f n) in
    subst (AreRetries base o (suc n)) (sym parts) (joined base o n (map retry_tree (flat_map f (first_numbers n))) (map retry_tree (f n)) 0 (retries_below base o f tried n) (tried n))

pub complete_runs : CompleteRuns
complete_runs base events o run complete =
    let all = retries_below base o (λ shell. conflicts_of shell 0 events) (λ shell. tried_from base o complete shell 0 0 events (resting base []) (sound_start base) run refl (omega arith) (λ k d h. omega arith)) (length base.plan) in
    record { each = all.each; order = all.order }
