-- Where no shell has a transaction left, nothing is looked at any more, and the order is complete.
use Rattle.std.proofs.Common.{◌≡◌, ℕ, ◌<◌, ◌≤◌, false, List, [], ◌∷◌, ◌++◌, length, replicate, slice_get, is_some, refl, sym, ap, subst, ◌∙◌, arith}
use Rattle.std.specs.List.{Contains}
use Rattle.std.proofs.lemmas.Bool.{ne_eqb, ltb-false}
use Rattle.std.proofs.lemmas.List.{length-set, length-replicate, ext_get_or}
use Rattle.fx_base.proofs.Booleans.{never_both}
use Rattle.fx_spec.specs.Plans.{script_of, count_of}
use Rattle.fx_spec.specs.Order.{BaseTree, IsComplete, numbers_of}
use Rattle.fx_spec.proofs.Orders.{numbers_other}
use Rattle.fx_machine.specs.declared.event.Event.{Event}
use Rattle.fx_machine.specs.declared.event.Event.TheVariants as event
use Rattle.fx_machine.specs.Laws.{IsReached}
use Rattle.fx_machine.specs.Machine.{Machine, Look, Looks, Settles, Restarts, Run, Step, looks_of, next_number, resting}
use Rattle.fx_machine.specs.Measure.{has_left}
use Rattle.fx_machine.proofs.Reached.{set_looks, reached_sound, none_looked}
use Rattle.fx_machine.proofs.Turns.{first_contains, has_turn}
use Rattle.fx_machine.proofs.Turning.{some_within}

-- ---- a shell with no transaction left looks at nothing

record Tidy (base : BaseTree) (m : Machine) : Type 0 where
  count : length m.looks ≡ length base.plan
  idle : (k : ℕ) → has_left base m k ≡ false → looks_of m k ≡ []

abbrev IsNothing : List Look → Type 0
IsNothing looks = looks ≡ []

tidy_look : (base : BaseTree) (m m' : Machine) (shell : ℕ) (path : List (List ℕ)) (position : ℕ) → Tidy base m → Looks base m shell path position m' → Tidy base m'
tidy_look base m m' shell path position t l = subst (Tidy base) (sym l.after) (record {
  count = length-set m.looks shell (looks_of m shell ++ (path, position) ∷ []) ∙ t.count;
  idle = λ k none. set_looks IsNothing m.looks shell k (looks_of m shell ++ (path, position) ∷ []) refl
      (λ e. absurd (never_both (has_left base m shell) (ap is_some l.next) (subst (λ k. has_left base m k ≡ false) e none)))
      (λ n. t.idle k none);
})

tidy_settle : (base : BaseTree) (m m' : Machine) (shell entry : ℕ) → Tidy base m → Settles base m shell entry m' → Tidy base m'
tidy_settle base m m' shell entry t s = subst (Tidy base) (sym s.after) (record {
  count = length-set m.looks shell [] ∙ t.count;
  idle = λ k none. set_looks IsNothing m.looks shell k [] refl (λ e. refl)
      (λ n. t.idle k (ap (λ ns. is_some (slice_get (script_of base.plan k) (length ns))) (sym (numbers_other m.order k shell (next_number m.order shell) (ne_eqb shell k (λ e. n (sym e))))) ∙ none));
})

tidy_restart : (base : BaseTree) (m m' : Machine) (shell entry : ℕ) (path : List (List ℕ)) → Tidy base m → Restarts base m shell entry path m' → Tidy base m'
tidy_restart base m m' shell entry path t s = subst (Tidy base) (sym s.after) (record {
  count = length-set m.looks shell [] ∙ t.count;
  idle = λ k none. set_looks IsNothing m.looks shell k [] refl (λ e. refl) (λ n. t.idle k none);
})

tidy_step : (base : BaseTree) (m : Machine) (e : Event) (m' : Machine) → Tidy base m → Step base m e m' → Tidy base m'
tidy_step base m (event.Look shell path position) m' t s = tidy_look base m m' shell path position t s
tidy_step base m (event.Settled shell entry) m' t s = tidy_settle base m m' shell entry t s
tidy_step base m (event.Conflict shell entry path) m' t s = tidy_restart base m m' shell entry path t s

tidy_run : (base : BaseTree) (m : Machine) (events : List Event) (m' : Machine) → Tidy base m → Run base m events m' → Tidy base m'
tidy_run base m [] m' t run = subst (Tidy base) run t
tidy_run base m (e ∷ events) m' t run = tidy_run base run.0 events m' (tidy_step base m e run.0 t run.1) run.2

tidy_start : (base : BaseTree) → Tidy base (resting base [])
tidy_start base = record { count = length-replicate (length base.plan) []; idle = λ k none. none_looked (length base.plan) k }

pub at_rest : (base : BaseTree) (m : Machine) → IsReached base m → ((k : ℕ) → has_left base m k ≡ false) → m ≡ resting base m.order
at_rest base m reached none =
    let t : Tidy base m = tidy_run base (resting base []) reached.events m (tidy_start base) reached.run in
    let empty : m.looks ≡ replicate (length base.plan) [] =
    ext_get_or [] m.looks (replicate (length base.plan) []) (t.count ∙ sym (length-replicate (length base.plan) [])) (λ k h. t.idle k (none k) ∙ sym (none_looked (length base.plan) k)) in
    let with_looks : List (List Look) → Machine = λ looks. record { order = m.order; looks = looks } in
    ap with_looks empty

-- ---- the order is complete

pub completed : (base : BaseTree) (m : Machine) → IsReached base m → ((k : ℕ) → has_left base m k ≡ false) → IsComplete base m.order
completed base m reached none = record {
  legal = (reached_sound base m reached).legal;
  all = λ shell txn within.
      let past : count_of base.plan shell ≤ next_number m.order shell = ltb-false (next_number m.order shell) (count_of base.plan shell) (sym (some_within (script_of base.plan shell) (next_number m.order shell)) ∙ none shell) in
      let early : txn < length (numbers_of shell m.order) = omega (arith, past, within) in
      has_turn m.order shell txn (subst (λ ns. Contains ns txn) (sym ((reached_sound base m reached).legal shell).in_turn) (first_contains (length (numbers_of shell m.order)) txn early));
}
