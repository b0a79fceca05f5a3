-- A watched run: its start, one more event, and its end.
use Rattle.std.proofs.Common.{◌≡◌, ℕ, suc, ◌+◌, Bool, List, [], ◌∷◌, ◌++◌, length, Some, None, refl, ap, sym, subst, ◌∙◌, arith, append_assoc, length-append}
use Rattle.std.specs.FinMap.{get}
use Rattle.std.proofs.lemmas.List.{append-nil, flat_map_more}
use Rattle.std.proofs.lemmas.Option.{none-some, same_Some}
use Rattle.fx_spec.specs.Plans.{Turn}
use Rattle.fx_spec.specs.Order.{BaseTree, state}
use Rattle.fx_spec.proofs.Orders.{state-front}
use Rattle.fx_machine.specs.declared.event.Event.{Event}
use Rattle.fx_machine.specs.declared.event.Event.TheVariants as event
use Rattle.fx_machine.specs.declared.retry.Retry.{Retry}
use Rattle.fx_machine.specs.Machine.{Machine, Step, Run, resting, shell_of}
use Rattle.fx_run.proofs.Stable.{stable_node}
use Rattle.fx_machine.specs.declared.entry.Entry.{Entry}
use Rattle.fx_board.specs.Board.{state_at, last_state, IsEntry}
use Rattle.fx_board.specs.Log.{Log}
use Rattle.fx_report.specs.Entries.{report}
use Rattle.fx_report.specs.Events.{event_line}
use Rattle.fx_sched.specs.Running.{Running}
use Rattle.fx_sched.specs.Traced.{IsTraced}
use Rattle.fx_sched.specs.World.{began, Leads}
use Rattle.fx_diaries.proofs.Runs.{run_same}
use Rattle.fx_sched.proofs.Worlds.{run_more}
use Rattle.fx_watch.specs.Validity.{has_value, DiffersAt}
use Rattle.fx_watch.specs.WatchView.{WatchView, AnswersFor}
use Rattle.fx_watch.specs.Lines.{valid_line, loaded_line, state_line, watched_line, watched_lines}
use Rattle.fx_watch.specs.Outcome.{IsWatched}
use Rattle.fx_watch.specs.Watching.{settled_entry, IsAtEntry, HasWatched}

-- ---- the start

loaded_first : (base : BaseTree) → state base [] 0 ≡ base.loaded
unfolding state
loaded_first base = refl

pub started_with : (base : BaseTree) (watch : WatchView) (valid : Bool) (output : List ℕ) → watch.root ≡ base.description → AnswersFor watch (get base.loaded) → valid ≡ has_value base.description (get base.loaded) → output ≡ valid_line valid → HasWatched base watch output [] (began base)
started_with base watch valid output root told valid_is printed = record {
  begun = refl;
  run = refl;
  root = root;
  told = subst (λ nodes. AnswersFor watch (get nodes)) (sym (loaded_first base)) told;
  printed = λ later. printed ∙ ap valid_line valid_is ∙ sym (append-nil (loaded_line base));
}

-- ---- one more event

-- the lines with those of one event more
lines_more : (base : BaseTree) (o : List Turn) (events : List Event) (e : Event) → watched_lines base o events ++ watched_line base o e ≡ watched_lines base o (events ++ e ∷ [])
lines_more base o events e = flat_map_more (watched_line base o) (loaded_line base) events e

plain_line : (base : BaseTree) (o : List Turn) (e : Event) → settled_entry e ≡ None → watched_line base o e ≡ event_line e
plain_line base o (event.Look k path position) none = refl
plain_line base o (event.Settled k entry) none = absurd (none-some entry (sym none))
plain_line base o (event.Conflict k entry path) none = refl

state_behind : (base : BaseTree) (o : List Turn) (e : Event) (entry : ℕ) → settled_entry e ≡ Some entry → watched_line base o e ≡ event_line e ++ state_line base o (suc entry)
state_behind base o (event.Look k path position) entry some = absurd (none-some entry some)
state_behind base o (event.Settled k i) entry some = ap (λ n. event_line (event.Settled k i) ++ state_line base o (suc n)) (same_Some i entry some)
state_behind base o (event.Conflict k i path) entry some = absurd (none-some entry some)

order_stays : (base : BaseTree) (m n : Machine) (e : Event) → settled_entry e ≡ None → Step base m e n → n.order ≡ m.order
order_stays base m n (event.Look k path position) none step = ap (λ (m : Machine). m.order) step.after
order_stays base m n (event.Settled k entry) none step = absurd (none-some entry (sym none))
order_stays base m n (event.Conflict k entry path) none step = ap (λ (m : Machine). m.order) step.after

-- an entry more
record Longer (old new : List Turn) (entry : ℕ) : Type 0 where
  turn : Turn
  order : new ≡ old ++ turn ∷ []
  now : entry ≡ length old

order_longer : (base : BaseTree) (m n : Machine) (e : Event) (entry : ℕ) → settled_entry e ≡ Some entry → Step base m e n → Longer m.order n.order entry
order_longer base m n (event.Look k path position) entry some step = absurd (none-some entry some)
order_longer base m n (event.Settled k i) entry some step =
    record { turn = (k, _); order = ap (λ (m : Machine). m.order) step.after; now = sym (same_Some i entry some) ∙ step.now }
order_longer base m n (event.Conflict k i path) entry some step = absurd (none-some entry some)

module _ (base : BaseTree) (watch : WatchView) (output : List ℕ) (events : List Event) (old new : Running) (e : Event) (w : HasWatched base watch output events old) (leads : Leads old (shell_of e) new e) where
  abbrev step : Step base old.machine e new.machine
  step = subst (λ b. Step b old.machine e new.machine) w.begun leads.step

  abbrev run_on : Run base (resting base []) (events ++ e ∷ []) new.machine
  run_on = run_more base (resting base []) events old.machine e new.machine w.run step

  -- the filestore stays
  pub went_on : settled_entry e ≡ None → HasWatched base watch (output ++ event_line e) (events ++ e ∷ []) new
  went_on none =
      let order : new.machine.order ≡ old.machine.order = order_stays base old.machine new.machine e none step in
      record {
        begun = leads.base ∙ w.begun;
        run = run_on;
        root = w.root;
        told = subst (λ o. AnswersFor watch (get (state base o (length o)))) (sym order) w.told;
        printed = λ later.
            ap (λ out. out ++ event_line e) (w.printed later) ∙ ap (λ line. watched_lines base (old.machine.order ++ later) events ++ line) (sym (plain_line base (old.machine.order ++ later) e none)) ∙ lines_more base (old.machine.order ++ later) events e
            ∙ ap (λ o. watched_lines base (o ++ later) (events ++ e ∷ [])) (sym order);
      }

  -- an entry has come
  module _ (entry : ℕ) (some : settled_entry e ≡ Some entry) (board : Log) (same_base : board.base ≡ new.base) (same_order : board.order ≡ new.machine.order) where
    abbrev longer : Longer old.machine.order new.machine.order entry
    longer = order_longer base old.machine new.machine e entry some step

    base_is : board.base ≡ base
    base_is = same_base ∙ leads.base ∙ w.begun

    count : length new.machine.order ≡ suc entry
    count =
        let more : length (old.machine.order ++ longer.turn ∷ []) ≡ length old.machine.order + 1 = length-append old.machine.order (longer.turn ∷ []) in
        let whole : length new.machine.order ≡ length (old.machine.order ++ longer.turn ∷ []) = ap length longer.order in
        let now = longer.now in
        omega (arith, more, whole, now)

    before_is : state base new.machine.order entry ≡ state base old.machine.order (length old.machine.order)
    before_is =
        ap (λ o. state base o entry) longer.order ∙ ap (state base (old.machine.order ++ longer.turn ∷ [])) longer.now ∙ state-front base old.machine.order (longer.turn ∷ []) (length old.machine.order) (omega arith)

    last_is : last_state board ≡ state base new.machine.order (length new.machine.order)
    last_is = ap (λ b. state b board.order (length board.order)) base_is ∙ ap (λ o. state base o (length o)) same_order

    pub at_entry : IsAtEntry board watch entry
    at_entry = record {
      root = w.root ∙ ap (λ (b : BaseTree). b.description) (sym base_is);
      last = ap length same_order ∙ count;
      told = subst (λ nodes. AnswersFor watch (get nodes)) (sym (ap (λ b. state b board.order entry) base_is ∙ ap (λ o. state base o entry) same_order ∙ before_is)) w.told;
    }

    pub settled_on : (told : WatchView) (valid : Bool) → valid ≡ has_value watch.root (get (last_state board)) → AnswersFor told (get (last_state board)) → told.root ≡ watch.root → HasWatched base told ((output ++ event_line e) ++ valid_line valid) (events ++ e ∷ []) new
    settled_on told valid valid_is answers root = record {
      begun = leads.base ∙ w.begun;
      run = run_on;
      root = root ∙ w.root;
      told = subst (λ nodes. AnswersFor told (get nodes)) last_is answers;
      printed = λ later.
          let o : List Turn = new.machine.order ++ later in
          let whole : new.machine.order ++ later ≡ old.machine.order ++ (longer.turn ∷ later) = ap (λ o. o ++ later) longer.order ∙ append_assoc old.machine.order (longer.turn ∷ []) later in
          let front : output ≡ watched_lines base o events = w.printed (longer.turn ∷ later) ∙ ap (λ o. watched_lines base o events) (sym whole) in
          let there : state base o (suc entry) ≡ last_state board = state-front base new.machine.order later (suc entry) (omega (arith, count)) ∙ ap (state base new.machine.order) (sym count) ∙ sym last_is in
          let line : valid_line valid ≡ state_line base o (suc entry) =
          ap valid_line (valid_is ∙ ap (λ root. has_value root (get (last_state board))) w.root ∙ ap (λ nodes. has_value base.description (get nodes)) (sym there)) in
          append_assoc output (event_line e) (valid_line valid) ∙ ap (λ out. out ++ (event_line e ++ valid_line valid)) front ∙ ap (λ line. watched_lines base o events ++ (event_line e ++ line)) line
          ∙ ap (λ line. watched_lines base o events ++ line) (sym (state_behind base o e entry some)) ∙ lines_more base o events e;
    }

-- what the last entry has not changed is as it was
pub differs : (log : Log) (watch : WatchView) (i : ℕ) (e : Entry) → IsAtEntry log watch i → IsEntry log i e → DiffersAt e.changed (get (state_at log i)) (get (last_state log))
differs log watch i e at is = λ path kept.
    stable_node (get (state_at log i) path) (get (state_at log (suc i)) path) (λ other. kept ((is.changed path).1 other)) ∙ ap (λ n. get (state_at log n) path) (sym at.last)

-- ---- the end

pub watched : (base : BaseTree) (schedule : List ℕ) (watch : WatchView) (output : List ℕ) (events : List Event) (world : Running) (board : Log) (retries : List Retry) → HasWatched base watch output events world → IsTraced base schedule (record { board = board; retries = retries; events = events }) → (whole : List ℕ) → whole ≡ output ++ report board.base board.order retries → IsWatched base schedule board whole
watched base schedule watch output events world board retries w traced whole whole_is =
    let order : world.machine.order ≡ board.order = ap (λ (m : Machine). m.order) (run_same base (resting base []) world.machine (resting base board.order) events w.run traced.run) in
    let lines : output ≡ watched_lines base board.order events = w.printed [] ∙ ap (λ o. watched_lines base o events) (append-nil world.machine.order ∙ order) in
    record {
      retries = retries;
      begun = traced.begun;
      complete = traced.complete;
      tried = traced.tried;
      watched = record {
        events = events;
        run = traced.run;
        turns = traced.turns;
        named = traced.named;
        conflicts = traced.conflicts;
        printed = whole_is ∙ ap (λ out. out ++ report board.base board.order retries) lines ∙ ap (λ b. watched_lines base board.order events ++ report b board.order retries) traced.begun;
      };
    }
