-- Recorded runs: how they begin, and how they go on by turns and rounds.
use Rattle.std.proofs.Common.{◌≡◌, ⊎_elim, ℕ, zero, suc, ◌<◌, ◌≤◌, true, false, nat_lt, List, [], ◌∷◌, ◌++◌, length, get_or, replicate, slice_get, Some, None, is_some, refl, sym, ap, subst, ◌∙◌, arith, append_assoc}
use Rattle.std.proofs.lemmas.Bool.{cases_lt}
use Rattle.std.proofs.lemmas.List.{append-nil, length-set, length-replicate, get_or_past}
use Rattle.std.proofs.lemmas.List.Elements.{Contains-append_cases}
use Rattle.fx_base.proofs.Lists.{only_one}
use Rattle.fx_base.proofs.Booleans.{never_both}
use Rattle.fx_spec.specs.Plans.{script_of, count_of}
use Rattle.fx_spec.specs.Order.{BaseTree, first_numbers}
use Rattle.fx_machine.specs.declared.event.Event.{Event}
use Rattle.fx_machine.specs.declared.event.Event.TheVariants as event
use Rattle.fx_machine.specs.declared.retry.Retry.{Retry}
use Rattle.fx_machine.specs.Laws.{IsReached}
use Rattle.fx_machine.specs.Machine.{Machine, Run, Step, next_number, next_txn, shell_of, resting}
use Rattle.fx_machine.specs.Measure.{has_left}
use Rattle.fx_machine.specs.Tried.{conflicts_of}
use Rattle.fx_machine.specs.Turns.{TakesTurns, left_out, steps, a_round, over as all_over, BeginsTurns, leaves_out, goes, next_round, stops, has_more}
use Rattle.fx_machine.proofs.Weight.{weight, weight_falls}
use Rattle.fx_machine.proofs.Turns.{first_contains}
use Rattle.fx_board.specs.Log.{Log}
use Rattle.fx_machine.proofs.Turning.{settled_by, next_counts, some_within, more_is_left, runs_on}
use Rattle.fx_diaries.specs.Named.{NameConflicts}
use Rattle.fx_diaries.proofs.Named.{names_none, names_more}
use Rattle.fx_sched.specs.declared.shell.Shell.{Shell}
use Rattle.fx_sched.specs.Left.{SomeLeft}
use Rattle.fx_sched.specs.Recorded.{Play, IsRecording, RunsBy, HadTurns, HadRounds}
use Rattle.fx_sched.specs.Running.{Running}
use Rattle.fx_sched.specs.Taking.{a_start}
use Rattle.fx_sched.specs.World.{running_of, noted, IsWorld, Leads}
use Rattle.fx_sched.proofs.Counts.{noted_conflicts}
use Rattle.fx_sched.proofs.Worlds.{run_more, shell_at}

-- ---- what a world answers

pub next_of : (log : Log) (shells : List Shell) (running : Running) (number : ℕ) (s : Shell) → IsWorld log shells → running_of log shells ≡ running → number < length running.base.plan → s ≡ get_or shells number s → s.next ≡ next_number running.machine.order number
next_of log shells running number s whole view h e =
    let within : number < length log.base.plan = subst (λ (r : Running). number < length r.base.plan) (sym view) h in
    (whole.each number s (shell_at log shells number s whole within ∙ ap (λ s. Some s) (sym e))).next ∙ ap (λ (r : Running). next_number r.machine.order number) view

pub left_is : (running : Running) (number next count : ℕ) → next ≡ next_number running.machine.order number → count ≡ count_of running.base.plan number → nat_lt next count ≡ has_left running.base running.machine number
left_is running number next count n c =
    ap (λ n. nat_lt n count) n ∙ ap (nat_lt (next_number running.machine.order number)) c ∙ sym (some_within (script_of running.base.plan number) (next_number running.machine.order number))

none_past : (running : Running) (k : ℕ) → length running.base.plan ≤ k → has_left running.base running.machine k ≡ false
none_past running k h = ap (λ script. is_some (slice_get script (next_number running.machine.order k))) (get_or_past running.base.plan k [] h)

pub all_none : (running : Running) (count : ℕ) → length running.base.plan ≤ count → ((k : ℕ) → k < count → has_left running.base running.machine k ≡ false) → (k : ℕ) → has_left running.base running.machine k ≡ false
all_none running count e below k =
    ⊎_elim (λ h. below k h) (λ h. none_past running k (omega (arith, e, h))) (cases_lt k count)

-- ---- retries by shell

noted_length : (txn : ℕ) (lists : List (List Retry)) (e : Event) → length (noted txn lists e) ≡ length lists
noted_length txn lists (event.Look k path position) = refl
noted_length txn lists (event.Settled k entry) = refl
noted_length txn lists (event.Conflict k entry path) = length-set lists k (get_or lists k [] ++ record { shell = k; txn = txn; entry = entry; path = path } ∷ [])

none_at : (n k : ℕ) → get_or (replicate n (let none : List Retry = [] in none)) k [] ≡ []
none_at zero k = refl
none_at (suc n) zero = refl
none_at (suc n) (suc k) = none_at n k

-- ---- the beginning

pub begun : (base : BaseTree) → IsRecording (a_start base)
begun base = record { run = refl; named = names_none base (resting base []); count = length-replicate (length base.plan) []; conflicts = λ k within. none_at (length base.plan) k }

-- ---- turns

pub recorded_more : (r : Play) → IsRecording r → (k : ℕ) → has_more r.world.base r.events k ≡ has_left r.world.base r.world.machine k
recorded_more r is k = more_is_left r.world.base r.events r.world.machine k is.run

-- a turn in which an event came
pub stepped : (old new : Play) (shell : ℕ) (e : Event) → IsRecording old → Leads old.world shell new.world e → new.events ≡ old.events ++ e ∷ [] → HadTurns old (shell ∷ []) new
stepped old new shell e is leads events =
    let txn : ℕ = next_number new.world.machine.order shell in
    let lists : new.world.retries ≡ noted txn old.world.retries e = leads.retries in
    let next : txn ≡ next_number new.world.machine.order (shell_of e) = ap (next_number new.world.machine.order) (sym leads.whose) in
    let run : Run old.world.base (resting old.world.base []) (old.events ++ e ∷ []) new.world.machine = run_more old.world.base (resting old.world.base []) old.events old.world.machine e new.world.machine is.run leads.step in
    let named : NameConflicts old.world.base (resting old.world.base []) (old.events ++ e ∷ []) = names_more old.world.base (resting old.world.base []) old.events old.world.machine e is.run is.named leads.named in
    let count : length new.world.retries ≡ length old.world.retries = ap length lists ∙ noted_length txn old.world.retries e in
    let settled : txn ≡ settled_by (shell_of e) (old.events ++ e ∷ []) =
    (let h = next_counts old.world.base (resting old.world.base []) (old.events ++ e ∷ []) new.world.machine (shell_of e) run in omega (arith, h, next)) in
    record {
      recording = record {
        run = subst (λ b. Run b (resting b []) new.events new.world.machine) (sym leads.base) (subst (λ es. Run old.world.base (resting old.world.base []) es new.world.machine) (sym events) run);
        named = subst (λ b. NameConflicts b (resting b []) new.events) (sym leads.base) (subst (NameConflicts old.world.base (resting old.world.base [])) (sym events) named);
        count = count ∙ is.count ∙ ap (λ (b : BaseTree). length b.plan) (sym leads.base);
        conflicts = λ k within.
            let inside : k < length old.world.base.plan = subst (λ (b : BaseTree). k < length b.plan) leads.base within in
            let listed : k < length old.world.retries = (let b = is.count in omega (arith, b, inside)) in
            ap (λ ls. get_or ls k []) lists ∙ noted_conflicts old.world.retries old.events e txn k listed settled (is.conflicts k inside) ∙ ap (conflicts_of k 0) (sym events);
      };
      base = leads.base;
      more = e ∷ [];
      events = events;
      run = (new.world.machine, leads.step, refl);
      idle = λ none. absurd (cc);
      takes = λ later es t.
          let has : has_more old.world.base old.events (shell_of e) ≡ true = recorded_more old is (shell_of e) ∙ ap (has_left old.world.base old.world.machine) leads.whose ∙ leads.left in
          let after : TakesTurns old.world.base (old.events ++ e ∷ []) later es = subst (λ before. TakesTurns old.world.base before later es) events t in
          subst (λ k. TakesTurns old.world.base old.events (k ∷ later) (e ∷ es)) leads.whose (steps has after);
      begins = λ later es t.
          let has : has_more old.world.base old.events (shell_of e) ≡ true = recorded_more old is (shell_of e) ∙ ap (has_left old.world.base old.world.machine) leads.whose ∙ leads.left in
          let after : BeginsTurns old.world.base (old.events ++ e ∷ []) later es = subst (λ before. BeginsTurns old.world.base before later es) events t in
          subst (λ k. BeginsTurns old.world.base old.events (k ∷ later) (e ∷ es)) leads.whose (goes has after);
    }

-- a turn of a shell that has no transaction left
pub idled : (old new : Play) (shell : ℕ) → IsRecording old → next_txn old.world.base old.world.machine.order shell ≡ None → new ≡ old → HadTurns old (shell ∷ []) new
idled old new shell is none same = subst (HadTurns old (shell ∷ [])) (sym same) (record {
  recording = is;
  base = refl;
  more = [];
  events = sym (append-nil old.events);
  run = refl;
  idle = λ e k inside. subst (λ k. has_left old.world.base old.world.machine k ≡ false) (only_one shell k inside) (ap is_some none);
  takes = λ later es t. left_out (recorded_more old is shell ∙ ap is_some none) t;
  begins = λ later es t. leaves_out (recorded_more old is shell ∙ ap is_some none) t;
})

-- ---- the runs of turns

both_none : (xs ys : List Event) → xs ++ ys ≡ [] → (xs ≡ []) × (ys ≡ [])
both_none [] ys e = (refl, e)
both_none (x ∷ xs) ys e = absurd (cc)

pub runs_stepped : (old new : Running) (shell : ℕ) (e : Event) → Leads old shell new e → RunsBy old (shell ∷ []) new
runs_stepped old new shell e leads =
    record { base = leads.base; more = e ∷ []; run = (new.machine, leads.step, refl); idle = λ none. absurd (cc) }

pub runs_idled : (old new : Running) (shell : ℕ) → next_txn old.base old.machine.order shell ≡ None → new ≡ old → RunsBy old (shell ∷ []) new
runs_idled old new shell none same = subst (RunsBy old (shell ∷ [])) (sym same) (record {
  base = refl;
  more = [];
  run = refl;
  idle = λ e k inside. subst (λ k. has_left old.base old.machine k ≡ false) (only_one shell k inside) (ap is_some none);
})

pub runs_none : (r : Running) → RunsBy r [] r
runs_none r = record { base = refl; more = []; run = refl; idle = λ e k inside. absurd (let h = inside.1 in omega (arith, h)) }

pub runs_then : (a b c : Running) (ts us : List ℕ) → RunsBy a ts b → RunsBy b us c → RunsBy a (ts ++ us) c
runs_then a b c ts us s t =
    let run : Run a.base b.machine t.more c.machine = subst (λ base. Run base b.machine t.more c.machine) s.base t.run in
    record {
      base = t.base ∙ s.base;
      more = s.more ++ t.more;
      run = runs_on a.base a.machine s.more b.machine t.more c.machine s.run run;
      idle = λ none k inside.
          let parts : (s.more ≡ []) × (t.more ≡ []) = both_none s.more t.more none in
          let same : a.machine ≡ b.machine = subst (λ es. Run a.base a.machine es b.machine) parts.0 s.run in
          ⊎_elim (λ h. s.idle parts.0 k h)
          (λ h. ap (λ m. has_left a.base m k) same ∙ ap (λ base. has_left base b.machine k) (sym s.base) ∙ t.idle parts.1 k h) (Contains-append_cases ts us k inside);
    }

pub had_none : (r : Play) → IsRecording r → HadTurns r [] r
had_none r is = record {
  recording = is;
  base = refl;
  more = [];
  events = sym (append-nil r.events);
  run = refl;
  idle = λ e k inside. absurd (let h = inside.1 in omega (arith, h));
  takes = λ later es t. t;
  begins = λ later es t. t;
}

pub had_then : (a b c : Play) (ts us : List ℕ) → HadTurns a ts b → HadTurns b us c → HadTurns a (ts ++ us) c
had_then a b c ts us s t =
    let run : Run a.world.base b.world.machine t.more c.world.machine = subst (λ base. Run base b.world.machine t.more c.world.machine) s.base t.run in
    record {
      recording = t.recording;
      base = t.base ∙ s.base;
      more = s.more ++ t.more;
      events = t.events ∙ ap (λ es. es ++ t.more) s.events ∙ append_assoc a.events s.more t.more;
      run = runs_on a.world.base a.world.machine s.more b.world.machine t.more c.world.machine s.run run;
      idle = λ none k inside.
          let parts : (s.more ≡ []) × (t.more ≡ []) = both_none s.more t.more none in
          let same : a.world.machine ≡ b.world.machine = subst (λ es. Run a.world.base a.world.machine es b.world.machine) parts.0 s.run in
          ⊎_elim (λ h. s.idle parts.0 k h)
          (λ h. ap (λ m. has_left a.world.base m k) same ∙ ap (λ base. has_left base b.world.machine k) (sym s.base) ∙ t.idle parts.1 k h) (Contains-append_cases ts us k inside);
      takes = λ later es h.
          let on : TakesTurns a.world.base b.events (us ++ later) (t.more ++ es) = subst (λ base. TakesTurns base b.events (us ++ later) (t.more ++ es)) s.base
          (t.takes later es (subst (λ base. TakesTurns base c.events later es) (sym s.base) h)) in
          subst (λ turns. TakesTurns a.world.base a.events turns ((s.more ++ t.more) ++ es)) (sym (append_assoc ts us later))
          (subst (TakesTurns a.world.base a.events (ts ++ (us ++ later))) (sym (append_assoc s.more t.more es)) (s.takes (us ++ later) (t.more ++ es) on));
      begins = λ later es h.
          let on : BeginsTurns a.world.base b.events (us ++ later) (t.more ++ es) = subst (λ base. BeginsTurns base b.events (us ++ later) (t.more ++ es)) s.base
          (t.begins later es (subst (λ base. BeginsTurns base c.events later es) (sym s.base) h)) in
          subst (λ turns. BeginsTurns a.world.base a.events turns ((s.more ++ t.more) ++ es)) (sym (append_assoc ts us later))
          (subst (BeginsTurns a.world.base a.events (ts ++ (us ++ later))) (sym (append_assoc s.more t.more es)) (s.begins (us ++ later) (t.more ++ es) on));
    }

-- ---- rounds

reached_on : (base : BaseTree) (m : Machine) (e : Event) (m' : Machine) → IsReached base m → Step base m e m' → IsReached base m'
reached_on base m e m' reached step = record { events = reached.events ++ e ∷ []; run = run_more base (resting base []) reached.events m e m' reached.run step }

run_keeps : (base : BaseTree) (m : Machine) (events : List Event) (m' : Machine) → IsReached base m → Run base m events m' → weight base m' ≤ weight base m
run_keeps base m [] m' reached run = let same : weight base m ≡ weight base m' = ap (weight base) run in omega (arith, same)
run_keeps base m (e ∷ events) m' reached run =
    let first : weight base run.0 < weight base m = weight_falls base m run.0 e reached run.1 in
    let rest : weight base m' ≤ weight base run.0 = run_keeps base run.0 events m' (reached_on base m e run.0 reached run.1) run.2 in
    omega (arith, first, rest)

run_falls : (base : BaseTree) (m : Machine) (events : List Event) (m' : Machine) → IsReached base m → (events ≡ [] → ⊥) → Run base m events m' → weight base m' < weight base m
run_falls base m [] m' reached some run = absurd (some refl)
run_falls base m (e ∷ events) m' reached some run =
    let first : weight base run.0 < weight base m = weight_falls base m run.0 e reached run.1 in
    let rest : weight base m' ≤ weight base run.0 = run_keeps base run.0 events m' (reached_on base m e run.0 reached run.1) run.2 in
    omega (arith, first, rest)

pub round_falls : (old new : Running) → IsReached old.base old.machine → SomeLeft old → RunsBy old (first_numbers (length old.base.plan)) new → weight new.base new.machine < weight old.base old.machine
round_falls old new reached left runs =
    subst (λ b. weight b new.machine < weight old.base old.machine) (sym runs.base)
    (run_falls old.base old.machine runs.more new.machine reached
    (λ none. never_both (has_left old.base old.machine left.shell) left.left (runs.idle none left.shell (first_contains (length old.base.plan) left.shell left.within))) runs.run)

-- some rounds so far
pub record Rounds (old new : Play) : Type 0 where
  pub recording : IsRecording new
  pub base : new.world.base ≡ old.world.base
  pub more : List Event
  pub events : new.events ≡ old.events ++ more
  pub takes : (events : List Event) → TakesTurns old.world.base new.events [] events → TakesTurns old.world.base old.events [] (more ++ events)
  pub begins : (events : List Event) → BeginsTurns old.world.base new.events [] events → BeginsTurns old.world.base old.events [] (more ++ events)

pub rounds_none : (r : Play) → IsRecording r → Rounds r r
rounds_none r is = record { recording = is; base = refl; more = []; events = sym (append-nil r.events); takes = λ es t. t; begins = λ es t. t }

pub rounds_more : (a b c : Play) → Rounds a b → SomeLeft b.world → HadTurns b (first_numbers (length b.world.base.plan)) c → Rounds a c
rounds_more a b c r left had = record {
  recording = had.recording;
  base = had.base ∙ r.base;
  more = r.more ++ had.more;
  events = had.events ∙ ap (λ es. es ++ had.more) r.events ∙ append_assoc a.events r.more had.more;
  takes = λ es t.
      let here : TakesTurns b.world.base c.events [] es = subst (λ base. TakesTurns base c.events [] es) (sym r.base) t in
      let turns : TakesTurns b.world.base b.events (first_numbers (length b.world.base.plan)) (had.more ++ es) =
      subst (λ turns. TakesTurns b.world.base b.events turns (had.more ++ es)) (append-nil (first_numbers (length b.world.base.plan))) (had.takes [] es here) in
      let round : TakesTurns b.world.base b.events [] (had.more ++ es) = a_round left.shell (recorded_more b r.recording left.shell ∙ left.left) turns in
      subst (TakesTurns a.world.base a.events []) (sym (append_assoc r.more had.more es)) (r.takes (had.more ++ es) (subst (λ base. TakesTurns base b.events [] (had.more ++ es)) r.base round));
  begins = λ es t.
      let here : BeginsTurns b.world.base c.events [] es = subst (λ base. BeginsTurns base c.events [] es) (sym r.base) t in
      let turns : BeginsTurns b.world.base b.events (first_numbers (length b.world.base.plan)) (had.more ++ es) =
      subst (λ turns. BeginsTurns b.world.base b.events turns (had.more ++ es)) (append-nil (first_numbers (length b.world.base.plan))) (had.begins [] es here) in
      let round : BeginsTurns b.world.base b.events [] (had.more ++ es) = next_round left.shell (recorded_more b r.recording left.shell ∙ left.left) turns in
      subst (BeginsTurns a.world.base a.events []) (sym (append_assoc r.more had.more es)) (r.begins (had.more ++ es) (subst (λ base. BeginsTurns base b.events [] (had.more ++ es)) r.base round));
}

pub rounds_over : (a b : Play) → Rounds a b → ((k : ℕ) → has_left b.world.base b.world.machine k ≡ false) → HadRounds a b
rounds_over a b r none = record {
  recording = r.recording;
  base = r.base;
  more = r.more;
  events = r.events;
  over = none;
  takes = subst (TakesTurns a.world.base a.events []) (append-nil r.more) (r.takes [] (subst (λ base. TakesTurns base b.events [] []) r.base (all_over (λ k. recorded_more b r.recording k ∙ none k))));
  begins = subst (BeginsTurns a.world.base a.events []) (append-nil r.more) (r.begins [] stops);
}
