-- Turns whose events were taken.
use Rattle.std.proofs.Common.{◌≡◌, ℕ, suc, ◌+◌, ◌<◌, ◌≤◌, zero, List, [], ◌∷◌, ◌++◌, length, get_or, take, drop, None, false, Result, Ok, Err, refl, sym, ap, subst, ◌∙◌, ⊎_elim, arith, append_assoc}
use Rattle.std.proofs.lemmas.Bool.{cases_lt}
use Rattle.std.proofs.lemmas.List.{take_more, append-nil, take-append-drop}
use Rattle.std.specs.Prelude.{IsErrAnd}
use Rattle.fx_base.proofs.Errors.{err_of}
use Rattle.fx_spec.specs.Order.{BaseTree, first_numbers}
use Rattle.fx_machine.specs.declared.event.Event.{Event}
use Rattle.fx_machine.specs.declared.retry.Retry.{Retry}
use Rattle.fx_machine.specs.Machine.{next_txn, shell_of}
use Rattle.fx_machine.specs.Measure.{has_left}
use Rattle.fx_machine.specs.Turns.{BeginsTurns, next_round, stops}
use Rattle.fx_board.specs.Log.{Log}
use Rattle.fx_sched.specs.declared.taking.Ended.{Ended}
use Rattle.fx_sched.specs.declared.taking.Ended.TheVariants as ended
use Rattle.fx_sched.specs.Left.{SomeLeft}
use Rattle.fx_sched.specs.Running.{Running}
use Rattle.fx_sched.specs.Recorded.{Play, IsRecording, RunsBy, HadTurns, joined}
use Rattle.fx_sched.specs.Taking.{HadSome, a_start, AfterPlay, HadTurnsWith, HadRoundsWith, HasPaused, IsPlayed, HasStopped, HasEnded, HadAllWith, TookTurns, TookRounds, TookAll}
use Rattle.fx_sched.specs.World.{began, Leads}
use Rattle.fx_sched.proofs.Records.{begun, stepped, idled, runs_none, runs_then, had_none, had_then, Rounds, rounds_none, rounds_more, rounds_over, recorded_more}
use Rattle.fx_sched.proofs.Ends.{traced}

-- ---- some turns

pub some_none : (p : Play) (turns : List ℕ) → IsRecording p → HadSome p turns p
some_none p turns is = record { recording = is; base = refl; more = []; events = sym (append-nil p.events); begins = stops }

some_of : (p q : Play) (ts later : List ℕ) → HadTurns p ts q → HadSome p (ts ++ later) q
some_of p q ts later had = record {
  recording = had.recording;
  base = had.base;
  more = had.more;
  events = had.events;
  begins = subst (BeginsTurns p.world.base p.events (ts ++ later)) (append-nil had.more) (had.begins later [] stops);
}

some_then : (p q c : Play) (ts us : List ℕ) → HadTurns p ts q → HadSome q us c → HadSome p (ts ++ us) c
some_then p q c ts us s t = record {
  recording = t.recording;
  base = t.base ∙ s.base;
  more = s.more ++ t.more;
  events = t.events ∙ ap (λ es. es ++ t.more) s.events ∙ append_assoc p.events s.more t.more;
  begins = s.begins us t.more (subst (λ base. BeginsTurns base q.events us t.more) s.base t.begins);
}

some_round : (p q c : Play) → Rounds p q → SomeLeft q.world → HadSome q (first_numbers (length q.world.base.plan)) c → HadSome p [] c
some_round p q c r left t = record {
  recording = t.recording;
  base = t.base ∙ r.base;
  more = r.more ++ t.more;
  events = t.events ∙ ap (λ es. es ++ t.more) r.events ∙ append_assoc p.events r.more t.more;
  begins = r.begins t.more (subst (λ base. BeginsTurns base q.events [] t.more) r.base (next_round left.shell (recorded_more q r.recording left.shell ∙ left.left) t.begins));
}

-- ---- turns in a row

split_schedule : (schedule : List ℕ) (i : ℕ) (later : List ℕ) → i < length schedule → take i schedule ++ (get_or schedule i 0 ∷ [] ++ (drop (suc i) schedule ++ later)) ≡ schedule ++ later
split_schedule schedule i later h =
    sym (append_assoc (take i schedule) (get_or schedule i 0 ∷ []) (drop (suc i) schedule ++ later))
    ∙ ap (λ front. front ++ (drop (suc i) schedule ++ later)) (sym (take_more schedule i 0 h) ∙ ap (λ n. take n schedule) (let next : i + 1 ≡ suc i = omega arith in next))
    ∙ sym (append_assoc (take (suc i) schedule) (drop (suc i) schedule) later) ∙ ap (λ all. all ++ later) (take-append-drop (suc i) schedule)

first_split : (count n : ℕ) → n < count → (rest : List ℕ) × (first_numbers n ++ n ∷ rest ≡ first_numbers count)
first_split zero n h = absurd (omega (arith, h))
first_split (suc count) n h =
    ⊎_elim
    (λ (l : n < count). let more = first_split count n l in (more.0 ++ count ∷ [], sym (append_assoc (first_numbers n) (n ∷ more.0) (count ∷ [])) ∙ ap (λ ns. ns ++ count ∷ []) more.1))
    (λ (g : count ≤ n). let same : n ≡ count = omega (arith, h, g) in ([], ap (λ n. first_numbers n ++ n ∷ []) same)) (cases_lt n count)

-- ---- what was taken

module _ {T : Type 0} (took : T → List Event → Running → Type 0) where
  module _ (p : Play) (old : Running) (there : p.world ≡ old) (is : IsRecording p) where
    -- no event has come
    pub idled_with : (shell : ℕ) (new : Running) (taker : T) → took taker p.events p.world → next_txn old.base old.machine.order shell ≡ None → new ≡ old → HadTurnsWith took p (shell ∷ []) new taker
    idled_with shell new taker taken none same = record {
      play = p;
      there = there ∙ sym same;
      taken = taken;
      had = idled p p shell is (subst (λ (r : Running). next_txn r.base r.machine.order shell ≡ None) (sym there) none) refl;
    }

    had_one : (shell : ℕ) (e : Event) (new : Running) → Leads old shell new e → HadTurns p (shell ∷ []) (record { events = p.events ++ e ∷ []; world = new })
    had_one shell e new leads = stepped p (record { events = p.events ++ e ∷ []; world = new }) shell e is (subst (λ r. Leads r shell new e) (sym there) leads) refl

    -- one has come, and was taken
    pub stepped_with : (shell : ℕ) (e : Event) (new : Running) (taker : T) → Leads old shell new e → took taker (p.events ++ e ∷ []) new → HadTurnsWith took p (shell ∷ []) new taker
    stepped_with shell e new taker leads taken =
        record { play = record { events = p.events ++ e ∷ []; world = new }; there = refl; taken = taken; had = had_one shell e new leads }

    -- what the taker is told of the event
    pub leads_as : (shell : ℕ) (e : Event) (new : Running) → Leads old shell new e → Leads p.world (shell_of e) new e
    leads_as shell e new leads = subst (λ r. Leads r (shell_of e) new e) (sym there) (subst (λ k. Leads old k new e) (sym leads.whose) leads)

    -- want of memory
    pub paused_at : (turns : List ℕ) (new : Running) (taker : T) → took taker p.events p.world → new ≡ old → HasPaused took p turns new taker
    paused_at turns new taker taken same = record { play = p; there = there ∙ sym same; taken = taken; had = some_none p turns is }

    -- one has come, and was refused
    pub stopped_at : {S : Type 0} (refused : T → S → List Event → Event → Running → Type 0) (shell : ℕ) (e : Event) (new : Running) (taker : T) (stop : S) (later : List ℕ) → Leads old shell new e → refused taker stop p.events e new → HasStopped took refused p (shell ∷ [] ++ later) new taker stop
    stopped_at refused shell e new taker stop later leads why = record {
      events = p.events;
      event = e;
      why = why;
      had = some_of p (record { events = p.events ++ e ∷ []; world = new }) (shell ∷ []) later (had_one shell e new leads);
    }

  pub none_with : (p : Play) (old : Running) (taker : T) → p.world ≡ old → IsRecording p → took taker p.events p.world → HadTurnsWith took p [] old taker
  none_with p old taker there is taken = record { play = p; there = there; taken = taken; had = had_none p is }

  -- these turns were had, whatever play led to them
  pub record TurnsOn (old : Running) (first : T) (turns : List ℕ) (new : Running) (taker : T) : Type 0 where
    pub runs : RunsBy old turns new
    pub took_all : AfterPlay took old first (λ p. HadTurnsWith took p turns new taker)

  pub on_none : (old : Running) (first : T) → TurnsOn old first [] old first
  on_none old first = record { runs = runs_none old; took_all = λ p there is taken. none_with p old first there is taken }

  on_then : (old mid new : Running) (first before taker : T) (ts us : List ℕ) → TurnsOn old first ts mid before → RunsBy mid us new → AfterPlay took mid before (λ p. HadTurnsWith took p us new taker) → TurnsOn old first (ts ++ us) new taker
  on_then old mid new first before taker ts us on runs after = record {
    runs = runs_then old mid new ts us on.runs runs;
    took_all = λ p there is taken.
        let h = on.took_all p there is taken in
        let t = after h.play h.there h.had.recording h.taken in
        record { play = t.play; there = t.there; taken = t.taken; had = had_then p h.play t.play ts us h.had t.had };
  }

  pub on_schedule : (old mid new : Running) (first before taker : T) (schedule : List ℕ) (i : ℕ) → i < length schedule → TurnsOn old first (take i schedule) mid before → RunsBy mid (get_or schedule i 0 ∷ []) new → AfterPlay took mid before (λ p. HadTurnsWith took p (get_or schedule i 0 ∷ []) new taker) → TurnsOn old first (take (i + 1) schedule) new taker
  on_schedule old mid new first before taker schedule i h on runs after =
      subst (λ ts. TurnsOn old first ts new taker) (sym (take_more schedule i 0 h)) (on_then old mid new first before taker (take i schedule) (get_or schedule i 0 ∷ []) on runs after)

  pub on_round : (old mid new : Running) (first before taker : T) (n : ℕ) → TurnsOn old first (first_numbers n) mid before → RunsBy mid (n ∷ []) new → AfterPlay took mid before (λ p. HadTurnsWith took p (n ∷ []) new taker) → TurnsOn old first (first_numbers (n + 1)) new taker
  on_round old mid new first before taker n on runs after =
      let next : suc n ≡ n + 1 = omega arith in
      subst (λ m. TurnsOn old first (first_numbers m) new taker) next (on_then old mid new first before taker (first_numbers n) (n ∷ []) on runs after)

  -- some rounds so far
  pub record RoundsWith (start : Play) (world : Running) (taker : T) : Type 0 where
    pub play : Play
    pub there : play.world ≡ world
    pub taken : took taker play.events play.world
    pub rounds : Rounds start play

  pub no_rounds_with : (p : Play) (old : Running) (taker : T) → p.world ≡ old → IsRecording p → took taker p.events p.world → RoundsWith p old taker
  no_rounds_with p old taker there is taken = record { play = p; there = there; taken = taken; rounds = rounds_none p is }

  left_there : (p : Play) (world : Running) → p.world ≡ world → SomeLeft world → SomeLeft p.world
  left_there p world there left = subst SomeLeft (sym there) left

  turns_there : (p : Play) (world : Running) → p.world ≡ world → first_numbers (length world.base.plan) ≡ first_numbers (length p.world.base.plan)
  turns_there p world there = ap (λ (r : Running). first_numbers (length r.base.plan)) (sym there)

  pub rounds_with : (p : Play) (mid new : Running) (before taker : T) → (h : RoundsWith p mid before) → SomeLeft mid → HadTurnsWith took h.play (first_numbers (length mid.base.plan)) new taker → RoundsWith p new taker
  rounds_with p mid new before taker h left t = record {
    play = t.play;
    there = t.there;
    taken = t.taken;
    rounds = rounds_more p h.play t.play h.rounds (left_there h.play mid h.there left) (subst (λ ts. HadTurns h.play ts t.play) (turns_there h.play mid h.there) t.had);
  }

  pub over_with : (p : Play) (world : Running) (taker : T) → (h : RoundsWith p world taker) → ((k : ℕ) → has_left world.base world.machine k ≡ false) → HadRoundsWith took p world taker
  over_with p world taker h none = record {
    play = h.play;
    there = h.there;
    taken = h.taken;
    had = rounds_over p h.play h.rounds (subst (λ (r : Running). (k : ℕ) → has_left r.base r.machine k ≡ false) (sym h.there) none);
  }

  module _ {S : Type 0} (refused : T → S → List Event → Event → Running → Type 0) where
    -- an end after some turns
    ended_then : (p q : Play) (ts us : List ℕ) (world : Running) (taker : T) (why : Ended S) → HadTurns p ts q → HasEnded took refused q us world taker why → HasEnded took refused p (ts ++ us) world taker why
    ended_then p q ts us world taker ended.NoMemory had h =
        record { play = h.play; there = h.there; taken = h.taken; had = some_then p q h.play ts us had h.had }
    ended_then p q ts us world taker (ended.Stopped stop) had h = record {
      events = h.events;
      event = h.event;
      why = h.why;
      had = some_then p q (record { events = h.events ++ h.event ∷ []; world = world }) ts us had h.had;
    }

    pub turns_ended : (p : Play) (turns : List ℕ) (world : Running) (taker : T) (r : Result Unit (Ended S)) (why : Ended S) → IsErrAnd r (λ d. d ≡ why) → ((later : List ℕ) → HasEnded took refused p (turns ++ later) world taker why) → TookTurns took refused p turns world taker r
    turns_ended p turns world taker r why is end = subst (λ r. TookTurns took refused p turns world taker r) (sym (err_of r why is)) end

    pub rounds_ended : (p : Play) (world : Running) (taker : T) (r : Result Unit (Ended S)) (why : Ended S) → IsErrAnd r (λ d. d ≡ why) → HasEnded took refused p [] world taker why → TookRounds took refused p world taker r
    rounds_ended p world taker r why is end = subst (λ r. TookRounds took refused p world taker r) (sym (err_of r why is)) end

    -- in the turn of a schedule
    pub ended_scheduled : (p : Play) (schedule : List ℕ) (i : ℕ) (mid world : Running) (before taker : T) (why : Ended S) → i < length schedule → (h : HadTurnsWith took p (take i schedule) mid before) → ((later : List ℕ) → HasEnded took refused h.play (get_or schedule i 0 ∷ [] ++ later) world taker why) → (later : List ℕ) → HasEnded took refused p (schedule ++ later) world taker why
    ended_scheduled p schedule i mid world before taker why within h end later =
        subst (λ turns. HasEnded took refused p turns world taker why) (split_schedule schedule i later within)
        (ended_then p h.play (take i schedule) (get_or schedule i 0 ∷ [] ++ (drop (suc i) schedule ++ later)) world taker why h.had (end (drop (suc i) schedule ++ later)))

    -- in a turn of a round
    pub ended_in_round : (p : Play) (count n : ℕ) (mid world : Running) (before taker : T) (why : Ended S) → n < count → (h : HadTurnsWith took p (first_numbers n) mid before) → ((later : List ℕ) → HasEnded took refused h.play (n ∷ [] ++ later) world taker why) → (later : List ℕ) → HasEnded took refused p (first_numbers count ++ later) world taker why
    ended_in_round p count n mid world before taker why within h end later =
        let split = first_split count n within in
        subst (λ turns. HasEnded took refused p turns world taker why) (sym (append_assoc (first_numbers n) (n ∷ split.0) later) ∙ ap (λ ns. ns ++ later) split.1)
        (ended_then p h.play (first_numbers n) (n ∷ [] ++ (split.0 ++ later)) world taker why h.had (end (split.0 ++ later)))

    -- in a round after some
    pub ended_in_rounds : (p : Play) (mid world : Running) (before taker : T) (why : Ended S) → (h : RoundsWith p mid before) → SomeLeft mid → ((later : List ℕ) → HasEnded took refused h.play (first_numbers (length mid.base.plan) ++ later) world taker why) → HasEnded took refused p [] world taker why
    ended_in_rounds p mid world before taker why h left end = by why (subst (λ turns. HasEnded took refused h.play turns world taker why) (append-nil (first_numbers (length mid.base.plan)) ∙ turns_there h.play mid h.there) (end []))
      where
        by : (why : Ended S) → HasEnded took refused h.play (first_numbers (length h.play.world.base.plan)) world taker why → HasEnded took refused p [] world taker why
        by ended.NoMemory e =
            record { play = e.play; there = e.there; taken = e.taken; had = some_round p h.play e.play h.rounds (left_there h.play mid h.there left) e.had }
        by (ended.Stopped stop) e = record {
          events = e.events;
          event = e.event;
          why = e.why;
          had = some_round p h.play (record { events = e.events ++ e.event ∷ []; world = world }) h.rounds (left_there h.play mid h.there left) e.had;
        }

    -- in the turns of a schedule that rounds were to follow
    pub ended_in_schedule : (p : Play) (schedule : List ℕ) (world : Running) (taker : T) (r : Result Unit (Ended S)) (why : Ended S) → IsErrAnd r (λ d. d ≡ why) → ((later : List ℕ) → HasEnded took refused p (schedule ++ later) world taker why) → TookAll took refused p schedule world taker r
    ended_in_schedule p schedule world taker r why is end =
        subst (λ r. TookAll took refused p schedule world taker r) (sym (err_of r why is)) (subst (λ turns. HasEnded took refused p turns world taker why) (append-nil schedule) (end []))

    -- in the rounds behind a schedule, or behind them
    pub took_behind : (p : Play) (schedule : List ℕ) (mid world : Running) (before taker : T) (r : Result Unit (Ended S)) → (h : HadTurnsWith took p schedule mid before) → TookRounds took refused h.play world taker r → TookAll took refused p schedule world taker r
    took_behind p schedule mid world before taker (Ok _) h t =
        record { play = t.play; there = t.there; taken = t.taken; between = h.play; turns = h.had; rounds = t.had }
    took_behind p schedule mid world before taker (Err why) h end =
        subst (λ turns. HasEnded took refused p turns world taker why) (append-nil schedule) (ended_then p h.play schedule [] world taker why h.had end)

  -- the whole run
  pub played : (base : BaseTree) (schedule : List ℕ) (world : Running) (taker : T) (board : Log) (retries : List Retry) → HadAllWith took (a_start base) schedule world taker → (board.base ≡ world.base) × (board.order ≡ world.machine.order) × (retries ≡ joined world.retries) → IsPlayed took base schedule taker board retries
  played base schedule world taker board retries h answered = record {
    events = h.play.events;
    world = h.play.world;
    taken = h.taken;
    traced = traced base schedule (a_start base) h.between h.play (record { board = board; retries = retries; events = h.play.events }) refl refl h.turns h.rounds (answered.0 ∙ ap (λ (w : Running). w.base) (sym h.there)) (answered.1 ∙ ap (λ (w : Running). w.machine.order) (sym h.there)) refl
        (answered.2 ∙ ap (λ (w : Running). joined w.retries) (sym h.there));
  }

  -- at the start
  pub start_of : (base : BaseTree) (world : Running) (taker : T) (P : Play → Type 0) → world ≡ began base → took taker [] (began base) → AfterPlay took world taker P → P (a_start base)
  start_of base world taker P is taken after = after (a_start base) (sym is) (begun base) taken

  pub no_start : (base : BaseTree) (schedule : List ℕ) (taker : T) → took taker [] (began base) → HasPaused took (a_start base) schedule (began base) taker
  no_start base schedule taker taken = record { play = a_start base; there = refl; taken = taken; had = some_none (a_start base) schedule (begun base) }
