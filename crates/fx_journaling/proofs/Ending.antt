-- How a recorded run ends.
use Rattle.std.proofs.Common.{◌≡◌, ◌⊎◌, inl, inr, ⊎_elim, ℕ, ◌≤◌, ◌<◌, List, [], ◌∷◌, ◌++◌, length, take, Option, Some, None, refl, sym, ◌∙◌, ap, subst, arith}
use Rattle.std.specs.Prelude.{IfSome}
use Rattle.std.proofs.lemmas.Bool.{cases_lt}
use Rattle.std.proofs.lemmas.List.{append-nil, take_all}
use Rattle.fx_outside.specs.Sink.{SinkView}
use Rattle.fx_spec.specs.Plans.{Turn}
use Rattle.fx_spec.specs.Order.{BaseTree}
use Rattle.fx_spec.proofs.Orders.{legal_none}
use Rattle.fx_machine.specs.declared.event.Event.{Event}
use Rattle.fx_machine.specs.declared.event.Event.TheVariants as event
use Rattle.fx_machine.specs.declared.retry.Retry.{Retry}
use Rattle.fx_machine.specs.Machine.{Machine, Step, resting}
use Rattle.fx_machine.specs.Turns.{BeginsTurns}
use Rattle.fx_board.specs.Log.{Log}
use Rattle.fx_durable.specs.Disk.{File, DiskView}
use Rattle.fx_durable.specs.Journal.{JournalView, RestsAt}
use Rattle.fx_durable.proofs.Moments.{only_now}
use Rattle.fx_report.specs.Events.{event_line, lines}
use Rattle.fx_sched.specs.Running.{Running}
use Rattle.fx_sched.specs.Recorded.{Play}
use Rattle.fx_sched.specs.Taking.{HadSome, a_start, HasEndedSomewhere}
use Rattle.fx_sched.specs.declared.taking.Ended.{Ended}
use Rattle.fx_sched.specs.declared.taking.Ended.TheVariants as end
use Rattle.fx_sched.specs.Traced.{IsTraced}
use Rattle.fx_sched.specs.World as World
use Rattle.fx_diaries.specs.Named.{NameConflicts}
use Rattle.fx_diaries.proofs.Runs.{run_same}
use Rattle.fx_sched.proofs.Worlds.{run_more}
use Rattle.fx_journaling.specs.declared.fault.RecordFault.{RecordFault}
use Rattle.fx_journaling.specs.declared.fault.RecordFault.TheVariants as fault
use Rattle.fx_journaling.specs.Kept.{HasAtMostOneMore, IfFile, HoldsOrder, LeavesEither}
use Rattle.fx_journaling.specs.Written.{IsPartOfLine, IsBeforeSettled}
use Rattle.fx_journaling.specs.Taken.{Beginning, beginning, HasTaken, IsUnkept, IsUntold, HasRefused}
use Rattle.fx_journaling.specs.Recorded.{IsStarted, IsNextOrder, KeepsRun, HasRecorded, HasBrokenOff, fault_in}
use Rattle.fx_journaling.proofs.Holding.{holds_leaves, if_file_map, spells_rested}
use Rattle.fx_journaling.proofs.Naming.{names_front}
use Rattle.fx_journaling.proofs.Taking.{lines_more, grown_none, grown_as}

-- ---- runs

-- the order grows by one entry, or not
step_more : (base : BaseTree) (m : Machine) (e : Event) (m' : Machine) → Step base m e m' → HasAtMostOneMore m.order m'.order
step_more base m (event.Look shell path position) m' s = inl (ap (λ (m : Machine). m.order) s.after)
step_more base m (event.Settled shell entry) m' s = inr (_, ap (λ (m : Machine). m.order) s.after)
step_more base m (event.Conflict shell entry path) m' s = inl (ap (λ (m : Machine). m.order) s.after)

-- ---- what is written

pub not_disk : fault.NoMemory ≡ fault.DiskFailed → ⊥
not_disk is = cc

module _ (base : BaseTree) (schedule : List ℕ) (disk disk' : DiskView) (sink sink' : SinkView) (disk_name sink_name : ℕ) where
  abbrev began : Beginning
  began = beginning base disk sink disk_name sink_name

  keeps : (events : List Event) (m : Machine) (longer : List Turn) → HasAtMostOneMore m.order longer → (longer ≡ m.order) ⊎ IsNextOrder base schedule events m longer → IfFile (LeavesEither base m.order longer) disk.told disk'.told → IfFile (KeepsRun base schedule events m) disk.told disk'.told
  keeps events m longer more next leaves =
      if_file_map (LeavesEither base m.order longer) (KeepsRun base schedule events m) (λ old new leaves. record { keeps = record { longer = longer; more = more; leaves = leaves }; next = next }) disk.told disk'.told leaves

  held_leaves : (before order : List Turn) → IfFile (HoldsOrder base order) disk.told disk'.told → IfFile (LeavesEither base before order) disk.told disk'.told
  held_leaves before order held = if_file_map (HoldsOrder base order) (LeavesEither base before order) (λ old new holds. holds_leaves base order before old new holds) disk.told disk'.told held

  -- a run that stops between two events
  module _ (events : List Event) (running : Running) (journal : JournalView) (taken : HasTaken began events running journal disk' sink') where
    pub paused : BeginsTurns base [] schedule events → NameConflicts base (resting base []) events → HasBrokenOff base schedule disk disk' sink sink' fault.NoMemory
    paused begins named = record {
      machine = running.machine;
      bytes = lines events;
      written = record { events = events; run = taken.run; turns = ([], subst (BeginsTurns base [] schedule) (sym (append-nil events)) begins); named = named; rest = []; printed = sym (append-nil (lines events)); behind = inl refl };
      printed = taken.printed;
      keeps = keeps events running.machine running.machine.order (inl refl) (inl refl) (held_leaves running.machine.order running.machine.order taken.held.told);
      cause = tt;
      others = taken.held.others;
      asks = taken.held.asks;
      calm = λ _. taken.held.calm;
      at_disk = λ is. absurd (not_disk is);
    }

    pub recorded : (board : Log) (retries : List Retry) → IsTraced base schedule (record { board = board; retries = retries; events = events }) → HasRecorded base schedule disk disk' sink sink' board retries
    recorded board retries traced =
        let same : running.machine ≡ resting base board.order = run_same base (resting base []) running.machine (resting base board.order) events taken.run traced.run in
        record {
          events = events;
          traced = traced;
          printed = taken.printed;
          later = taken.later;
          calm = taken.held.calm;
          others = taken.held.others;
          asks = taken.held.asks;
          keeps = subst (λ m. IfFile (KeepsRun base schedule events m) disk.told disk'.told) same (keeps events running.machine running.machine.order (inl refl) (inl refl) (held_leaves running.machine.order running.machine.order taken.held.told));
        }

  -- a run of which an event is refused
  module _ (stop : RecordFault) (events : List Event) (e : Event) (running : Running) (refused : HasRefused began stop events e running disk' sink') (begins : BeginsTurns base [] schedule (events ++ e ∷ [])) (named : NameConflicts base (resting base []) (events ++ e ∷ [])) where
    -- no more than a part of its line is written
    cut : ((stop ≡ fault.DiskFailed → ⊥) → disk'.faults ≡ disk.faults) → IfFile (LeavesEither base refused.before.order running.machine.order) disk.told disk'.told → (behind : (take refused.count (event_line e) ≡ []) ⊎ IsPartOfLine base schedule events refused.before (take refused.count (event_line e))) → (stop ≡ fault.DiskFailed → IsBeforeSettled base schedule events refused.before (take refused.count (event_line e))) → HasBrokenOff base schedule disk disk' sink sink' stop
    cut calm leaves behind at_disk = record {
      machine = refused.before;
      bytes = lines events ++ take refused.count (event_line e);
      written = record { events = events; run = refused.run; turns = (e ∷ [], begins); named = names_front base (resting base []) events (e ∷ []) named; rest = take refused.count (event_line e); printed = refl; behind = behind };
      printed = refused.printed;
      keeps = keeps events refused.before running.machine.order (step_more base refused.before e running.machine refused.step) (inr (record { next = e; after = running.machine; step = refused.step; turns = begins; is = refl })) leaves;
      cause = refused.cause;
      others = refused.others;
      asks = refused.asks;
      calm = calm;
      at_disk = at_disk;
    }

    -- nothing of it is written
    unkept : IsUnkept began stop e refused.before.order running.machine.order refused.count disk' → HasBrokenOff base schedule disk disk' sink sink' stop
    unkept lost = cut (λ other. absurd (other lost.at_disk)) lost.leaves (inl none) (λ is. record {
      shell = lost.settled.0;
      entry = lost.settled.1;
      after = running.machine;
      step = subst (λ e. Step base refused.before e running.machine) lost.settled.2 refused.step;
      turns = subst (λ e. BeginsTurns base [] schedule (events ++ e ∷ [])) lost.settled.2 begins;
      none = none;
    })
      where
        none : take refused.count (event_line e) ≡ []
        none = ap (λ n. take n (event_line e)) lost.none

    -- all of it is written
    whole : length (event_line e) ≤ refused.count → IsUntold began stop running.machine.order disk' → HasBrokenOff base schedule disk disk' sink sink' stop
    whole all held =
        let line : lines events ++ take refused.count (event_line e) ≡ lines (events ++ e ∷ []) = ap (λ l. lines events ++ l) (take_all refused.count (event_line e) all) ∙ sym (lines_more events e) in
        record {
          machine = running.machine;
          bytes = lines (events ++ e ∷ []);
          written = record {
            events = events ++ e ∷ [];
            run = run_more base (resting base []) events refused.before e running.machine refused.run refused.step;
            turns = ([], subst (BeginsTurns base [] schedule) (sym (append-nil (events ++ e ∷ []))) begins);
            named = named;
            rest = [];
            printed = sym (append-nil (lines (events ++ e ∷ [])));
            behind = inl refl;
          };
          printed = grown_as (lines events ++ take refused.count (event_line e)) (lines (events ++ e ∷ [])) sink sink' line refused.printed;
          keeps = keeps (events ++ e ∷ []) running.machine running.machine.order (inl refl) (inl refl) (held_leaves running.machine.order running.machine.order held.holds);
          cause = refused.cause;
          others = refused.others;
          asks = refused.asks;
          calm = λ _. held.calm;
          at_disk = λ is. absurd (held.not_at_disk is);
        }

    untold : IsUntold began stop running.machine.order disk' → HasBrokenOff base schedule disk disk' sink sink' stop
    untold held =
        ⊎_elim
        (λ (short : refused.count < length (event_line e)).
        cut (λ _. held.calm) (held_leaves refused.before.order running.machine.order held.holds) (inr (record { next = e; after = running.machine; step = refused.step; named = named events e [] refused.before refl refused.run; turns = begins; count = refused.count; short = short; is = refl })) (λ is. absurd (held.not_at_disk is)))
        (λ (all : length (event_line e) ≤ refused.count). whole all held) (cases_lt refused.count (length (event_line e)))

    pub broken : HasBrokenOff base schedule disk disk' sink sink' stop
    broken = ⊎_elim unkept untold refused.told

-- ---- nothing has come yet

front_none : (base : BaseTree) (file : File) → RestsAt 0 [] file → HoldsOrder base [] file file
front_none base file rests = record {
  legal = legal_none base;
  few = omega arith;
  goes_on = record { path = refl; steps = ([], refl) };
  rests = rests;
  since = λ image left. record {
    front = [];
    rest = [];
    whole = refl;
    spells = record { spells = spells_rested 0 [] file image rests (omega arith) (only_now file.steps image left); legal = legal_none base };
  };
}

held_none : (base : BaseTree) (o : Option File) → IfSome o (RestsAt 0 []) → IfFile (HoldsOrder base []) o o
held_none base None rests = refl
held_none base (Some file) rests = front_none base file rests

pub begun : (base : BaseTree) (disk : DiskView) (sink : SinkView) (disk_name sink_name : ℕ) (journal : JournalView) → IsStarted journal disk → HasTaken (beginning base disk sink disk_name sink_name) [] (World.began base) journal disk sink
begun base disk sink disk_name sink_name journal started = record {
  base = refl;
  run = refl;
  held = record { count = started.count; good = started.good; calm = refl; others = refl; asks = λ _. refl; told = held_none base disk.told started.rests };
  printed = grown_none sink;
  later = omega arith;
}

-- ---- a run that ends before its end

named_so_far : (base : BaseTree) (schedule : List ℕ) (p : Play) → HadSome (a_start base) schedule p → NameConflicts base (resting base []) p.events
named_so_far base schedule p had = subst (λ b. NameConflicts b (resting b []) p.events) had.base had.recording.named

module _ {T : Type 0} (took : T → List Event → Running → Type 0) (refused : T → RecordFault → List Event → Event → Running → Type 0) (base : BaseTree) (schedule : List ℕ) (disk disk' : DiskView) (sink sink' : SinkView) (disk_name sink_name : ℕ) (journal : JournalView) (taker : T)
    (taken : (events : List Event) (running : Running) → took taker events running → HasTaken (beginning base disk sink disk_name sink_name) events running journal disk' sink')
    (lost : (stop : RecordFault) (events : List Event) (e : Event) (running : Running) → refused taker stop events e running → HasRefused (beginning base disk sink disk_name sink_name) stop events e running disk' sink') where
  pub ended : (why : Ended RecordFault) → HasEndedSomewhere took refused (a_start base) schedule taker why → HasBrokenOff base schedule disk disk' sink sink' (fault_in why)
  ended end.NoMemory (world, had) =
      paused base schedule disk disk' sink sink' disk_name sink_name had.play.events had.play.world journal (taken had.play.events had.play.world had.taken) (subst (BeginsTurns base [] schedule) (sym had.had.events) had.had.begins)
      (named_so_far base schedule had.play had.had)
  ended (end.Stopped stop) (world, had) =
      broken base schedule disk disk' sink sink' disk_name sink_name stop had.events had.event world (lost stop had.events had.event world had.why) (subst (BeginsTurns base [] schedule) (sym had.had.events) had.had.begins)
      (named_so_far base schedule (record { events = had.events ++ had.event ∷ []; world = world }) had.had)
