-- One event more.
use Rattle.std.proofs.Common.{◌≡◌, inl, inr, ℕ, ◌≤◌, List, [], ◌∷◌, ◌++◌, length, take, slice_get, Option, Some, None, Result, Ok, Err, refl, sym, ◌∙◌, ap, subst, arith, append_assoc, length-append}
use Rattle.std.specs.Prelude.{IfSome, IfErr, OnOk, ◌↔◌, option_map}
use Rattle.std.specs.List.{sum_by}
use Rattle.std.proofs.lemmas.List.{append-nil}
use Rattle.std.proofs.lemmas.List.Concat.{flat_map-append}
use Rattle.std.proofs.lemmas.Option.{same_Some}
use Rattle.fx_base.specs.Causes.{Rose}
use Rattle.fx_base.specs.Limits.{txn_limit}
use Rattle.fx_base.proofs.Lists.{at_middle}
use Rattle.fx_outside.specs.Sink.{SinkView}
use Rattle.fx_spec.specs.Plans.{Turn}
use Rattle.fx_spec.specs.Order.{IsLegal}
use Rattle.fx_machine.specs.declared.event.Event.{Event}
use Rattle.fx_machine.specs.declared.event.Event.TheVariants as event
use Rattle.fx_machine.specs.declared.entry.Pair.{Pair}
use Rattle.fx_machine.specs.Laws.{IsReached}
use Rattle.fx_machine.specs.Machine.{Machine, Step, resting, next_number, shell_of}
use Rattle.fx_machine.proofs.Reached.{reached_sound, sound_step}
use Rattle.fx_machine.proofs.Sums.{order_fits}
use Rattle.fx_board.specs.Board.{IsLog}
use Rattle.fx_board.specs.Log.{Log}
use Rattle.fx_durable.specs.Disk.{DiskView}
use Rattle.fx_durable.specs.Journal.{JournalView, turn_of}
use Rattle.fx_report.specs.Events.{event_line, lines}
use Rattle.fx_sched.specs.Running.{Running}
use Rattle.fx_sched.specs.World.{Leads}
use Rattle.fx_sched.proofs.Worlds.{run_more}
use Rattle.fx_journaling.specs.declared.fault.RecordFault.{RecordFault}
use Rattle.fx_journaling.specs.declared.fault.RecordFault.TheVariants as fault
use Rattle.fx_journaling.specs.Kept.{IfFile, HoldsOrder, LeavesEither, IsHeld, IsLost, MayJoinOrder}
use Rattle.fx_journaling.specs.Taken.{Beginning, Extends, HasGrown, FaultCause, TellCause, HasTaken, IsSettledEvent, HasRefused}

-- ---- the entry of an event

abbrev log_after : Running → Log
log_after r = record { base = r.base; order = r.machine.order }

module _ (before after : Running) (shell entry : ℕ) (reached : IsReached before.base before.machine) (log : IsLog (log_after after)) (leads : Leads before shell after (event.Settled shell entry)) where
  abbrev next : Turn
  next = (shell, next_number before.machine.order shell)

  grown : after.machine.order ≡ before.machine.order ++ next ∷ []
  grown = ap (λ (m : Machine). m.order) leads.step.after

  may_add : MayJoinOrder before.base before.machine.order next
  may_add =
      let sound = sound_step before.base before.machine (event.Settled shell entry) after.machine (reached_sound before.base before.machine reached) leads.step in
      let fits : length after.machine.order ≤ sum_by length before.base.plan = order_fits before.base after.machine.order sound.legal sound.shells in
      let few : sum_by length before.base.plan ≤ txn_limit = subst (λ b. sum_by length b.plan ≤ txn_limit) leads.base log.plan.few in
      record { legal = subst (IsLegal before.base) grown sound.legal; room = omega (arith, fits, few, ap length grown, length-append before.machine.order (next ∷ [])) }

  has_entry : length after.machine.order ≤ entry → ⊥
  has_entry late = omega (arith, late, leads.step.now, ap length grown, length-append before.machine.order (next ∷ []))

  -- it is the last one
  last_entry : (turn : Turn) → slice_get after.machine.order entry ≡ Some turn → Extends before.base before.machine.order (Some turn) after.machine.order
  last_entry turn stands =
      let here : slice_get after.machine.order entry ≡ Some next = ap (λ o. slice_get o entry) grown ∙ ap (slice_get (before.machine.order ++ next ∷ [])) leads.step.now ∙ at_middle before.machine.order [] next in
      let same : next ≡ turn = same_Some next turn (sym here ∙ stands) in
      (grown ∙ ap (λ (t : Turn). before.machine.order ++ t ∷ []) same, subst (MayJoinOrder before.base before.machine.order) same may_add)

  pub extended : (o : Option Pair) → (o ≡ None) ↔ (length after.machine.order ≤ entry) → IfSome o (λ pair. slice_get after.machine.order entry ≡ Some (turn_of pair)) → Extends before.base before.machine.order (option_map turn_of o) after.machine.order
  extended None none stands = absurd (has_entry (none.0 refl))
  extended (Some pair) none stands = last_entry (turn_of pair) stands

pub extended_by : (before after : Running) (e : Event) (shell entry : ℕ) (board : Log) (o : Option Pair) → e ≡ event.Settled shell entry → (board.base ≡ after.base) × (board.order ≡ after.machine.order) → IsReached before.base before.machine → IsLog board → (o ≡ None) ↔ (length board.order ≤ entry)
    → IfSome o (λ pair. slice_get board.order entry ≡ Some (turn_of pair)) → Leads before (shell_of e) after e → Extends before.base before.machine.order (option_map turn_of o) after.machine.order
extended_by before after e shell entry board o is same reached log none stands leads =
    let whole : board ≡ log_after after = λ i. record { base = same.0 i; order = same.1 i } in
    extended before after shell entry reached (subst IsLog whole log) (subst (λ e. Leads before (shell_of e) after e) is leads) o
    (subst (λ (l : Log). (o ≡ None) ↔ (length l.order ≤ entry)) whole none) (subst (λ (l : Log). IfSome o (λ pair. slice_get l.order entry ≡ Some (turn_of pair))) whole stands)

-- ---- what is written

pub lines_more : (events : List Event) (e : Event) → lines (events ++ e ∷ []) ≡ lines events ++ event_line e
lines_more events e = flat_map-append event_line events (e ∷ []) ∙ ap (λ l. lines events ++ l) (append-nil (event_line e))

pub grown_none : (sink : SinkView) → HasGrown [] sink sink
grown_none sink = at sink.written
  where
    at : (o : Option (List ℕ)) → IfSome o (λ w. o ≡ Some (w ++ []))
    at None = tt
    at (Some w) = ap Some (sym (append-nil w))

grown_at : (b c : List ℕ) (first mid last : Option (List ℕ)) → IfSome first (λ w. mid ≡ Some (w ++ b)) → IfSome mid (λ w. last ≡ Some (w ++ c)) → IfSome first (λ w. last ≡ Some (w ++ (b ++ c)))
grown_at b c None mid last one two = tt
grown_at b c (Some w) mid last one two = subst (λ o. IfSome o (λ w. last ≡ Some (w ++ c))) one two ∙ ap Some (append_assoc w b c)

pub grown_more : (b c : List ℕ) (first mid last : SinkView) → HasGrown b first mid → HasGrown c mid last → HasGrown (b ++ c) first last
grown_more b c first mid last one two = grown_at b c first.written mid.written last.written one two

pub grown_as : (b c : List ℕ) (first last : SinkView) → b ≡ c → HasGrown b first last → HasGrown c first last
grown_as b c first last same grown = subst (λ b. HasGrown b first last) same grown

pub count_of : (o : Option (List ℕ)) (P : List ℕ → ℕ → Type 0) → IfSome o (λ w. (n : ℕ) × P w n) → (n : ℕ) × IfSome o (λ w. P w n)
count_of None P some = (0, tt)
count_of (Some w) P some = some

-- ---- one event more was taken, or refused

module _ (began : Beginning) (events : List Event) (e : Event) (before after : Running) (journal : JournalView) (disk : DiskView) (sink : SinkView) (taken : HasTaken began events before journal disk sink) (leads : Leads before (shell_of e) after e) where
  pub reached : IsReached before.base before.machine
  reached = subst (λ b. IsReached b before.machine) (sym taken.base) (record { events = events; run = taken.run })

  pub held_before : IsHeld before.base before.machine.order began.disk journal disk
  held_before = subst (λ b. IsHeld b before.machine.order began.disk journal disk) (sym taken.base) taken.held

  step : Step began.base before.machine e after.machine
  step = subst (λ b. Step b before.machine e after.machine) taken.base leads.step

  pub taken_more : (journal' : JournalView) (disk' : DiskView) (sink' : SinkView) → IsHeld before.base after.machine.order began.disk journal' disk' → HasGrown (event_line e) sink sink' → sink.faults ≤ sink'.faults → HasTaken began (events ++ e ∷ []) after journal' disk' sink'
  taken_more journal' disk' sink' held printed later = record {
    base = leads.base ∙ taken.base;
    run = run_more began.base (resting began.base []) events before.machine e after.machine taken.run step;
    held = subst (λ b. IsHeld b after.machine.order began.disk journal' disk') taken.base held;
    printed = grown_as (lines events ++ event_line e) (lines (events ++ e ∷ [])) began.sink sink' (sym (lines_more events e)) (grown_more (lines events) (event_line e) began.sink sink sink' taken.printed printed);
    later = omega (arith, taken.later, later);
  }

  -- its entry was not kept
  pub refused_keep : (disk' : DiskView) → IsSettledEvent e → IsLost before.base before.machine.order after.machine.order began.disk disk' → HasRefused began fault.DiskFailed events e after disk' sink
  refused_keep disk' settled lost = record {
    before = before.machine;
    run = taken.run;
    step = step;
    count = 0;
    printed = grown_as (lines events) (lines events ++ []) began.sink sink (sym (append-nil (lines events))) taken.printed;
    told = inl (record { at_disk = refl; settled = settled; none = refl; leaves = subst (λ b. IfFile (LeavesEither b before.machine.order after.machine.order) began.disk.told disk'.told) taken.base lost.told });
    others = lost.others;
    asks = lost.asks;
    cause = lost.rose;
  }

  cause_from : (stop : RecordFault) (disk' : DiskView) (sink' : SinkView) → TellCause stop sink sink' → FaultCause stop began.disk disk' began.sink sink'
  cause_from fault.NoMemory disk' sink' cause = tt
  cause_from fault.DiskFailed disk' sink' cause = absurd cause
  cause_from fault.SinkFailed disk' sink' cause = let rose : Rose sink.faults sink'.faults = cause in omega (arith, taken.later, rose)

  -- its line was not written
  pub refused_tell : (stop : RecordFault) (journal' : JournalView) (disk' : DiskView) (sink' : SinkView) → IsHeld before.base after.machine.order began.disk journal' disk' → IfSome sink.written (λ w. (n : ℕ) × (sink'.written ≡ Some (w ++ take n (event_line e)))) → TellCause stop sink sink' → HasRefused began stop events e after disk' sink'
  refused_tell stop journal' disk' sink' held front cause =
      let some = count_of sink.written (λ w n. sink'.written ≡ Some (w ++ take n (event_line e))) front in
      record {
        before = before.machine;
        run = taken.run;
        step = step;
        count = some.0;
        printed = grown_more (lines events) (take some.0 (event_line e)) began.sink sink sink' taken.printed some.1;
        told = inr (record {
          not_at_disk = λ is. subst (λ s. TellCause s sink sink') is cause;
          calm = held.calm;
          holds = subst (λ b. IfFile (HoldsOrder b after.machine.order) began.disk.told disk'.told) taken.base held.told;
        });
        others = held.others;
        asks = held.asks;
        cause = cause_from stop disk' sink' cause;
      }

-- ---- answers

pub on_ok_map : {E : Type 0} (r : Result (Unit {0}) E) (P Q : Type 0) → (P → Q) → OnOk r P → OnOk r Q
on_ok_map (Ok u) P Q f p = f p
on_ok_map (Err e) P Q f p = tt

pub if_err_map : {E : Type 0} (r : Result (Unit {0}) E) (P Q : E → Type 0) → ((e : E) → P e → Q e) → IfErr r P → IfErr r Q
if_err_map (Ok u) P Q f p = tt
if_err_map (Err e) P Q f p = f e p
