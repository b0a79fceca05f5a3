-- What is written is a front of the output of a whole run.
use Rattle.std.proofs.Common.{◌≡◌, ◌⊎◌, inl, inr, ℕ, zero, suc, List, [], ◌∷◌, ◌++◌, take, drop, refl, sym, ap, subst, ◌∙◌}
use Rattle.std.specs.FinMap.{get}
use Rattle.std.proofs.lemmas.List.{append-nil, append_assoc}
use Rattle.std.proofs.lemmas.List.Concat.{flat_map-append}
use Rattle.fx_diaries.specs.Named.{NameConflicts}
use Rattle.fx_diaries.proofs.Named.{names_more}
use Rattle.fx_sched.proofs.Worlds.{run_more}
use Rattle.fx_base.proofs.Lists.{same_heads}
use Rattle.fx_store.specs.Whole.{IsWhole}
use Rattle.fx_spec.specs.Order.{BaseTree}
use Rattle.fx_machine.specs.declared.event.Event.{Event}
use Rattle.fx_machine.specs.Machine.{Machine, Run, shell_of, resting}
use Rattle.fx_machine.specs.Tried.{retries_of}
use Rattle.fx_machine.specs.Turns.{BeginsTurns, leaves_out, goes, next_round, stops}
use Rattle.fx_machine.proofs.Turning.{runs_on}
use Rattle.fx_report.specs.Entries.{report}
use Rattle.fx_report.specs.Events.{event_line, lines}
use Rattle.fx_journaling.specs.Laws.{WrittenIsFront}
use Rattle.fx_journaling.specs.Written.{IsPartOfLine, HasWrittenEvents, HasWrittenReport, IsFrontOfOutput}
use Rattle.fx_journaling.proofs.Renaming.{HasNamedEnd, named_end}
use Rattle.fx_journaling.proofs.Taking.{lines_more}

front_and_rest : {X : Type 0} (n : ℕ) (xs : List X) → take n xs ++ drop n xs ≡ xs
front_and_rest zero xs = refl
front_and_rest (suc n) [] = refl
front_and_rest (suc n) (x ∷ xs) = ap (λ l. x ∷ l) (front_and_rest n xs)

others_same : {X : Type 0} (x y : X) (xs ys : List X) → x ∷ xs ≡ y ∷ ys → xs ≡ ys
others_same x y xs ys e = cc

-- turns that begin with some events begin with the first of these
begins_with : (base : BaseTree) (before : List Event) (turns : List ℕ) (all events later : List Event) → all ≡ events ++ later → BeginsTurns base before turns all → BeginsTurns base before turns events
begins_with base before turns all [] later same begins = stops
begins_with base before (shell ∷ turns) all (e ∷ events) later same (leaves_out none begins) = leaves_out none (begins_with base before turns all (e ∷ events) later same begins)
begins_with base before (_ ∷ turns) (x ∷ all) (e ∷ events) later same (goes has begins) =
    let first : x ≡ e = same_heads x e all (events ++ later) same in
    let rest = begins_with base (before ++ x ∷ []) turns all events later (others_same x e all (events ++ later) same) begins in
    subst (λ y. BeginsTurns base before (shell_of x ∷ turns) (y ∷ events)) first (goes has rest)
begins_with base before [] all (e ∷ events) later same (next_round shell has begins) = next_round shell has (begins_with base before _ all (e ∷ events) later same begins)
begins_with base before turns [] (e ∷ events) later same stops = absurd (cc)

-- the run that comes to its end behind these events
module _ (base : BaseTree) (schedule : List ℕ) (whole : IsWhole (get base.loaded)) (events : List Event) (m : Machine) (run : Run base (resting base []) events m) (begins : BeginsTurns base [] schedule events) (named : NameConflicts base (resting base []) events) where
  end : HasNamedEnd base schedule events m
  end = named_end base schedule events m whole run begins named

  front : (bytes rest : List ℕ) → bytes ++ rest ≡ lines events → IsFrontOfOutput base schedule bytes
  front bytes rest is = record {
    events = events ++ end.later;
    order = end.order;
    run = runs_on base (resting base []) events m end.later (resting base end.order) run end.run;
    complete = end.complete;
    turns = end.turns;
    named = end.named;
    rest = rest ++ (lines end.later ++ report base end.order (retries_of base (events ++ end.later)));
    output = sym (append_assoc bytes rest (lines end.later ++ report base end.order (retries_of base (events ++ end.later))))
        ∙ ap (λ l. l ++ (lines end.later ++ report base end.order (retries_of base (events ++ end.later)))) is
        ∙ sym (append_assoc (lines events) (lines end.later) (report base end.order (retries_of base (events ++ end.later))))
        ∙ ap (λ l. l ++ report base end.order (retries_of base (events ++ end.later))) (sym (flat_map-append event_line events end.later));
  }

events_front : (base : BaseTree) (schedule : List ℕ) (m : Machine) (bytes : List ℕ) → IsWhole (get base.loaded) → HasWrittenEvents base schedule m bytes → IsFrontOfOutput base schedule bytes
events_front base schedule m bytes whole w = by w.behind
  where
    begins : BeginsTurns base [] schedule w.events
    begins = begins_with base [] schedule (w.events ++ w.turns.0) w.events w.turns.0 refl w.turns.1

    by : (w.rest ≡ []) ⊎ IsPartOfLine base schedule w.events m w.rest → IsFrontOfOutput base schedule bytes
    by (inl none) = front base schedule whole w.events m w.run begins w.named bytes [] (append-nil bytes ∙ w.printed ∙ ap (λ l. lines w.events ++ l) none ∙ append-nil (lines w.events))
    by (inr part) =
        front base schedule whole (w.events ++ part.next ∷ []) part.after (run_more base (resting base []) w.events m part.next part.after w.run part.step) part.turns (names_more base (resting base []) w.events m part.next w.run w.named part.named) bytes (drop part.count (event_line part.next))
        (ap (λ l. l ++ drop part.count (event_line part.next)) (w.printed ∙ ap (λ l. lines w.events ++ l) part.is)
        ∙ append_assoc (lines w.events) (take part.count (event_line part.next)) (drop part.count (event_line part.next))
        ∙ ap (λ l. lines w.events ++ l) (front_and_rest part.count (event_line part.next))
        ∙ sym (lines_more w.events part.next))

report_front : (base : BaseTree) (schedule : List ℕ) (m : Machine) (bytes : List ℕ) → HasWrittenReport base schedule m bytes → IsFrontOfOutput base schedule bytes
report_front base schedule m bytes w = record {
  events = w.events;
  order = w.order;
  run = subst (λ m. Run base (resting base []) w.events m) w.over w.run;
  complete = w.complete;
  turns = w.turns;
  named = w.named;
  rest = drop w.count (report base w.order (retries_of base w.events));
  output = ap (λ l. l ++ drop w.count (report base w.order (retries_of base w.events))) w.printed
      ∙ append_assoc (lines w.events) (take w.count (report base w.order (retries_of base w.events))) (drop w.count (report base w.order (retries_of base w.events)))
      ∙ ap (λ l. lines w.events ++ l) (front_and_rest w.count (report base w.order (retries_of base w.events)));
}

pub written_is_front : WrittenIsFront
written_is_front base schedule m bytes whole (inl events) = events_front base schedule m bytes whole events
written_is_front base schedule m bytes whole (inr all) = report_front base schedule m bytes all
