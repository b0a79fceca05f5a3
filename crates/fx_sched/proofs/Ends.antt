-- The end of a recorded run: nothing is looked at any more, and its order is complete.
use Rattle.std.proofs.Common.{◌≡◌, ⊎_elim, ℕ, zero, suc, ◌<◌, ◌≤◌, false, List, [], ◌∷◌, ◌++◌, map, length, get_or, sym, ap, subst, ◌∙◌, arith}
use Rattle.std.proofs.lemmas.Bool.{cases_lt}
use Rattle.std.proofs.lemmas.List.{append-nil, map-append, length-map, ext_get_or, get_or_append_left}
use Rattle.std.proofs.lemmas.List.Folds.{flat_map-map}
use Rattle.std.proofs.Math.Seq.{get_or-append_seam}
use Rattle.fx_spec.specs.Order.{BaseTree, IsComplete, RetriesOk, first_numbers}
use Rattle.fx_machine.specs.declared.retry.Retry.{Retry}
use Rattle.fx_machine.specs.Laws.{IsReached}
use Rattle.fx_machine.specs.Machine.{Run, resting}
use Rattle.fx_machine.specs.Measure.{has_left}
use Rattle.fx_machine.specs.Tried.{conflicts_of, retries_of, retry_tree}
use Rattle.fx_machine.specs.Turns.{TakesTurns}
use Rattle.fx_machine.proofs.Complete.{complete_runs}
use Rattle.fx_machine.proofs.Weight.{length_first}
use Rattle.fx_machine.proofs.Resting.{at_rest, completed}
use Rattle.fx_diaries.specs.Named.{NameConflicts}
use Rattle.fx_sched.specs.declared.schedule.Traced.{Traced}
use Rattle.fx_sched.specs.Recorded.{Play, joined, HadTurns, HadRounds}
use Rattle.fx_sched.specs.Traced.{IsTraced}

-- ---- the retries by shell

at_first : (f : ℕ → List Retry) (n k : ℕ) → k < n → get_or (map f (first_numbers n)) k [] ≡ f k
at_first f zero k h = absurd (omega (arith, h))
at_first f (suc n) k h =
    let count : length (map f (first_numbers n)) ≡ n = length-map (first_numbers n) f ∙ length_first n in
    ap (λ l. get_or l k []) (map-append f (first_numbers n) (n ∷ [])) ∙ ⊎_elim
    (λ (l : k < n). get_or_append_left (map f (first_numbers n)) (f n ∷ []) [] k (omega (arith, count, l)) ∙ at_first f n k l)
    (λ (g : n ≤ k). let same : length (map f (first_numbers n)) ≡ k = omega (arith, count, g, h) in
    subst (λ i. get_or (map f (first_numbers n) ++ f n ∷ []) i [] ≡ f k) same (get_or-append_seam (map f (first_numbers n)) (f n) [] [] ∙ ap f (sym count ∙ same))) (cases_lt k n)

listed : (lists : List (List Retry)) (f : ℕ → List Retry) (n : ℕ) → length lists ≡ n → ((k : ℕ) → k < n → get_or lists k [] ≡ f k) → lists ≡ map f (first_numbers n)
listed lists f n count each =
    ext_get_or [] lists (map f (first_numbers n)) (count ∙ sym (length-map (first_numbers n) f ∙ length_first n))
    (λ k h. let within : k < n = omega (arith, count, h) in each k within ∙ sym (at_first f n k within))

-- ---- the whole run

pub traced : (base : BaseTree) (schedule : List ℕ) (a b c : Play) (t : Traced) → a.world.base ≡ base → a.events ≡ [] → HadTurns a schedule b → HadRounds b c → t.board.base ≡ c.world.base → t.board.order ≡ c.world.machine.order → t.events ≡ c.events → t.retries ≡ joined c.world.retries → IsTraced base schedule t
traced base schedule a b c t on none had rounds board order events retries =
    let base_is : c.world.base ≡ base = rounds.base ∙ had.base ∙ on in
    let run : Run base (resting base []) c.events c.world.machine = subst (λ b. Run b (resting b []) c.events c.world.machine) base_is rounds.recording.run in
    let reached : IsReached base c.world.machine = record { events = c.events; run = run } in
    let over : (k : ℕ) → has_left base c.world.machine k ≡ false = subst (λ b. (k : ℕ) → has_left b c.world.machine k ≡ false) base_is rounds.over in
    let whole : Run base (resting base []) t.events (resting base t.board.order) =
    subst (λ o. Run base (resting base []) t.events (resting base o)) (sym order) (subst (λ es. Run base (resting base []) es (resting base c.world.machine.order)) (sym events) (subst (Run base (resting base []) c.events) (at_rest base c.world.machine reached over) run)) in
    let complete : IsComplete base t.board.order = subst (IsComplete base) (sym order) (completed base c.world.machine reached over) in
    let all : t.events ≡ had.more ++ rounds.more = events ∙ rounds.events ∙ ap (λ es. es ++ rounds.more) (had.events ∙ ap (λ es. es ++ had.more) none) in
    let round_turns : TakesTurns a.world.base b.events [] rounds.more = subst (λ base. TakesTurns base b.events [] rounds.more) had.base rounds.takes in
    let turns : TakesTurns base [] schedule (had.more ++ rounds.more) =
    subst (λ ts. TakesTurns base [] ts (had.more ++ rounds.more)) (append-nil schedule)
    (subst (λ before. TakesTurns base before (schedule ++ []) (had.more ++ rounds.more)) none
    (subst (λ base. TakesTurns base a.events (schedule ++ []) (had.more ++ rounds.more)) on (had.takes [] rounds.more round_turns))) in
    let plan : length c.world.base.plan ≡ length base.plan = ap (λ (b : BaseTree). length b.plan) base_is in
    let lists : c.world.retries ≡ map (λ k. conflicts_of k 0 c.events) (first_numbers (length base.plan)) =
    listed c.world.retries (λ k. conflicts_of k 0 c.events) (length base.plan) (rounds.recording.count ∙ plan)
    (λ k h. rounds.recording.conflicts k (omega (arith, plan, h))) in
    let conflicts : t.retries ≡ retries_of base t.events =
    retries ∙ ap joined lists ∙ flat_map-map (λ (list : List Retry). list) (λ k. conflicts_of k 0 c.events) (first_numbers (length base.plan)) ∙ ap (retries_of base) (sym events) in
    record {
      begun = board ∙ base_is;
      run = whole;
      complete = complete;
      turns = subst (TakesTurns base [] schedule) (sym all) turns;
      named = subst (NameConflicts base (resting base [])) (sym events) (subst (λ b. NameConflicts b (resting b []) c.events) base_is rounds.recording.named);
      conflicts = conflicts;
      tried = subst (λ rs. RetriesOk base t.board.order (map retry_tree rs)) (sym conflicts) (complete_runs base t.events t.board.order whole complete);
    }
