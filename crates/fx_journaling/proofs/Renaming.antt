-- A run goes on with conflicts that name what they are to name, by the same turns.
use Rattle.std.proofs.Common.{◌≡◌, ℕ, ◌+◌, true, cond, nat_lt, List, [], ◌∷◌, ◌++◌, refl, sym, ap, subst, ◌∙◌, append_assoc}
use Rattle.std.specs.FinMap.{get}
use Rattle.std.specs.List.{count_by, sum_by}
use Rattle.std.proofs.lemmas.List.{append-nil}
use Rattle.std.proofs.lemmas.List.Sums.{sum_by-append, sum_by-cons}
use Rattle.fx_store.specs.Whole.{IsWhole}
use Rattle.fx_spec.specs.Plans.{Turn, count_of}
use Rattle.fx_spec.specs.Order.{BaseTree, IsComplete}
use Rattle.fx_machine.specs.declared.event.Event.{Event}
use Rattle.fx_machine.specs.declared.event.Event.TheVariants as event
use Rattle.fx_machine.specs.Machine.{Machine, Step, Run, looks_of, shell_of, resting}
use Rattle.fx_machine.specs.Turns.{TakesTurns, left_out, steps, a_round, over, BeginsTurns, FollowsSchedule, is_settled_by, has_more}
use Rattle.fx_machine.specs.Ends.{HasEnd}
use Rattle.fx_machine.proofs.Ending.{comes_to_end}
use Rattle.fx_machine.proofs.Going.{goes_on}
use Rattle.fx_machine.proofs.Tasked.{looks_at_paths}
use Rattle.fx_diaries.specs.Named.{NamesConflict, NameConflicts}
use Rattle.fx_diaries.proofs.Named.{names_more}
use Rattle.fx_sched.proofs.Worlds.{run_more}
use Rattle.fx_journaling.proofs.Naming.{can_name}

-- ---- events that turns do not tell apart

-- the other event is the same shell's, and settles where this one does
record IsLike (e other : Event) : Type 0 where
  whose : shell_of other ≡ shell_of e
  settles : (k : ℕ) → is_settled_by k other ≡ is_settled_by k e

abbrev AreLike : List Event → List Event → Type 0
AreLike [] others = others ≡ []
AreLike (e ∷ events) others = (other : Event) × (rest : List Event) × (others ≡ other ∷ rest) × IsLike e other × AreLike events rest

like_itself : (e : Event) → IsLike e e
like_itself e = record { whose = refl; settles = λ k. refl }

like_on : (front events others : List Event) → AreLike events others → AreLike (front ++ events) (front ++ others)
like_on [] events others like = like
like_on (e ∷ front) events others like = (e, front ++ others, refl, like_itself e, like_on front events others like)

-- each shell has settled as often among the others
abbrev SettleAlike : List Event → List Event → Type 0
SettleAlike events others = (k : ℕ) → count_by (is_settled_by k) others ≡ count_by (is_settled_by k) events

more_alike : (base : BaseTree) (before others : List Event) → SettleAlike before others → (k : ℕ) → has_more base others k ≡ has_more base before k
more_alike base before others same k = ap (λ n. nat_lt n (count_of base.plan k)) (same k)

settle_more : (before others : List Event) (e other : Event) → SettleAlike before others → IsLike e other → SettleAlike (before ++ e ∷ []) (others ++ other ∷ [])
settle_more before others e other same like k =
    let settles : Event → ℕ = λ e. cond (is_settled_by k e) 1 0 in
    let one : sum_by settles (other ∷ []) ≡ sum_by settles (e ∷ []) = sum_by-cons settles other [] ∙ ap (λ b. cond b 1 0 + sum_by settles []) (like.settles k) ∙ sym (sum_by-cons settles e []) in
    sum_by-append settles others (other ∷ []) ∙ (λ i. same k i + one i) ∙ sym (sum_by-append settles before (e ∷ []))

takes_alike : {base : BaseTree} {before : List Event} {turns : List ℕ} {events : List Event} → TakesTurns base before turns events → (others later : List Event) → SettleAlike before others → AreLike events later → TakesTurns base others turns later
takes_alike {base} {before = before} (left_out {shell = shell} none takes) others later same like = left_out (more_alike base before others same shell ∙ none) (takes_alike takes others later same like)
takes_alike {base} {before = before} (steps {e = e} {turns = turns} more takes) others later same (other, rest, is, like, behind) =
    let has : has_more base others (shell_of other) ≡ true = more_alike base before others same (shell_of other) ∙ ap (has_more base before) like.whose ∙ more in
    let on : TakesTurns base (others ++ other ∷ []) turns rest = takes_alike takes (others ++ other ∷ []) rest (settle_more before others e other same like) behind in
    subst (λ l. TakesTurns base others (shell_of e ∷ turns) l) (sym is) (subst (λ k. TakesTurns base others (k ∷ turns) (other ∷ rest)) like.whose (steps has on))
takes_alike {base} {before = before} (a_round shell more takes) others later same like = a_round shell (more_alike base before others same shell ∙ more) (takes_alike takes others later same like)
takes_alike {base} {before = before} (over none) others later same like = subst (λ l. TakesTurns base others [] l) (sym like) (over (λ k. more_alike base before others same k ∙ none k))

-- ---- the same run, but for what its conflicts name

-- an event that leads where this one does, and names what it is to name
record Renames (base : BaseTree) (m : Machine) (e : Event) (m' : Machine) : Type 0 where
  other : Event
  like : IsLike e other
  step : Step base m other m'
  named : NamesConflict base m other

renamed : (base : BaseTree) (m : Machine) (e : Event) (m' : Machine) → Step base m e m' → Renames base m e m'
renamed base m (event.Look shell path position) m' step = record { other = event.Look shell path position; like = like_itself (event.Look shell path position); step = step; named = tt }
renamed base m (event.Settled shell entry) m' step = record { other = event.Settled shell entry; like = like_itself (event.Settled shell entry); step = step; named = tt }
renamed base m (event.Conflict shell entry path) m' step =
    let found = can_name base m.order (looks_of m shell) entry path step.stale in
    record {
      other = event.Conflict shell found.0 found.1;
      like = record { whose = refl; settles = λ k. refl };
      step = record { txn = step.txn; next = step.next; ready = step.ready; stale = found.2.stale; after = step.after };
      named = found.2;
    }

-- events that lead where these do behind those before them
record GoesOnNamed (base : BaseTree) (start : Machine) (before : List Event) (m : Machine) (events : List Event) (m' : Machine) : Type 0 where
  later : List Event
  like : AreLike events later
  run : Run base m later m'
  named : NameConflicts base start (before ++ later)

goes_on_named : (base : BaseTree) (start : Machine) (before : List Event) (m : Machine) (events : List Event) (m' : Machine) → Run base start before m → NameConflicts base start before → Run base m events m' → GoesOnNamed base start before m events m'
goes_on_named base start before m [] m' run named on = record { later = []; like = refl; run = on; named = subst (NameConflicts base start) (sym (append-nil before)) named }
goes_on_named base start before m (e ∷ events) m' run named on =
    let first : Renames base m e on.0 = renamed base m e on.0 on.1 in
    let rest : GoesOnNamed base start (before ++ first.other ∷ []) on.0 events m' =
    goes_on_named base start (before ++ first.other ∷ []) on.0 events m' (run_more base start before m first.other on.0 run first.step) (names_more base start before m first.other run named first.named) on.2 in
    record {
      later = first.other ∷ rest.later;
      like = (first.other, rest.later, refl, first.like, rest.like);
      run = (on.0, first.step, rest.run);
      named = subst (NameConflicts base start) (append_assoc before (first.other ∷ []) rest.later) rest.named;
    }

-- ---- a run comes to its end so

pub record HasNamedEnd (base : BaseTree) (schedule : List ℕ) (before : List Event) (m : Machine) : Type 0 where
  pub later : List Event
  pub order : List Turn
  pub run : Run base m later (resting base order)
  pub complete : IsComplete base order
  pub turns : FollowsSchedule base schedule (before ++ later)
  pub named : NameConflicts base (resting base []) (before ++ later)

pub named_end : (base : BaseTree) (schedule : List ℕ) (events : List Event) (m : Machine) → IsWhole (get base.loaded) → Run base (resting base []) events m → BeginsTurns base [] schedule events → NameConflicts base (resting base []) events → HasNamedEnd base schedule events m
named_end base schedule events m whole run begins named =
    let end : HasEnd base schedule events m = comes_to_end (goes_on looks_at_paths) base schedule events m whole run begins in
    let on : GoesOnNamed base (resting base []) events m end.later (resting base end.order) = goes_on_named base (resting base []) events m end.later (resting base end.order) run named end.run in
    record {
      later = on.later;
      order = end.order;
      run = on.run;
      complete = end.complete;
      turns = takes_alike end.turns [] (events ++ on.later) (λ k. refl) (like_on events end.later on.later on.like);
      named = on.named;
    }
