-- Whose turn it is: the shells of a schedule in order, and then all shells in rounds from 0 on, where a shell is left out at
-- a turn at which it has no transaction left.
use Rattle.std.specs.Prelude.{◌≡◌, ℕ, Bool, true, false, nat_eq, nat_lt, List, [], ◌∷◌, ◌++◌, length, count_by}
use Rattle.fx_spec.specs.Plans.{count_of}
use Rattle.fx_spec.specs.Order.{BaseTree, first_numbers}
use Rattle.fx_machine.specs.declared.event.Event.{Event}
use Rattle.fx_machine.specs.declared.event.Event.TheVariants as event
use Rattle.fx_machine.specs.Machine.{shell_of}

abbrev pub is_settled_by : ℕ → Event → Bool
is_settled_by shell (event.Settled k entry) = nat_eq k shell
is_settled_by shell _ = false

-- whether a shell has a transaction left after these events
abbrev pub has_more : BaseTree → List Event → ℕ → Bool
has_more base before shell = nat_lt (count_by (is_settled_by shell) before) (count_of base.plan shell)

-- `TakesTurns base before turns events`: after the events `before`, those that come are of the shells whose turns these are,
-- and then of all shells in rounds
pub data TakesTurns (base : BaseTree) : List Event → List ℕ → List Event → Type 0 where
  left_out : {before : List Event} {shell : ℕ} {turns : List ℕ} {events : List Event} → has_more base before shell ≡ false → TakesTurns base before turns events → TakesTurns base before (shell ∷ turns) events
  steps : {before : List Event} {e : Event} {turns : List ℕ} {events : List Event} → has_more base before (shell_of e) ≡ true → TakesTurns base (before ++ e ∷ []) turns events → TakesTurns base before (shell_of e ∷ turns) (e ∷ events)
  a_round : {before : List Event} {events : List Event} → (shell : ℕ) → has_more base before shell ≡ true → TakesTurns base before (first_numbers (length base.plan)) events → TakesTurns base before [] events
  over : {before : List Event} → ((shell : ℕ) → has_more base before shell ≡ false) → TakesTurns base before [] []

-- `BeginsTurns base before turns events`: the same of the events up to some moment, at which turns may be left
pub data BeginsTurns (base : BaseTree) : List Event → List ℕ → List Event → Type 0 where
  leaves_out : {before : List Event} {shell : ℕ} {turns : List ℕ} {events : List Event} → has_more base before shell ≡ false → BeginsTurns base before turns events → BeginsTurns base before (shell ∷ turns) events
  goes : {before : List Event} {e : Event} {turns : List ℕ} {events : List Event} → has_more base before (shell_of e) ≡ true → BeginsTurns base (before ++ e ∷ []) turns events → BeginsTurns base before (shell_of e ∷ turns) (e ∷ events)
  next_round : {before : List Event} {events : List Event} → (shell : ℕ) → has_more base before shell ≡ true → BeginsTurns base before (first_numbers (length base.plan)) events → BeginsTurns base before [] events
  stops : {before : List Event} {turns : List ℕ} → BeginsTurns base before turns []

abbrev pub FollowsSchedule : BaseTree → List ℕ → List Event → Type 0
FollowsSchedule base schedule events = TakesTurns base [] schedule events
