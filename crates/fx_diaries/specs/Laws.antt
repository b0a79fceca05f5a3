-- Laws of diaries and of runs.
use Rattle.std.specs.Prelude.{◌≡◌, ◌≢◌, ℕ, suc, ◌≤◌, ◌<◌, List, [], ◌∷◌, ◌++◌, take, length, slice_get, Some}
use Rattle.std.specs.List.{flat_map}
use Rattle.fx_spec.specs.Plans.{Turn}
use Rattle.fx_spec.specs.Order.{BaseTree, IsComplete, first_numbers}
use Rattle.fx_machine.specs.declared.event.Event.{Event}
use Rattle.fx_machine.specs.declared.retry.Retry.{Retry}
use Rattle.fx_machine.specs.Machine.{Look, Run, resting, next_number}
use Rattle.fx_machine.specs.Tried.{conflicts_of}
use Rattle.fx_machine.specs.Turns.{FollowsSchedule}
use Rattle.fx_diaries.specs.Diaries.{DoesInShell, MaySettle, Diary}
use Rattle.fx_diaries.specs.Runs.{shells_in, HasWorked, IsOfSomeRun}

-- before anything is done
abbrev pub EmptyDiary : Type 0
EmptyDiary = (base : BaseTree) (o : List Turn) (shell : ℕ) → Diary base o shell 0 [] []

-- the shell looks, or starts again, which is one retry more
abbrev pub GrowsByEvent : Type 0
GrowsByEvent =
    (base : BaseTree) (o : List Turn) (shell time : ℕ) (looks looks' : List Look) (retries : List Retry) (e : Event) → Diary base o shell time looks retries → DoesInShell base (take time o) shell looks e looks'
    → Diary base o shell time looks' (retries ++ conflicts_of shell (next_number (take time o) shell) (e ∷ []))

-- another shell settles
abbrev pub GrowsByOther : Type 0
GrowsByOther =
    (base : BaseTree) (o : List Turn) (shell time : ℕ) (looks : List Look) (retries : List Retry) (turn : Turn) → Diary base o shell time looks retries → slice_get o time ≡ Some turn → turn.0 ≢ shell → Diary base o shell (suc time) looks retries

-- the shell settles
abbrev pub GrowsByOwn : Type 0
GrowsByOwn =
    (base : BaseTree) (o : List Turn) (shell time : ℕ) (looks : List Look) (retries : List Retry) (turn : Turn) → Diary base o shell time looks retries → slice_get o time ≡ Some turn → turn.0 ≡ shell → MaySettle base (take time o) shell looks → turn.1 ≡ next_number (take time o) shell
    → Diary base o shell (suc time) [] retries

-- the pass has seen more entries
abbrev pub GrowsBySeen : Type 0
GrowsBySeen =
    (base : BaseTree) (o more : List Turn) (shell time : ℕ) (looks : List Look) (retries : List Retry) → time ≤ length o → Diary base o shell time looks retries → Diary base (o ++ more) shell time looks retries

pub record DiariesGrow : Type 0 where
  pub empty : EmptyDiary
  pub by_event : GrowsByEvent
  pub by_other : GrowsByOther
  pub by_own : GrowsByOwn
  pub by_seen : GrowsBySeen

-- where each shell of the plan has worked off its script, the order and the retries of all shells are those of some run
abbrev pub DiariesMakeRuns : Type 0
DiariesMakeRuns =
    (base : BaseTree) (o : List Turn) (retries : ℕ → List Retry) → IsComplete base o → ((shell : ℕ) → shell < length base.plan → HasWorked base o shell (retries shell)) → IsOfSomeRun base o (flat_map retries (first_numbers (length base.plan)))

abbrev pub RunsHaveSchedules : Type 0
RunsHaveSchedules =
    (base : BaseTree) (events : List Event) (order : List Turn) → Run base (resting base []) events (resting base order) → IsComplete base order → FollowsSchedule base (shells_in events) events
