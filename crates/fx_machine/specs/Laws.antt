-- Laws of the machine.
use Rattle.std.specs.Prelude.{◌≡◌, ◌≢◌, ◌↔◌, ℕ, true, List, [], map, length, slice_get, Some}
use Rattle.fx_spec.specs.Plans.{Turn}
use Rattle.fx_spec.specs.Order.{BaseTree, state, IsLegal, IsComplete, RetriesOk}
use Rattle.fx_spec.specs.Transaction.{left_nodes}
use Rattle.fx_machine.specs.declared.event.Event.{Event}
use Rattle.fx_machine.specs.Machine.{Machine, Run, Step, Settles, Restarts, IsStaleAt, looks_of, resting}
use Rattle.fx_machine.specs.Measure.{is_stale, measure, IsLower, HasRoom}
use Rattle.fx_machine.specs.Tried.{retries_of, retry_tree}

abbrev pub SettlingKeepsLegal : Type 0
SettlingKeepsLegal =
    (base : BaseTree) (m m' : Machine) (shell entry : ℕ) → IsLegal base m.order → Settles base m shell entry m' → IsLegal base m'.order

-- a state that a run from the start reaches
pub record IsReached (base : BaseTree) (m : Machine) : Type 0 where
  pub events : List Event
  pub run : Run base (resting base []) events m

-- the entry is another shell's, and has changed a path that the shell had looked at
pub record IsOthers (base : BaseTree) (m : Machine) (shell entry : ℕ) (path : List (List ℕ)) : Type 0 where
  pub stale : IsStaleAt base m.order (looks_of m shell) entry path
  pub other : (k txn : ℕ) → slice_get m.order entry ≡ Some (k, txn) → k ≢ shell

abbrev pub ConflictsAreOthers : Type 0
ConflictsAreOthers =
    (base : BaseTree) (m m' : Machine) (shell entry : ℕ) (path : List (List ℕ)) → IsReached base m → Restarts base m shell entry path m' → IsOthers base m shell entry path

-- no shell has looked at more paths than there are
abbrev pub LooksAreFew : Type 0
LooksAreFew = (base : BaseTree) (m : Machine) → IsReached base m → HasRoom base m

abbrev pub EventsLower : Type 0
EventsLower =
    (base : BaseTree) (m m' : Machine) (e : Event) → IsReached base m → Step base m e m' → IsLower (measure base m') (measure base m)

abbrev pub CompleteRuns : Type 0
CompleteRuns =
    (base : BaseTree) (events : List Event) (o : List Turn) → Run base (resting base []) events (resting base o) → IsComplete base o → RetriesOk base o (map retry_tree (retries_of base events))

-- a shell is found stale exactly where an entry has changed a path that it looked at before
abbrev pub StaleIsExact : Type 0
StaleIsExact =
    (base : BaseTree) (m : Machine) → IsReached base m → (shell : ℕ) → (is_stale base m shell ≡ true) ↔ ((entry : ℕ) × (path : List (List ℕ)) × IsStaleAt base m.order (looks_of m shell) entry path)

-- after a settle the state is that of the transaction, run whole on the state before it
abbrev pub SettlesToNext : Type 0
SettlesToNext =
    (base : BaseTree) (m m' : Machine) (shell entry : ℕ) (s : Settles base m shell entry m') → state base m'.order (length m'.order) ≡ left_nodes base.description s.txn (state base m.order (length m.order))
