-- What each shell of a run does, and when. The time is the number of entries that the order then has. A shell knows its own
-- looks and settles, and the order that its pass has seen; no shell knows when another one has looked.
use Rattle.std.specs.Prelude.{◌≡◌, ◌≢◌, ℕ, suc, ◌≤◌, ◌<◌, List, [], ◌∷◌, ◌++◌, take, length, slice_get, Some, None}
use Rattle.std.specs.List.{flat_map}
use Rattle.fx_store.specs.Names.{IsPath}
use Rattle.fx_spec.specs.CommandTree.{CommandTree}
use Rattle.fx_spec.specs.Plans.{Turn}
use Rattle.fx_spec.specs.Order.{BaseTree, first_numbers}
use Rattle.fx_machine.specs.declared.event.Event.{Event}
use Rattle.fx_machine.specs.declared.event.Event.TheVariants as event
use Rattle.fx_machine.specs.declared.retry.Retry.{Retry}
use Rattle.fx_machine.specs.Tried.{conflicts_of}
use Rattle.fx_machine.specs.Machine.{Look, next_txn, next_number, position_at, ComesNext, HasSeenAll, IsFresh}
use Rattle.fx_diaries.specs.Named.{IsNamedAt}

-- the shell looks at the path that comes next for it
pub record LooksNext (base : BaseTree) (o : List Turn) (shell : ℕ) (looks : List Look) (path : List (List ℕ)) (position : ℕ) (looks' : List Look) : Type 0 where
  pub txn : List CommandTree
  pub next : next_txn base o shell ≡ Some txn
  pub valid : IsPath path
  pub unseen : position_at looks path ≡ None
  pub first : ComesNext base o looks txn path
  pub now : position ≡ length o
  pub after : looks' ≡ looks ++ (path, position) ∷ []

-- it starts again, since an entry has changed what it had looked at: the last one at the least such path
pub record StartsAgain (base : BaseTree) (o : List Turn) (shell : ℕ) (looks : List Look) (entry : ℕ) (path : List (List ℕ)) (looks' : List Look) : Type 0 where
  pub txn : List CommandTree
  pub next : next_txn base o shell ≡ Some txn
  pub ready : HasSeenAll base o looks txn
  pub named : IsNamedAt base o looks entry path
  pub after : looks' ≡ []

-- an event of the shell by which the order does not grow
abbrev pub DoesInShell : BaseTree → List Turn → ℕ → List Look → Event → List Look → Type 0
DoesInShell base o shell looks (event.Look k path position) looks' = (k ≡ shell) × LooksNext base o shell looks path position looks'
DoesInShell base o shell looks (event.Settled k entry) looks' = ⊥
DoesInShell base o shell looks (event.Conflict k entry path) looks' = (k ≡ shell) × StartsAgain base o shell looks entry path looks'

-- such events, one after another, while the order stays
abbrev pub DoesAll : BaseTree → List Turn → ℕ → List Look → List Event → List Look → Type 0
DoesAll base o shell looks [] looks' = looks ≡ looks'
DoesAll base o shell looks (e ∷ events) looks' = (between : List Look) × DoesInShell base o shell looks e between × DoesAll base o shell between events looks'

-- all that the shell's next transaction consults is looked at, and none of it was changed since
pub record MaySettle (base : BaseTree) (o : List Turn) (shell : ℕ) (looks : List Look) : Type 0 where
  pub txn : List CommandTree
  pub next : next_txn base o shell ≡ Some txn
  pub ready : HasSeenAll base o looks txn
  pub fresh : IsFresh base o looks

-- the retries that a shell's events at a time are, and at all times up to one
abbrev pub retries_at : List Turn → ℕ → (ℕ → List Event) → ℕ → List Retry
retries_at o shell events time = conflicts_of shell (next_number (take time o) shell) (events time)

abbrev pub retries_to : List Turn → ℕ → (ℕ → List Event) → ℕ → List Retry
retries_to o shell events time = flat_map (retries_at o shell events) (first_numbers (suc time))

-- what a shell has done up to a time, at which it has these looks, and these retries so far. At each time it has some looks
-- before its events and some behind them; its own entry leaves it no looks, and an entry of another shell leaves them as they are
pub record Diary (base : BaseTree) (o : List Turn) (shell time : ℕ) (looks : List Look) (retries : List Retry) : Type 0 where
  pub events : ℕ → List Event
  pub before : ℕ → List Look
  pub behind : ℕ → List Look
  pub starts : before 0 ≡ []
  pub does : (t : ℕ) → t ≤ time → DoesAll base (take t o) shell (before t) (events t) (behind t)
  pub settles : (t : ℕ) (turn : Turn) → t < time → slice_get o t ≡ Some turn → turn.0 ≡ shell → MaySettle base (take t o) shell (behind t) × (turn.1 ≡ next_number (take t o) shell) × (before (suc t) ≡ [])
  pub waits : (t : ℕ) (turn : Turn) → t < time → slice_get o t ≡ Some turn → turn.0 ≢ shell → before (suc t) ≡ behind t
  pub now : behind time ≡ looks
  pub noted : retries_to o shell events time ≡ retries
