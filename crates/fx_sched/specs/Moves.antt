-- What one step says of one shell and the log.
use Rattle.std.specs.Prelude.{◌≡◌, ℕ, suc, List, [], ◌∷◌, ◌++◌, length}
use Rattle.std.specs.FinMap.{get}
use Rattle.fx_store.specs.Names.{IsPath}
use Rattle.fx_machine.specs.declared.retry.Retry.{Retry}
use Rattle.fx_machine.specs.declared.event.Event.{Event}
use Rattle.fx_machine.specs.declared.event.Event.TheVariants as event
use Rattle.fx_machine.specs.Needs.{IsNext, AllRead}
use Rattle.fx_board.specs.Board.{last_state, settled, IsFreshReads, IsNamed}
use Rattle.fx_board.specs.Log.{Log}
use Rattle.fx_sched.specs.declared.shell.Shell.{Shell}
use Rattle.fx_sched.specs.Shells.{looked_in}

-- the shell has looked at the path that came next, as it stands after all entries
pub record HasLooked (old new : Log) (number : ℕ) (s : Shell) (path : List (List ℕ)) (position : ℕ) (t : Shell) : Type 0 where
  pub log : new ≡ old
  pub valid : IsPath path
  pub next : IsNext old.base (number, s.next) (looked_in s) path
  pub now : position ≡ length old.order
  pub txn : t.next ≡ s.next
  pub looked : looked_in t ≡ looked_in s ++ (path, (get (last_state old) path, position)) ∷ []
  pub retries : t.retries ≡ s.retries

-- the shell's transaction has joined the order, and it goes on to the next one
pub record HasJoined (old new : Log) (number : ℕ) (s : Shell) (entry : ℕ) (t : Shell) : Type 0 where
  pub ready : AllRead old.base (number, s.next) (looked_in s)
  pub fresh : IsFreshReads old.base old.order (looked_in s)
  pub now : entry ≡ length old.order
  pub log : new ≡ settled old number s.next
  pub txn : t.next ≡ suc s.next
  pub none : looked_in t ≡ []
  pub retries : t.retries ≡ s.retries

abbrev pub retry_of : ℕ → ℕ → ℕ → List (List ℕ) → Retry
retry_of shell txn entry path = record { shell = shell; txn = txn; entry = entry; path = path }

-- an entry stood in the way of the shell's transaction, which starts again: the last one at the least path that was changed
pub record HasRestarted (old new : Log) (number : ℕ) (s : Shell) (entry : ℕ) (path : List (List ℕ)) (t : Shell) : Type 0 where
  pub ready : AllRead old.base (number, s.next) (looked_in s)
  pub named : IsNamed old (looked_in s) entry path
  pub log : new ≡ old
  pub txn : t.next ≡ s.next
  pub none : looked_in t ≡ []
  pub retries : t.retries ≡ s.retries ++ retry_of number s.next entry path ∷ []

-- an event of the shell, with the log and the shell before and after it
abbrev pub Moved : Log → Log → ℕ → Shell → Event → Shell → Type 0
Moved old new number s (event.Look k path position) t = (k ≡ number) × HasLooked old new number s path position t
Moved old new number s (event.Settled k entry) t = (k ≡ number) × HasJoined old new number s entry t
Moved old new number s (event.Conflict k entry path) t = (k ≡ number) × HasRestarted old new number s entry path t
