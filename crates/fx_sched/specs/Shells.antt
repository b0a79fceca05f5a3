-- What a shell keeps between its steps.
use Rattle.std.specs.Prelude.{◌≡◌, ◌≤◌, ℕ, List, length, take, slice_get, Option, Some, IfSome}
use Rattle.std.specs.FinMap.{get}
use Rattle.fx_store.specs.declared.node.Node.{Node}
use Rattle.fx_view.specs.ReadList.{ReadList}
use Rattle.fx_view.specs.Reads.{IsReads}
use Rattle.fx_machine.specs.declared.attempt.Attempt.{Attempt}
use Rattle.fx_machine.specs.Explained.{IsExplained}
use Rattle.fx_machine.specs.Machine.{next_number}
use Rattle.fx_machine.specs.Passes.{AreTrueReads}
use Rattle.fx_machine.specs.Needs.{ReadsFit, Foretells}
use Rattle.fx_board.specs.Board.{last_state, state_at}
use Rattle.fx_board.specs.Log.{Log}
use Rattle.fx_sched.specs.declared.shell.Plan.{Plan}
use Rattle.fx_sched.specs.declared.shell.Shell.{Shell}

-- the reads of a shell that are looks
abbrev pub looked_in : Shell → ReadList
looked_in s = take s.looked s.reads

-- what the shell's transaction comes to by the plan
abbrev pub attempt_of : ℕ → Shell → Plan → Attempt
attempt_of number s p =
    record { shell = number; txn = s.next; reads = s.reads; changes = p.changes; outputs = p.outputs; end = p.end }

-- from some place on, each read is what stood at its path after so many entries
abbrev pub StoodThen : Log → ℕ → ℕ → ReadList → Type 0
StoodThen log made from reads =
    (i : ℕ) (r : List (List ℕ) × (Option Node × ℕ)) → from ≤ i → slice_get reads i ≡ Some r → r.1.0 ≡ get (state_at log made) r.0

-- the reads are those of the shell's transaction as it comes to the end by the plan: behind the looks they come in the order in
-- which it consults their paths, and as they stood when the plan was made
pub record IsShellPlan (log : Log) (number : ℕ) (s : Shell) (p : Plan) : Type 0 where
  pub once : IsReads s.reads
  pub explained : IsExplained log.base (attempt_of number s p)
  pub foretold : Foretells log.base (number, s.next) (looked_in s) s.reads
  pub made : p.made ≤ length log.order
  pub stood : StoodThen log p.made s.looked s.reads

-- a shell's looks are true, each path once, and fit its next transaction, whose number it has; its plan, if it has one, goes on
-- from them
pub record IsShell (log : Log) (number : ℕ) (s : Shell) : Type 0 where
  pub next : s.next ≡ next_number log.order number
  pub within : s.looked ≤ length s.reads
  pub once : IsReads (looked_in s)
  pub true_reads : AreTrueReads log.base log.order (looked_in s)
  pub fit : ReadsFit log.base (number, s.next) (looked_in s)
  pub plan : IfSome s.plan (IsShellPlan log number s)

-- the shell has a plan, and what this reads next stands there now
pub record HasReadyPlan (log : Log) (s : Shell) : Type 0 where
  pub plan : Plan
  pub there : s.plan ≡ Some plan
  pub now : (r : List (List ℕ) × (Option Node × ℕ)) → slice_get s.reads s.looked ≡ Some r → r.1.0 ≡ get (last_state log) r.0

-- the shell has the same transaction, looks and retries
pub record HasLooksOf (s t : Shell) : Type 0 where
  pub next : t.next ≡ s.next
  pub looked : looked_in t ≡ looked_in s
  pub retries : t.retries ≡ s.retries
