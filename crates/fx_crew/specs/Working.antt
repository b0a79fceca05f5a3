-- A shell at work on its script, through a desk of which is known what its pass knows.
use Rattle.std.specs.Prelude.{◌≡◌, ◌⊎◌, ℕ, ◌+◌, ◌<◌, ◌≤◌, [], ◌∷◌, ◌++◌, length, Option, Some}
use Rattle.std.specs.List.{sum_by}
use Rattle.fx_spec.specs.Plans.{count_of}
use Rattle.fx_spec.specs.Order.{BaseTree}
use Rattle.fx_machine.specs.declared.attempt.Attempt.{Attempt}
use Rattle.fx_machine.specs.declared.retry.Retry.{Retry}
use Rattle.fx_machine.specs.Explained.{IsExplained}
use Rattle.fx_machine.specs.Machine.{next_number}
use Rattle.fx_machine.specs.Needs.{Foretells}
use Rattle.fx_board.specs.Board.{IsNamed}
use Rattle.fx_diaries.specs.Diaries.{Diary}
use Rattle.fx_board.specs.Positions.{InTurn}
use Rattle.fx_shared.specs.Passes.{LogView, HasBase, HasSeenMore, HasSettled, log_over}
use Rattle.fx_crew.specs.declared.attempting.Outcome.{Outcome}
use Rattle.fx_crew.specs.declared.attempting.Outcome.TheVariants as outcome
use Rattle.fx_crew.specs.declared.worker.Worker.{Worker}
use Rattle.fx_shared.specs.Live.{AreTrueOver}

-- the attempt is the transaction's, and is explained; each path that it has read came next for the transaction; the reads are
-- true for the pass, and were looked at one after another, after all that the pass had seen at the start
pub record HasTried (base : BaseTree) (shell txn : ℕ) (start now : LogView) (a : Attempt) : Type 0 where
  pub seen : HasSeenMore start now
  pub whose : a.shell ≡ shell
  pub number : a.txn ≡ txn
  pub explained : IsExplained base a
  pub foretold : Foretells base (shell, txn) [] a.reads
  pub stand : AreTrueOver now a.reads
  pub in_turn : InTurn (length start.seen) (length now.seen) a.reads

-- the attempt is an entry now, or an entry has changed what it had read: the last one at the least such path
abbrev pub ComesTo : LogView → LogView → Attempt → Outcome → Type 0
ComesTo old new a outcome.Settled = (entry : ℕ) × HasSettled old new a entry
ComesTo old new a (outcome.Conflict entry path) = HasSeenMore old new × HasBase new (λ base. IsNamed (log_over new base) a.reads entry path)

module _ {D : Type 0} where
  -- the next transaction is settled, and no retry is noted
  pub record HasEntry (old new : Worker D) : Type 0 where
    pub next : new.next ≡ old.next + 1
    pub retries : new.retries.items ≡ old.retries.items

  -- the next transaction is to start again, which is noted
  pub record HasRetry (old new : Worker D) : Type 0 where
    pub next : new.next ≡ old.next
    pub retry : Retry
    pub retries : new.retries.items ≡ old.retries.items ++ retry ∷ []

  module _ (view : D → LogView) where
    -- the transactions of the script below the next one are settled, and no others; all that was done stands in the shell's diary,
    -- over the order that its pass has seen
    pub record IsWorker (base : BaseTree) (shell : ℕ) (w : Worker D) : Type 0 where
      pub number : (view w.desk).number ≡ Some shell
      pub based : (view w.desk).base ≡ Some base
      pub next : w.next ≡ (view w.desk).mine
      pub counted : next_number (view w.desk).seen shell ≡ w.next
      pub diary : Diary base (view w.desk).seen shell (length (view w.desk).seen) [] w.retries.items

    -- the worker has seen more entries than before, and no more than the plan has transactions
    pub record HasGone (base : BaseTree) (shell : ℕ) (old new : Worker D) : Type 0 where
      pub worker : IsWorker base shell new
      pub more : length (view old.desk).seen < length (view new.desk).seen
      pub few : length (view new.desk).seen ≤ sum_by length base.plan
      pub noted : HasEntry old new ⊎ HasRetry old new

    -- all transactions of the script of the shell with this number are settled
    pub record HasWorkedOff (base : BaseTree) (number : Option ℕ) (w : Worker D) : Type 0 where
      pub shell : ℕ
      pub number_is : number ≡ Some shell
      pub worker : IsWorker base shell w
      pub all : w.next ≡ count_of base.plan shell
