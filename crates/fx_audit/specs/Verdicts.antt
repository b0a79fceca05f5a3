-- The verdict on what a report tells: the first of its faults.
use Rattle.std.specs.Prelude.{◌≡◌, ℕ, suc, ◌<◌, List, map, take, slice_get, Some, Contains}
use Rattle.fx_spec.specs.Plans.{Turn, count_of}
use Rattle.fx_spec.specs.Order.{BaseTree, IsLegal, IsComplete, RetriesOk}
use Rattle.fx_machine.specs.declared.retry.Retry.{Retry}
use Rattle.fx_machine.specs.Tried.{retry_tree}
use Rattle.fx_audit.specs.Legal.{IsFirstIllegal}
use Rattle.fx_report.specs.declared.printed.PrintedEntry.{PrintedEntry}
use Rattle.fx_report.specs.Entries.{entry}
use Rattle.fx_audit.specs.declared.verdict.Verdict.{Verdict}
use Rattle.fx_audit.specs.declared.verdict.Verdict.TheVariants as verdict

-- the transaction that an entry tells of
abbrev pub turn_told : PrintedEntry → Turn
turn_told e = (e.shell, e.txn)

abbrev pub order_told : List PrintedEntry → List Turn
order_told entries = map turn_told entries

-- entry `i` tells the outputs and the end of its transaction
abbrev pub IsAnswered : BaseTree → List PrintedEntry → ℕ → Type 0
IsAnswered base entries i =
    (e : PrintedEntry) → slice_get entries i ≡ Some e → e ≡ entry base (order_told entries) i (turn_told e)

abbrev pub AllAnswered : BaseTree → List PrintedEntry → Type 0
AllAnswered base entries = (i : ℕ) → IsAnswered base entries i

-- entry `i` is the first that tells another answer than its transaction gives
pub record IsFirstUnanswered (base : BaseTree) (entries : List PrintedEntry) (i : ℕ) : Type 0 where
  pub before : (k : ℕ) → k < i → IsAnswered base entries k
  pub here : IsAnswered base entries i → ⊥

-- the least shell that lacks a transaction, and the first that it lacks
pub record IsFirstMissing (base : BaseTree) (o : List Turn) (shell txn : ℕ) : Type 0 where
  pub planned : txn < count_of base.plan shell
  pub lacks : Contains o (shell, txn) → ⊥
  pub shells : (k j : ℕ) → k < shell → j < count_of base.plan k → Contains o (k, j)
  pub txns : (j : ℕ) → j < txn → Contains o (shell, j)

-- with retry `m`, and with none before it, the retries can't have been
pub record IsFirstUntrue (base : BaseTree) (o : List Turn) (retries : List Retry) (m : ℕ) : Type 0 where
  pub before : (k : ℕ) → k < m → RetriesOk base o (map retry_tree (take (suc k) retries))
  pub here : RetriesOk base o (map retry_tree (take (suc m) retries)) → ⊥

-- what is said of entries and retries that were read
abbrev pub IsVerdict : BaseTree → List PrintedEntry → List Retry → Verdict → Type 0
IsVerdict base entries retries verdict.Yes = IsComplete base (order_told entries) × AllAnswered base entries × RetriesOk base (order_told entries) (map retry_tree retries)
IsVerdict base entries retries (verdict.BadLine n) = ⊥
IsVerdict base entries retries (verdict.Order i) = IsFirstIllegal base (order_told entries) i
IsVerdict base entries retries (verdict.Answer i) = IsLegal base (order_told entries) × IsFirstUnanswered base entries i
IsVerdict base entries retries (verdict.Missing shell txn) = IsLegal base (order_told entries) × AllAnswered base entries × IsFirstMissing base (order_told entries) shell txn
IsVerdict base entries retries (verdict.Retry m) = IsComplete base (order_told entries) × AllAnswered base entries × IsFirstUntrue base (order_told entries) retries m
