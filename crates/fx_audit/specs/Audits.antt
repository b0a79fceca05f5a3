-- The verdict on bytes as a report of a run, and which bytes are one.
use Rattle.std.specs.Prelude.{ℕ, List, map}
use Rattle.fx_spec.specs.Plans.{Turn}
use Rattle.fx_spec.specs.Order.{BaseTree, IsComplete, RetriesOk}
use Rattle.fx_machine.specs.declared.retry.Retry.{Retry}
use Rattle.fx_machine.specs.Tried.{retry_tree}
use Rattle.fx_report.specs.declared.printed.PrintedEntry.{PrintedEntry}
use Rattle.fx_report.specs.Entries.{entries_of}
use Rattle.fx_read_report.specs.Form.{IsReportOf, IsFirstWrongLine}
use Rattle.fx_audit.specs.declared.verdict.Verdict.{Verdict}
use Rattle.fx_audit.specs.declared.verdict.Verdict.TheVariants as verdict
use Rattle.fx_audit.specs.Verdicts.{IsVerdict}

-- the bytes are a report, and this is the verdict on what it tells
pub record IsReadAs (base : BaseTree) (bytes : List ℕ) (v : Verdict) : Type 0 where
  pub entries : List PrintedEntry
  pub retries : List Retry
  pub report : IsReportOf bytes entries retries
  pub said : IsVerdict base entries retries v

abbrev pub IsVerdictOn : BaseTree → List ℕ → Verdict → Type 0
IsVerdictOn base bytes (verdict.BadLine n) = IsFirstWrongLine bytes n
IsVerdictOn base bytes v = IsReadAs base bytes v

-- The bytes are the report of a complete order of the base, with retries that this order can have had: each entry tells the
-- outputs and the end of its transaction, run whole on the filestore after those before it.
pub record IsTrueReport (base : BaseTree) (bytes : List ℕ) : Type 0 where
  pub order : List Turn
  pub retries : List Retry
  pub complete : IsComplete base order
  pub tried : RetriesOk base order (map retry_tree retries)
  pub report : IsReportOf bytes (entries_of base order) retries
