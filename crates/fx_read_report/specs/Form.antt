-- The form of a report, and the first line at which bytes leave it.
use Rattle.std.specs.Prelude.{◌≡◌, ℕ, ◌^◌, ◌<◌, List, ◌++◌, length}
use Rattle.std.specs.List.{AllByRecursion, flat_map}
use Rattle.fx_store.specs.Names.{IsPath}
use Rattle.fx_spec.specs.declared.refusal.Refusal.{Refusal}
use Rattle.fx_spec.specs.declared.refusal.Refusal.TheVariants as refusal
use Rattle.fx_spec.specs.declared.refusal.End.{End}
use Rattle.fx_spec.specs.declared.refusal.End.TheVariants as end
use Rattle.fx_machine.specs.declared.retry.Retry.{Retry}
use Rattle.fx_report.specs.Report.{line, report_text}
use Rattle.fx_report.specs.declared.printed.PrintedEntry.{PrintedEntry}
use Rattle.fx_read_report.specs.declared.report.ReportFault.{ReportFault}
use Rattle.fx_read_report.specs.declared.report.ReportFault.TheVariants.{BadLine, NoMemory}
use Rattle.fx_read_report.specs.Feeds.{LacksFeed}
use Rattle.fx_read_report.specs.Values.{IsPrinted}
use Rattle.fx_read_report.specs.declared.values.TheConstants.{VALUE_LEVELS}

-- a refusal that names a path has one of at most 64 names
abbrev pub IsFormRefusal : Refusal → Type 0
IsFormRefusal (refusal.Blocked path) = IsPath path
IsFormRefusal other = Unit {0}

-- the number of a command has 32 bits
abbrev pub IsFormEnd : End → Type 0
IsFormEnd (end.Stopped command r) = (command < 2 ^ 32) × IsFormRefusal r
IsFormEnd _ = Unit {0}

-- an entry with numbers of 32 bits and outputs that can be printed
pub record IsFormEntry (e : PrintedEntry) : Type 0 where
  pub shell : e.shell < 2 ^ 32
  pub txn : e.txn < 2 ^ 32
  pub outputs : AllByRecursion (IsPrinted VALUE_LEVELS) e.outputs
  pub ended : IsFormEnd e.end

-- a retry with numbers of 32 bits, the number of an entry, and a path
pub record IsFormRetry (r : Retry) : Type 0 where
  pub shell : r.shell < 2 ^ 32
  pub txn : r.txn < 2 ^ 32
  pub entry : r.entry < 2 ^ 64
  pub path : IsPath r.path

-- the lists of a report, which are counted by numbers of 64 bits
pub record IsReportForm (entries : List PrintedEntry) (retries : List Retry) : Type 0 where
  pub entries_fit : length entries < 2 ^ 64
  pub retries_fit : length retries < 2 ^ 64
  pub entries_form : AllByRecursion IsFormEntry entries
  pub retries_form : AllByRecursion IsFormRetry retries

-- bytes that are the report of such lists
pub record IsReportOf (bytes : List ℕ) (entries : List PrintedEntry) (retries : List Retry) : Type 0 where
  pub form : IsReportForm entries retries
  pub spelled : bytes ≡ report_text entries retries

-- so many lines stand at the front of the bytes, each with its line feed, and begin the report of some lists
pub record BeginsReport (bytes : List ℕ) (number : ℕ) : Type 0 where
  pub lines : List (List ℕ)
  pub rest : List ℕ
  pub parts : bytes ≡ flat_map line lines ++ rest
  pub count : length lines ≡ number
  pub whole : AllByRecursion LacksFeed lines
  pub entries : List PrintedEntry
  pub retries : List Retry
  pub later : List ℕ
  pub report : IsReportOf (flat_map line lines ++ later) entries retries

-- The bytes are no report, and this is the first number such that they have not so many lines that begin one: the number
-- of the first line that goes wrong, or one more than the number of the lines.
pub record IsFirstWrongLine (bytes : List ℕ) (number : ℕ) : Type 0 where
  pub none : (entries : List PrintedEntry) (retries : List Retry) → IsReportOf bytes entries retries → ⊥
  pub positive : 0 < number
  pub before : (k : ℕ) → k < number → BeginsReport bytes k
  pub stops : BeginsReport bytes number → ⊥

-- why bytes are not read; want of memory has no cause
abbrev pub ReportCause : List ℕ → ReportFault → Type 0
ReportCause bytes (BadLine number) = IsFirstWrongLine bytes number
ReportCause bytes NoMemory = Unit {0}
