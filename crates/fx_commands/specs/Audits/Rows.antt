-- What each status of `audit` says: where it comes, and what is then left at the host and at the sink.
use Rattle.std.specs.Prelude.{◌≡◌, ◌⊎◌, ◌↔◌, ℕ, ◌<◌, ◌≤◌, true, false, List, length, IfSome, IsSomeAnd}
use Rattle.fx_outside.specs.Host.{HostView, FaultAt}
use Rattle.fx_outside.specs.Sink.{SinkView}
use Rattle.fx_outside.specs.Tree.{Tree, is_file_at, bytes_at}
use Rattle.fx_spec.specs.Order.{BaseTree}
use Rattle.fx_command.specs.declared.status.Status.{Status}
use Rattle.fx_command.specs.declared.status.Status.TheVariants as status
use Rattle.fx_command.specs.declared.status.TextFault.{TextFault}
use Rattle.fx_command.specs.declared.status.TextFault.TheVariants as fault
use Rattle.fx_command.specs.Query.{Query, QueryRow}
use Rattle.fx_inputs.specs.Inputs.{HasBase, HasInputs}
use Rattle.fx_inputs.specs.Reads.{LetsInputs}
use Rattle.fx_inputs.specs.Readings.{inputs_reading}
use Rattle.fx_audit.specs.Audits.{IsVerdictOn, IsTrueReport}
use Rattle.fx_audit.specs.declared.verdict.Verdict.{Verdict}
use Rattle.fx_audit.specs.declared.verdict.Verdict.TheVariants as verdicts
use Rattle.fx_commands.specs.declared.auditing.reading.TheConstants.{REPORT_LIMIT, REPORT_WORD}
use Rattle.fx_words.specs.Job.{AuditJob}
use Rattle.fx_commands.specs.Audits.Lines.{verdict_line}

-- the file at REPORT has these bytes, which are no more than a report may have
pub record HasReport (t : Tree) (j : AuditJob) (bytes : List ℕ) : Type 0 where
  pub file : is_file_at t j.report ≡ true
  pub whole : bytes ≡ bytes_at t j.report
  pub short : length bytes ≤ REPORT_LIMIT

-- the file at REPORT has more bytes
pub record HasLargeReport (t : Tree) (j : AuditJob) : Type 0 where
  pub file : is_file_at t j.report ≡ true
  pub large : REPORT_LIMIT < length (bytes_at t j.report)

-- the line tells the verdict on the text at REPORT, as a report of a run of what the texts and the folder stand for; it is
-- yes exactly where the text is such a report
pub record IsAuditing (t : Tree) (j : AuditJob) (output : List ℕ) : Type 0 where
  pub base : BaseTree
  pub bytes : List ℕ
  pub verdict : Verdict
  pub begins : HasBase t j.inputs base
  pub report : HasReport t j bytes
  pub said : IsVerdictOn base bytes verdict
  pub exact : (verdict ≡ verdicts.Yes) ↔ IsTrueReport base bytes
  pub printed : output ≡ verdict_line verdict

-- the text of REPORT is too large, and all that comes before it is read
pub record IsTooLarge (t : Tree) (j : AuditJob) (word : ℕ) (cause : TextFault) : Type 0 where
  pub at : word ≡ REPORT_WORD
  pub why : cause ≡ fault.TooLarge
  pub inputs : HasInputs t j.inputs
  pub large : HasLargeReport t j

-- a refusal of the report, where all that comes before it is read
abbrev pub report_reading : AuditJob → HostView → HostView → Status → Type 0
report_reading j host host' (status.TextRefused word cause) = IfSome host.told (λ t. IsTooLarge t j word cause)
report_reading j host host' status.ReadFault =
    (FaultAt j.report host host' × IfSome host.told (λ t. HasInputs t j.inputs)) ⊎ IsSomeAnd host.told (λ t. HasInputs t j.inputs × (is_file_at t j.report ≡ false))
report_reading j host host' _ = ⊥

-- `audit` reads what a run does, and then the report; it prints the verdict, and ends alike for every verdict
abbrev pub audit_query : AuditJob → Query
audit_query j = record {
  reads = λ host host' st. inputs_reading j.inputs host host' st ⊎ report_reading j host host' st;
  prints = λ t output. IsAuditing t j output;
}

-- the table for `audit`
abbrev pub AuditRow : AuditJob → HostView → HostView → SinkView → SinkView → Status → Type 0
AuditRow j = QueryRow (audit_query j)

-- a stage that only reads ends the command so, whatever the sink
abbrev pub AuditEndsAs : AuditJob → HostView → HostView → Status → Type 0
AuditEndsAs j host host' st = (sink : SinkView) → AuditRow j host host' sink sink st

-- nothing is asked but at the texts and in the folder
abbrev pub AuditAsks : AuditJob → HostView → HostView → Type 0
AuditAsks j host host' = LetsInputs host.guard.may_read j.inputs × (host.guard.may_read j.report ≡ true) → host'.guard ≡ host.guard
