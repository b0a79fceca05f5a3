-- The rows of the table of statuses for `audit`, from what its stages ensure.
use Rattle.std.proofs.Common.{◌≡◌, inl, inr, ℕ, ◌≤◌, ◌<◌, false, List, length, Result, Ok, Err, IfOk, IfErr, IfSome, refl, subst, arith}
use Rattle.std.specs.Prelude.{◌↔◌}
use Rattle.fx_base.specs.Causes.{Rose}
use Rattle.fx_outside.specs.declared.kind.HostFault.{HostFault}
use Rattle.fx_outside.specs.declared.kind.HostFault.TheVariants as fails
use Rattle.fx_outside.specs.Host.{HostView, ReadsOnly, FaultAt, HasFailed}
use Rattle.fx_outside.specs.Sink.{SinkView}
use Rattle.fx_outside.specs.Tree.{is_file_at, bytes_at}
use Rattle.fx_outside.proofs.Views.{fault_back}
use Rattle.fx_spec.specs.Order.{BaseTree}
use Rattle.fx_command.specs.declared.status.Status.{Status}
use Rattle.fx_command.specs.declared.status.Status.TheVariants as status
use Rattle.fx_command.specs.declared.status.TextFault.TheVariants as fault
use Rattle.fx_command.specs.StatusOf.{read_status}
use Rattle.fx_command.specs.Saved.{Prints, PrintsPart}
use Rattle.fx_command.proofs.Queries as queries
use Rattle.fx_command.proofs.Readings.{IsSteady, ends_within}
use Rattle.fx_command.proofs.Told.{if_some_both, some_and, same, cause_back, some_back}
use Rattle.fx_inputs.specs.Inputs.{HasBase, HasInputs}
use Rattle.fx_inputs.specs.Reads.{ReadRow}
use Rattle.fx_inputs.specs.Readings.{inputs_reading}
use Rattle.fx_inputs.proofs.ReadRows.{inputs_steady}
use Rattle.fx_audit.specs.Audits.{IsVerdictOn, IsTrueReport}
use Rattle.fx_audit.specs.declared.verdict.Verdict.{Verdict}
use Rattle.fx_audit.specs.declared.verdict.Verdict.TheVariants as verdict
use Rattle.fx_commands.specs.declared.auditing.reading.TheConstants.{REPORT_LIMIT, REPORT_WORD}
use Rattle.fx_words.specs.Job.{AuditJob}
use Rattle.fx_commands.specs.Audits.Lines.{verdict_line}
use Rattle.fx_commands.specs.Audits.Rows.{audit_query, report_reading, AuditEndsAs, AuditRow, HasReport, IsAuditing, IsTooLarge}
use Rattle.fx_command.specs.Texts.{IsReadAt}

-- ---- stages that only read

no_memory : (j : AuditJob) (host host' : HostView) → ReadsOnly host host' → AuditEndsAs j host host' status.NoMemory
no_memory j host host' reads sink = same host host' sink reads

-- what a run reads is not read, or is refused
pub not_read : (j : AuditJob) (host host' : HostView) (st : Status) → ReadsOnly host host' → ReadRow j.inputs host host' st → AuditEndsAs j host host' st
not_read j host host' st reads row =
    queries.not_read (audit_query j) host host' st reads (ends_within (inputs_reading j.inputs) (audit_query j).reads host host' st (λ st why. inl why) row)

-- the report is not read
pub report_unread : (j : AuditJob) (host host' : HostView) (f : HostFault) → ReadsOnly host host' → IfSome host.told (λ t. HasInputs t j.inputs) → (f ≡ fails.Failed → HasFailed (FaultAt j.report) (λ t. is_file_at t j.report) host host') → AuditEndsAs j host host' (read_status f)
report_unread j host host' fails.Failed reads inputs failed sink = (same host host' sink reads, by (failed refl))
  where
    by : HasFailed (FaultAt j.report) (λ t. is_file_at t j.report) host host' → (audit_query j).reads host host' status.ReadFault
    by (inl fault) = inr (inl (fault, inputs))
    by (inr none) = inr (inr (some_and (λ t. HasInputs t j.inputs) (λ t. is_file_at t j.report ≡ false) (λ t. HasInputs t j.inputs × (is_file_at t j.report ≡ false)) host.told (λ t is none. (is, none)) inputs none))
report_unread j host host' fails.NoMemory reads inputs failed sink = no_memory j host host' reads sink

-- it has more bytes than its limit
pub report_large : (j : AuditJob) (host host' : HostView) (text : List ℕ) → ReadsOnly host host' → IfSome host.told (λ t. HasInputs t j.inputs) → IfSome host.told (λ t. IsReadAt t j.report REPORT_LIMIT text) → REPORT_LIMIT < length text → AuditEndsAs j host host' (status.TextRefused REPORT_WORD fault.TooLarge)
report_large j host host' text reads inputs read large sink = (
  same host host' sink reads,
  inr (if_some_both (λ t. HasInputs t j.inputs) (λ t. IsReadAt t j.report REPORT_LIMIT text) (λ t. IsTooLarge t j REPORT_WORD fault.TooLarge) host.told
      (λ t inputs read. record { at = refl; why = refl; inputs = inputs; large = record { file = read.file; large = longer (length text) (length (bytes_at t j.report)) large read.within } }) inputs read),
)
  where
    longer : (n m : ℕ) → REPORT_LIMIT < n → n ≤ m → REPORT_LIMIT < m
    longer n m h k = omega (arith, h, k)

-- ---- from one stage to the next

auditing_of : (j : AuditJob) (base : BaseTree) (bytes : List ℕ) (v : Verdict) (output : List ℕ) (host : HostView) → IfSome host.told (λ t. HasBase t j.inputs base) → IfSome host.told (λ t. HasReport t j bytes) → IsVerdictOn base bytes v → (v ≡ verdict.Yes) ↔ IsTrueReport base bytes → output ≡ verdict_line v → IfSome host.told (λ t. IsAuditing t j output)
auditing_of j base bytes v output host begins report said exact printed =
    if_some_both (λ t. HasBase t j.inputs base) (λ t. HasReport t j bytes) (λ t. IsAuditing t j output) host.told
    (λ t begins report. record { base = base; bytes = bytes; verdict = v; begins = begins; report = report; said = said; exact = exact; printed = printed }) begins report

pub auditing : (j : AuditJob) (base : BaseTree) (bytes held : List ℕ) (v : Verdict) (output : List ℕ) (host : HostView) → held ≡ bytes → IfSome host.told (λ t. HasBase t j.inputs base) → IfSome host.told (λ t. HasReport t j bytes) → IsVerdictOn base held v → (v ≡ verdict.Yes) ↔ IsTrueReport base held → output ≡ verdict_line v → IfSome host.told (λ t. IsAuditing t j output)
auditing j base bytes held v output host same begins report said exact printed =
    auditing_of j base bytes v output host begins report (subst (λ (b : List ℕ). IsVerdictOn base b v) same said) (subst (λ (b : List ℕ). (v ≡ verdict.Yes) ↔ IsTrueReport base b) same exact) printed

pub auditing_before : (j : AuditJob) (a b : HostView) {X : Type 0} (output : X → List ℕ) (result : Result X Status) → ReadsOnly a b → IfOk result (λ x. IfSome b.told (λ t. IsAuditing t j (output x))) → IfOk result (λ x. IfSome a.told (λ t. IsAuditing t j (output x)))
auditing_before j a b output (Ok x) reads is = some_back (λ t. IsAuditing t j (output x)) a b reads is
auditing_before j a b output (Err st) reads is = tt

report_steady : (j : AuditJob) → IsSteady (report_reading j)
report_steady j a b c status.Done reads is = is
report_steady j a b c status.Usage reads is = is
report_steady j a b c (status.TextRefused word cause) reads is = some_back (λ t. IsTooLarge t j word cause) a b reads is
report_steady j a b c (status.FolderRefused cause) reads is = is
report_steady j a b c status.ReadFault reads is = cause_back (λ b c. FaultAt j.report b c × IfSome b.told (λ t. HasInputs t j.inputs)) (λ t. HasInputs t j.inputs × (is_file_at t j.report ≡ false)) a b c reads (λ why. (fault_back j.report a b c reads.later why.0, some_back (λ t. HasInputs t j.inputs) a b reads why.1)) is
report_steady j a b c status.NotEmpty reads is = is
report_steady j a b c status.WriteFault reads is = is
report_steady j a b c status.NoMemory reads is = is
report_steady j a b c (status.BadJournal place) reads is = is

steady : (j : AuditJob) → IsSteady (audit_query j).reads
steady j a b c st reads (inl why) = inl (inputs_steady j.inputs a b c st reads why)
steady j a b c st reads (inr why) = inr (report_steady j a b c st reads why)

pub audit_ends_back : (j : AuditJob) (a b c : HostView) (st : Status) → ReadsOnly a b → AuditEndsAs j b c st → AuditEndsAs j a c st
audit_ends_back j = queries.ends_back (audit_query j) (steady j)

pub audit_ends_before : {X : Type 0} (j : AuditJob) (a b c : HostView) (result : Result X Status) → ReadsOnly a b → IfErr result (AuditEndsAs j b c) → IfErr result (AuditEndsAs j a c)
audit_ends_before j a b c (Ok x) reads ends = tt
audit_ends_before j a b c (Err st) reads ends = audit_ends_back j a b c st reads ends

-- ---- the last stage

pub audit_unprinted : (j : AuditJob) (output : List ℕ) (host host' : HostView) (sink sink' : SinkView) → ReadsOnly host host' → IfSome host.told (λ t. IsAuditing t j output) → PrintsPart output sink sink' → Rose sink.faults sink'.faults → AuditRow j host host' sink sink' status.WriteFault
audit_unprinted j = queries.not_printed (audit_query j)

pub audit_done : (j : AuditJob) (output : List ℕ) (host host' : HostView) (sink sink' : SinkView) → ReadsOnly host host' → IfSome host.told (λ t. IsAuditing t j output) → Prints output sink sink' → AuditRow j host host' sink sink' status.Done
audit_done j = queries.done (audit_query j)
