-- With all that `audit` reads in order, and no fault of host or sink, it is done, or memory runs out.
use Rattle.std.proofs.Common.{◌≡◌, ◌⊎◌, inl, inr, ℕ, ◌≤◌, ◌<◌, true, false, length, subst, Some, IfSome, IsSomeAnd, arith}
use Rattle.fx_base.specs.Causes.{Rose}
use Rattle.fx_base.proofs.Booleans.{never_both}
use Rattle.fx_outside.specs.Host.{HostView}
use Rattle.fx_outside.specs.Sink.{SinkView}
use Rattle.fx_outside.specs.Tree.{Tree, is_file_at, bytes_at}
use Rattle.fx_command.specs.declared.status.Status.{Status}
use Rattle.fx_command.specs.declared.status.Status.TheVariants as status
use Rattle.fx_command.specs.declared.status.TextFault.{TextFault}
use Rattle.fx_command.proofs.Queries.{completes}
use Rattle.fx_command.proofs.Readings.{CannotBeRefused}
use Rattle.fx_inputs.specs.Inputs.{HasInputs}
use Rattle.fx_inputs.proofs.Readings.{inputs_all_read}
use Rattle.fx_commands.specs.declared.auditing.reading.TheConstants.{REPORT_LIMIT}
use Rattle.fx_words.specs.Job.{AuditJob}
use Rattle.fx_commands.specs.Audits.Rows.{audit_query, report_reading, AuditRow, IsTooLarge}

module _ (j : AuditJob) (t : Tree) (host host' : HostView) (is : host.told ≡ Some t) (inputs : HasInputs t j.inputs) (file : is_file_at t j.report ≡ true) (short : length (bytes_at t j.report) ≤ REPORT_LIMIT) (none : Rose host.faults host'.faults → ⊥) where
  not_large : (word : ℕ) (cause : TextFault) → IsTooLarge t j word cause → ⊥
  not_large word cause is = apart (length (bytes_at t j.report)) short is.large.large
    where
      apart : (n : ℕ) → n ≤ REPORT_LIMIT → REPORT_LIMIT < n → ⊥
      apart n short long = omega (arith, short, long)

  not_failed : report_reading j host host' status.ReadFault → ⊥
  not_failed (inl fault) = none fault.0.rose
  not_failed (inr lacks) = never_both (is_file_at t j.report) file (subst (λ o. IsSomeAnd o (λ t. HasInputs t j.inputs × (is_file_at t j.report ≡ false))) is lacks).1

  report_read : CannotBeRefused (report_reading j) host host'
  report_read status.Done why = why
  report_read status.Usage why = why
  report_read (status.TextRefused word cause) why = not_large word cause (subst (λ o. IfSome o (λ t. IsTooLarge t j word cause)) is why)
  report_read (status.FolderRefused cause) why = why
  report_read status.ReadFault why = not_failed why
  report_read status.NotEmpty why = why
  report_read status.WriteFault why = why
  report_read status.NoMemory why = why
  report_read (status.BadJournal place) why = why

  all_read : CannotBeRefused (audit_query j).reads host host'
  all_read st (inl why) = inputs_all_read j.inputs t host host' is inputs none st why
  all_read st (inr why) = report_read st why

  pub audit_completes : (sink sink' : SinkView) (st : Status) → (Rose sink.faults sink'.faults → ⊥) → AuditRow j host host' sink sink' st → (st ≡ status.Done) ⊎ (st ≡ status.NoMemory)
  audit_completes sink sink' st quiet row = completes (audit_query j) host host' sink sink' st all_read quiet row
