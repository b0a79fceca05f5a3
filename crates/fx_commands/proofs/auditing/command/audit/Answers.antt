use Rattle.std.proofs.Common.{sym, subst}
use Rattle.fx_base.proofs.Errors.{err_of}
use Rattle.fx_command.specs.declared.status.Status.TheVariants as status
use Rattle.fx_command.specs.Saved.{Prints, PrintsPart}
use Rattle.fx_command.specs.StatusOf.{status_of}
use Rattle.fx_words.specs.JobOf.{asked_audit}
use Rattle.fx_commands.specs.Audits.Rows.{AuditRow}
use Rattle.fx_commands.proofs.Audits.Auditing.{audit_done, audit_unprinted}
use Rattle.fx_commands.proofs.auditing.command.audit.Goals as goal

pub returns-in_err-line-clause-row : goal.returns-in_err-line-clause-row
returns-in_err-line-clause-row g c =
    let a = g.H.Host.view c.args.host.now in
    let b = g.H.Host.view c.line_of.new.host in
    let sink = g.S.Sink.view c.args.out.now in
    let is = err_of c.from_residual.result c.in_err-line.field-0.0 c.from_residual.ensures.1 in
    subst (λ r. AuditRow (asked_audit c.args.job.now) a b sink sink (status_of r)) (sym is) (c.in_err-line.ensures.ends sink)

pub returns-in_err-print_all-clause-row : goal.returns-in_err-print_all-clause-row
returns-in_err-print_all-clause-row g c =
    let j = asked_audit c.args.job.now in
    let a = g.H.Host.view c.args.host.now in
    let b = g.H.Host.view c.line_of.new.host in
    let sink = g.S.Sink.view c.args.out.now in
    let sink' = g.S.Sink.view c.print_all.new.out in
    let is = err_of c.from_residual-in_err-print_all.result status.WriteFault c.from_residual-in_err-print_all.ensures.1 in
    subst (λ r. AuditRow j a b sink sink' (status_of r)) (sym is)
    (audit_unprinted j c.in_ok-line.line.items a b sink sink' c.in_ok-line.ensures.same c.in_ok-line.ensures.said
    (subst (λ b. PrintsPart b sink sink') c.deref.ensures.value c.in_err-print_all.ensures.front) c.in_err-print_all.ensures.cause.failed)

pub returns-clause-row : goal.returns-clause-row
returns-clause-row g c =
    let a = g.H.Host.view c.args.host.now in
    let b = g.H.Host.view c.line_of.new.host in
    let sink = g.S.Sink.view c.args.out.now in
    let sink' = g.S.Sink.view c.print_all.new.out in
    audit_done (asked_audit c.args.job.now) c.in_ok-line.line.items a b sink sink' c.in_ok-line.ensures.same c.in_ok-line.ensures.said
    (subst (λ b. Prints b sink sink') c.deref.ensures.value c.in_ok-print_all.ensures.written)
