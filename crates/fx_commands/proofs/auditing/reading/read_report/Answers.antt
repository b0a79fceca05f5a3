use Rattle.std.proofs.Common.{arith}
use Rattle.fx_base.proofs.Errors.{if_err_of}
use Rattle.fx_command.specs.StatusOf.{read_status}
use Rattle.fx_words.specs.JobOf.{asked_audit}
use Rattle.fx_commands.specs.Audits.Rows.{AuditEndsAs}
use Rattle.fx_commands.proofs.Audits.Auditing.{report_large, report_unread}
use Rattle.fx_commands.proofs.auditing.reading.read_report.Goals as goal

pub returns-in_err-bytes-clause-ends : goal.returns-in_err-bytes-clause-ends
returns-in_err-bytes-clause-ends g c =
    let j = asked_audit c.args.job.now in
    let a = g.H.Host.view c.args.host.now in
    let b = g.H.Host.view c.read_text.new.host in
    let fault = c.in_err-bytes.field-0.0 in
    if_err_of (AuditEndsAs j a b) c.from_residual.result (read_status fault) c.from_residual.ensures.1 (report_unread j a b fault c.in_err-bytes.ensures.same c.requires c.in_err-bytes.ensures.failed)

pub returns-then-len-gt-REPORT_LIMIT-clause-ends : goal.returns-then-len-gt-REPORT_LIMIT-clause-ends
returns-then-len-gt-REPORT_LIMIT-clause-ends g c =
    report_large (asked_audit c.args.job.now) (g.H.Host.view c.args.host.now) (g.H.Host.view c.read_text.new.host) c.in_ok-bytes.bytes.items c.in_ok-bytes.ensures.same c.requires c.in_ok-bytes.ensures.read
    (omega (arith, c.if-len-gt-REPORT_LIMIT.true, c.len.ensures))
