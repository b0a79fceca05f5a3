use Rattle.std.proofs.Common.{◌≡◌, true}
use Rattle.fx_base.proofs.Errors.{if_err_of}
use Rattle.fx_spec.specs.Bases.{base_tree}
use Rattle.fx_inputs.specs.Inputs.{HasBase}
use Rattle.fx_inputs.specs.Reads.{LetsInputs}
use Rattle.fx_inputs.proofs.Stages.{then_told}
use Rattle.fx_words.specs.JobOf.{asked_audit}
use Rattle.fx_commands.specs.Audits.Rows.{AuditEndsAs}
use Rattle.fx_commands.proofs.Audits.Auditing.{audit_ends_before, auditing_before, not_read}
use Rattle.fx_outside.proofs.Views.{asks_both}
use Rattle.fx_commands.proofs.auditing.command.line_of.Goals as goal

pub returns-in_err-base-clause-ends : goal.returns-in_err-base-clause-ends
returns-in_err-base-clause-ends g c =
    let j = asked_audit c.args.job.now in
    let a = g.H.Host.view c.args.host.now in
    let b = g.H.Host.view c.read_base.new.host in
    let status = c.in_err-base.field-0.0 in
    if_err_of (AuditEndsAs j a b) c.from_residual.result status c.from_residual.ensures.1 (not_read j a b status c.in_err-base.ensures.same c.in_err-base.ensures.ends)

pub line_by-requires : goal.line_by-requires
line_by-requires g c =
    let j = asked_audit c.args.job.now in
    then_told (λ t. HasBase t j.inputs (base_tree c.in_ok-base.base.value)) (g.H.Host.view c.args.host.now) (g.H.Host.view c.read_base.new.host) c.in_ok-base.ensures.same c.in_ok-base.ensures.read

pub returns-clause-said : goal.returns-clause-said
returns-clause-said g c =
    auditing_before (asked_audit c.args.job.now) (g.H.Host.view c.args.host.now) (g.H.Host.view c.read_base.new.host) (λ line. line.items) c.line_by.result c.in_ok-base.ensures.same c.line_by.ensures.said

pub returns-clause-ends : goal.returns-clause-ends
returns-clause-ends g c =
    audit_ends_before (asked_audit c.args.job.now) (g.H.Host.view c.args.host.now) (g.H.Host.view c.read_base.new.host) (g.H.Host.view c.line_by.new.host) c.line_by.result c.in_ok-base.ensures.same c.line_by.ensures.ends

pub returns-clause-fit : goal.returns-clause-fit
returns-clause-fit g c =
    let j = asked_audit c.args.job.now in
    asks_both (λ guard. LetsInputs guard.may_read j.inputs × (guard.may_read j.report ≡ true)) (g.H.Host.view c.args.host.now) (g.H.Host.view c.read_base.new.host) (g.H.Host.view c.line_by.new.host)
    (λ lets. c.in_ok-base.ensures.fit lets.0) c.line_by.ensures.fit

pub returns-in_err-base-clause-fit : goal.returns-in_err-base-clause-fit
returns-in_err-base-clause-fit g c = λ lets. c.in_err-base.ensures.fit lets.0
