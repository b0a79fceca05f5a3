use Rattle.fx_spec.specs.Bases.{base_tree}
use Rattle.fx_words.specs.JobOf.{asked_audit}
use Rattle.fx_inputs.proofs.Stages.{has_inputs_told}
use Rattle.fx_commands.proofs.Audits.Auditing.{auditing}
use Rattle.fx_commands.proofs.auditing.command.line_by.Goals as goal

pub read_report-requires : goal.read_report-requires
read_report-requires g c = has_inputs_told (asked_audit c.args.job.now).inputs (base_tree c.args.base.value) (g.H.Host.view c.args.host.now).told c.requires

pub returns-clause-said : goal.returns-clause-said
returns-clause-said g c =
    auditing (asked_audit c.args.job.now) (base_tree c.args.base.value) c.in-Ok.bytes.items c.deref.result.now c.in_ok-verdict.verdict c.in_ok-line.line.items (g.H.Host.view c.args.host.now) c.deref.ensures.value
    c.requires c.in-Ok.ensures.read c.in_ok-verdict.ensures.verdict c.in_ok-verdict.ensures.exact c.in_ok-line.ensures
