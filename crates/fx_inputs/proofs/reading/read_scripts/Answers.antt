use Rattle.fx_base.proofs.Errors.{if_err_of}
use Rattle.fx_words.specs.JobOf.{asked_inputs}
use Rattle.fx_inputs.specs.Reads.{ReadRow}
use Rattle.fx_inputs.proofs.ReadRows.{scripts_unread}
use Rattle.fx_inputs.proofs.reading.read_scripts.Goals as goal

pub returns-in_err-plan-clause-ends : goal.returns-in_err-plan-clause-ends
returns-in_err-plan-clause-ends g c =
    let inputs = asked_inputs c.args.inputs.now in
    let a = g.H.Host.view c.args.host.now in
    let b = g.H.Host.view c.read_plan.new.host in
    let status = c.in_err-plan.field-0.0 in
    if_err_of (ReadRow inputs a b) c.from_residual.result status c.from_residual.ensures.1 (scripts_unread inputs a b status c.requires.spec c.in_err-plan.ensures.ends)
