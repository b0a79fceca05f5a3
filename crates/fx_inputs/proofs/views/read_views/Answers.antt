use Rattle.fx_base.proofs.Errors.{if_err_of}
use Rattle.fx_words.specs.JobOf.{asked_views}
use Rattle.fx_inputs.specs.Views.{ViewsReadRow}
use Rattle.fx_inputs.proofs.ViewsRows.{views_alone, views_unread}
use Rattle.fx_inputs.proofs.views.read_views.Goals as goal

pub returns-in_err-script-clause-ends : goal.returns-in_err-script-clause-ends
returns-in_err-script-clause-ends g c =
    let j = asked_views c.args.job.now in
    let a = g.H.Host.view c.args.host.now in
    let b = g.H.Host.view c.read_script_at.new.host in
    let status = c.in_err-script.field-0.0 in
    if_err_of (ViewsReadRow j a b) c.from_residual.result status c.from_residual.ensures.1 (views_unread j a b status c.requires c.in_err-script.ensures.ends)

pub returns-clause-read : goal.returns-clause-read
returns-clause-read g c =
    views_alone (asked_views c.args.job.now) (g.H.Host.view c.args.host.now) c.in_ok-script.script c.in_ok-plan.plan c.in_ok-plan.ensures c.in_ok-script.ensures.read
