use Rattle.fx_outside.proofs.Views.{asks_both}
use Rattle.fx_base.proofs.Errors.{if_err_of}
use Rattle.fx_words.specs.JobOf.{asked_show}
use Rattle.fx_inputs.specs.Reads.{LetsInputs}
use Rattle.fx_commands.specs.Shows.Rows.{ShowEndsAs}
use Rattle.fx_commands.proofs.Shows.Showing.{not_described, showing_before, show_ends_before}
use Rattle.fx_commands.proofs.showing.command.output_of.Goals as goal

pub returns-in_err-spec-clause-ends : goal.returns-in_err-spec-clause-ends
returns-in_err-spec-clause-ends g c =
    let j = asked_show c.args.job.now in
    let a = g.H.Host.view c.args.host.now in
    let b = g.H.Host.view c.read_description.new.host in
    let status = c.in_err-spec.field-0.0 in
    if_err_of (ShowEndsAs j a b) c.from_residual.result status c.from_residual.ensures.1 (not_described j a b status c.in_err-spec.ensures.same c.in_err-spec.ensures.ends)

pub returns-clause-shows : goal.returns-clause-shows
returns-clause-shows g c =
    showing_before (asked_show c.args.job.now) (g.H.Host.view c.args.host.now) (g.H.Host.view c.read_description.new.host) c.output_by-output.result c.in_ok-spec.ensures.same c.output_by-output.ensures.shows

pub returns-clause-ends : goal.returns-clause-ends
returns-clause-ends g c =
    show_ends_before (asked_show c.args.job.now) (g.H.Host.view c.args.host.now) (g.H.Host.view c.read_description.new.host) (g.H.Host.view c.output_by-output.new.host) c.output_by-output.result c.in_ok-spec.ensures.same c.output_by-output.ensures.ends

pub returns-clause-fit : goal.returns-clause-fit
returns-clause-fit g c =
    asks_both (λ guard. LetsInputs guard.may_read (asked_show c.args.job.now)) (g.H.Host.view c.args.host.now) (g.H.Host.view c.read_description.new.host) (g.H.Host.view c.output_by-output.new.host) (λ lets. c.in_ok-spec.ensures.fit lets.spec) c.output_by-output.ensures.fit
