use Rattle.fx_steps.proofs.Prelude.{◌≡◌, Ok, arguments, arguments_tried, as_entry, inner_entry}
use Rattle.fx_steps.proofs.Arguments.{said_all}
use Rattle.fx_steps.proofs.Entering.{as_err, last_refused, last_err}
use Rattle.fx_steps.proofs.moving.too_unfolded.Goals as goal

pub returns-in_err-try_arguments-clause-enters : goal.returns-in_err-try_arguments-clause-enters
returns-in_err-try_arguments-clause-enters g c =
    λ path params.
    last_err path c.args.env.now c.args.args.now params c.args.session.now.steps c.try_arguments.new.session.steps c.in_err-try_arguments.ensures.most c.in_err-try_arguments.field-0.0 (as_entry (inner_entry path) c.from_residual.result) (as_err (inner_entry path) c.from_residual.result c.in_err-try_arguments.field-0.0 c.from_residual.ensures.1) c.in_err-try_arguments.ensures.faults

pub returns-clause-enters : goal.returns-clause-enters
returns-clause-enters g c =
    λ path params.
    let all : arguments_tried (arguments c.args.env.now c.args.args.now) ≡ Ok tt = said_all (arguments_tried (arguments c.args.env.now c.args.args.now)) _ c.in_ok-try_arguments.ensures.faults in
    last_refused path c.args.env.now c.args.args.now params c.args.session.now.steps c.try_arguments.new.session.steps c.in_ok-try_arguments.ensures.most all
