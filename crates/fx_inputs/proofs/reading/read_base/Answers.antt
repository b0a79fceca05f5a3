use Rattle.fx_outside.proofs.Views.{asks_both}
use Rattle.fx_spec.specs.Bases.{base_tree}
use Rattle.fx_words.specs.JobOf.{asked_inputs}
use Rattle.fx_inputs.specs.Inputs.{HasBase}
use Rattle.fx_inputs.specs.Reads.{ReadRow, LetsInputs}
use Rattle.fx_base.proofs.Errors.{if_err_of}
use Rattle.fx_command.proofs.Told.{some_back}
use Rattle.fx_inputs.proofs.ReadRows.{read_row_back, spec_unread}
use Rattle.fx_inputs.proofs.Stages.{base_only}
use Rattle.fx_inputs.proofs.reading.read_base.Goals as goal

pub returns-in_err-description-clause-ends : goal.returns-in_err-description-clause-ends
returns-in_err-description-clause-ends g c =
    let inputs = asked_inputs c.args.inputs.now in
    let a = g.H.Host.view c.args.host.now in
    let b = g.H.Host.view c.read_description.new.host in
    let status = c.in_err-description.field-0.0 in
    if_err_of (ReadRow inputs a b) c.from_residual.result status c.from_residual.ensures.1 (spec_unread inputs a b status c.in_err-description.ensures.ends)

pub returns-in_err-base-clause-ends : goal.returns-in_err-base-clause-ends
returns-in_err-base-clause-ends g c =
    let inputs = asked_inputs c.args.inputs.now in
    let a = g.H.Host.view c.args.host.now in
    let b = g.H.Host.view c.read_description.new.host in
    let d = g.H.Host.view c.read_rest.new.host in
    let status = c.in_err-base.field-0.0 in
    if_err_of (ReadRow inputs a d) c.from_residual-in_err-base.result status c.from_residual-in_err-base.ensures.1
    (read_row_back inputs a b d status c.in_ok-description.ensures.same c.in_err-base.ensures.ends)

pub returns-clause-read : goal.returns-clause-read
returns-clause-read g c =
    some_back (λ t. HasBase t (asked_inputs c.args.inputs.now) (base_tree c.in_ok-base.base.value)) (g.H.Host.view c.args.host.now) (g.H.Host.view c.read_description.new.host) c.in_ok-description.ensures.same c.in_ok-base.ensures.read

pub returns-clause-only : goal.returns-clause-only
returns-clause-only g c =
    base_only (asked_inputs c.args.inputs.now) (base_tree c.in_ok-base.base.value) c.in_ok-description.description (g.H.Host.view c.args.host.now) (g.H.Host.view c.read_description.new.host)
    c.in_ok-description.ensures.same c.in_ok-base.ensures.described c.in_ok-description.ensures.only c.in_ok-base.ensures.only c.in_ok-base.ensures.read

pub returns-in_err-base-clause-fit : goal.returns-in_err-base-clause-fit
returns-in_err-base-clause-fit g c =
    asks_both (λ guard. LetsInputs guard.may_read (asked_inputs c.args.inputs.now)) (g.H.Host.view c.args.host.now) (g.H.Host.view c.read_description.new.host) (g.H.Host.view c.read_rest.new.host) (λ lets. c.in_ok-description.ensures.fit lets.spec) c.in_err-base.ensures.fit

pub returns-clause-fit : goal.returns-clause-fit
returns-clause-fit g c =
    asks_both (λ guard. LetsInputs guard.may_read (asked_inputs c.args.inputs.now)) (g.H.Host.view c.args.host.now) (g.H.Host.view c.read_description.new.host) (g.H.Host.view c.read_rest.new.host) (λ lets. c.in_ok-description.ensures.fit lets.spec) c.in_ok-base.ensures.fit
