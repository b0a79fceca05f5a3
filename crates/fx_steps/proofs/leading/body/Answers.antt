use Rattle.fx_steps.proofs.Prelude.{◌≡◌, Ok, Err, sym, ap, ◌∙◌, subst, IsErrAnd, Refusal, Bindings, part_of, inner_names, names_answer}
use Rattle.fx_steps.proofs.Leads.{given_some, given_none, given_stop, body_refused, body_leads, body_none, body_form}
use Rattle.fx_steps.proofs.leading.body.Goals as goal

pub returns-in_err-names-in-Some-clause-leads : goal.returns-in_err-names-in-Some-clause-leads
returns-in_err-names-in-Some-clause-leads g c =
    body_refused c.args.path.now c.args.env.now (part_of c.args.spec.now) c.in-Some.args.now c.in-Some.params.now (part_of c.in-Some.field-0-2) c.in-Some.ensures.form c.args.session.now.steps c.names_of.new.session.steps c.names_of.ensures.most c.from_residual.result
    (subst (λ why. IsErrAnd c.from_residual.result (λ d. d ≡ why))
    (given_stop (λ (names : Bindings). names) (names_answer (inner_names c.args.env.now c.in-Some.params.now c.in-Some.args.now)) c.names_of.result c.in_err-names-in-Some.field-0.0 c.names_of.ensures.names c.in_err-names-in-Some.ensures)
    c.from_residual.ensures.1)

pub returns-in_err-body_spot-in-Some-2-clause-leads : goal.returns-in_err-body_spot-in-Some-2-clause-leads
returns-in_err-body_spot-in-Some-2-clause-leads g c =
    body_refused c.args.path.now c.args.env.now (part_of c.args.spec.now) c.in-Some.args.now c.in-Some.params.now (part_of c.in-Some.field-0-2) c.in-Some.ensures.form c.args.session.now.steps c.names_of.new.session.steps c.names_of.ensures.most c.from_residual-in_err-body_spot-in-Some-2.result
    c.from_residual-in_err-body_spot-in-Some-2.ensures.1

pub returns-in_ok-body_spot-in-Some-2-clause-leads : goal.returns-in_ok-body_spot-in-Some-2-clause-leads
returns-in_ok-body_spot-in-Some-2-clause-leads g c =
    body_leads c.args.path.now c.args.env.now (part_of c.args.spec.now) c.in-Some.args.now c.in-Some.params.now (part_of c.in-Some.field-0-2) c.in-Some.ensures.form c.args.session.now.steps c.names_of.new.session.steps c.names_of.ensures.most c.in-Some-2.names
    c.in_ok-body_spot-in-Some-2.field-0
    (given_some (λ (names : Bindings). names) (names_answer (inner_names c.args.env.now c.in-Some.params.now c.in-Some.args.now)) c.names_of.result c.in-Some-2.names c.names_of.ensures.names (ap Ok (sym c.in-Some-2.is) ∙ c.in_ok-names-in-Some.ensures))
    c.in_ok-body_spot-in-Some-2.ensures

pub returns-in-None-2-clause-leads : goal.returns-in-None-2-clause-leads
returns-in-None-2-clause-leads g c =
    let none : (f : Refusal) × (names_answer (inner_names c.args.env.now c.in-Some.params.now c.in-Some.args.now) ≡ Err f) =
    given_none (λ (names : Bindings). names) (names_answer (inner_names c.args.env.now c.in-Some.params.now c.in-Some.args.now)) c.names_of.result c.names_of.ensures.names (ap Ok (sym c.in-None-2.is) ∙ c.in_ok-names-in-Some.ensures) in
    body_none c.args.path.now c.args.env.now (part_of c.args.spec.now) c.in-Some.args.now c.in-Some.params.now (part_of c.in-Some.field-0-2) c.in-Some.ensures.form c.args.session.now.steps c.names_of.new.session.steps c.names_of.ensures.most none.0 none.1

pub returns-in-None-clause-leads : goal.returns-in-None-clause-leads
returns-in-None-clause-leads g c = body_form c.args.path.now c.args.env.now (part_of c.args.spec.now) c.args.session.now.steps c.in-None.ensures.form
