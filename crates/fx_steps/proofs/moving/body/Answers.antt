use Rattle.fx_steps.proofs.Prelude.{◌≡◌, Ok, refl, as_entry, inner_entry, inner_names, names_answer}
use Rattle.fx_steps.specs.declared.frame.Inner.TheVariants as inner
use Rattle.fx_steps.proofs.Entering.{as_err, body_enters, body_err}
use Rattle.fx_steps.proofs.moving.body.Goals as goal

pub returns-in_err-names_of-clause-enters : goal.returns-in_err-names_of-clause-enters
returns-in_err-names_of-clause-enters g c =
    λ p spec.
    body_err p c.args.env.now c.args.args.now c.args.params.now c.args.session.now.steps c.names_of.new.session.steps c.in_err-names_of.ensures.most spec c.in_err-names_of.field-0.0 (as_entry (inner_entry p) c.from_residual.result) (as_err (inner_entry p) c.from_residual.result c.in_err-names_of.field-0.0 c.from_residual.ensures.1) c.in_err-names_of.ensures.names

pub returns-clause-enters : goal.returns-clause-enters
returns-clause-enters g c =
    λ p spec.
    let names = c.in_ok-names_of.field-0 in
    let answer : names_answer (inner_names c.args.env.now c.args.params.now c.args.args.now) ≡ Ok names = cc (c.in_ok-names_of.ensures.names) in
    body_enters p c.args.env.now c.args.args.now c.args.params.now c.args.session.now.steps c.names_of.new.session.steps c.in_ok-names_of.ensures.most spec names (inner_entry p (inner.Body names)) answer refl (record { path = refl; bound = refl })
