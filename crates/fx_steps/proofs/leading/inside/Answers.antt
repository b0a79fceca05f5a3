use Rattle.fx_steps.proofs.Prelude.{length, ap, part_of, ◌∙◌}
use Rattle.fx_steps.proofs.Consulting.{inside_stops, inside_memory, inside_leads, inside_none, inside_form}
use Rattle.fx_steps.proofs.leading.inside.Goals as goal

pub returns-in_err-exists-in-Some : goal.returns-in_err-exists-in-Some
returns-in_err-exists-in-Some g c = record {
  leads = λ env.
      inside_stops g.R.Reader.meaning c.args.path.now env c.args.session.now c.exists.new.session (part_of c.args.spec.now) (part_of c.in-Some.field-0) c.in-Some.ensures.form c.in_err-exists-in-Some.field-0.0 c.from_residual.result c.from_residual.ensures.1 c.in_err-exists-in-Some.ensures.follows;
}

pub returns-in_err-copy-in-Some : goal.returns-in_err-copy-in-Some
returns-in_err-copy-in-Some g c = record {
  leads = λ env.
      inside_memory g.R.Reader.meaning c.args.path.now env c.args.session.now c.exists.new.session (part_of c.args.spec.now) (part_of c.in-Some.field-0) c.in-Some.ensures.form c.in_ok-exists-in-Some.field-0 c.from_residual-in_err-copy-in-Some.result c.from_residual-in_err-copy-in-Some.ensures.1 c.in_ok-exists-in-Some.ensures.follows;
}

pub returns-in_ok-copy-in-Some : goal.returns-in_ok-copy-in-Some
returns-in_ok-copy-in-Some g c = record {
  leads = λ env.
      inside_leads g.R.Reader.meaning c.args.path.now env c.args.session.now c.exists.new.session (part_of c.args.spec.now) (part_of c.in-Some.field-0) c.in-Some.ensures.form c.in_ok-exists-in-Some.field-0 c.spot_at.result c.if-branch.true (c.spot_at.ensures.path ∙ c.in_ok-copy-in-Some.ensures.copied) c.spot_at.ensures.bound (c.spot_at.ensures.reads ∙ c.len.ensures.len ∙ ap length c.reads.ensures) c.in_ok-exists-in-Some.ensures.follows;
}

pub returns-else-branch : goal.returns-else-branch
returns-else-branch g c = record {
  leads = λ env.
      inside_none g.R.Reader.meaning c.args.path.now env c.args.session.now c.exists.new.session (part_of c.args.spec.now) (part_of c.in-Some.field-0) c.in-Some.ensures.form c.in_ok-exists-in-Some.field-0 c.if-branch.false c.in_ok-exists-in-Some.ensures.follows;
}

pub returns-in-None : goal.returns-in-None
returns-in-None g c = record { leads = λ env. inside_form g.R.Reader.meaning c.args.path.now env c.args.session.now (part_of c.args.spec.now) c.in-None.ensures.form }
