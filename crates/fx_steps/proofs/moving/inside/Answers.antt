use Rattle.fx_steps.proofs.Prelude.{length, ap, refl, ◌∙◌, as_entry, inner_entry}
use Rattle.fx_steps.specs.declared.frame.Inner.TheVariants as inner
use Rattle.fx_steps.proofs.Consulting.{entry_stops, entry_inside, entry_lacks}
use Rattle.fx_steps.proofs.Entering.{as_err}
use Rattle.fx_session.specs.declared.halt.Halt.TheVariants as halt
use Rattle.fx_steps.proofs.moving.inside.Goals as goal

pub returns-in_err-exists : goal.returns-in_err-exists
returns-in_err-exists g c = record {
  enters = λ env part.
      let entry = inner_entry c.args.path.now in
      entry_stops g.R.Reader.meaning c.args.path.now env c.args.session.now c.exists.new.session part c.in_err-exists.field-0.0 (as_entry entry c.from_residual.result) (as_err entry c.from_residual.result (halt.Stopped c.in_err-exists.field-0.0) c.from_residual.ensures.1) c.in_err-exists.ensures.follows;
}

pub returns-then-branch : goal.returns-then-branch
returns-then-branch g c = record {
  enters = λ env part.
      entry_inside g.R.Reader.meaning c.args.path.now env c.args.session.now c.exists.new.session part c.in_ok-exists.field-0 (inner_entry c.args.path.now (inner.Inside c.len.result)) c.if-branch.true refl refl refl (c.len.ensures.len ∙ ap length c.reads.ensures) c.in_ok-exists.ensures.follows;
}

pub returns-else-branch : goal.returns-else-branch
returns-else-branch g c = record {
  enters = λ env part.
      entry_lacks g.R.Reader.meaning c.args.path.now env c.args.session.now c.exists.new.session part c.in_ok-exists.field-0 c.if-branch.false c.in_ok-exists.ensures.follows;
}
