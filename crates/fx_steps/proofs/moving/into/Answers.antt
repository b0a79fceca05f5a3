use Rattle.fx_steps.proofs.Prelude.{Ok, as_entry, inner_entry, refl, subst, option_copied, SpecTree, part_of, HasScope}
use Rattle.fx_steps.proofs.Arguments.{call_shapes, last_shapes}
use Rattle.fx_steps.proofs.Entering.{enters_form, first_enters, none_from, kept_set}
use Rattle.fx_steps.specs.declared.frame.Inner.TheVariants as inner
use Rattle.fx_steps.proofs.Sessions.{enters_of}
use Rattle.fx_steps.proofs.moving.into.Goals as goal

pub returns-in-Pair : goal.returns-in-Pair
returns-in-Pair g c = record {
  enters =
      enters_form g.R.Reader.meaning c.args.path.now c.args.env.now (part_of c.args.spec.now) (SpecTree.pair c.in-Pair.field-0.now (part_of c.in-Pair.field-1) (part_of c.in-Pair.field-2)) c.args.session.now c.args.session.now (Ok (inner_entry c.args.path.now inner.First)) c.in-Pair.ensures.form
      (enters_of refl (first_enters c.args.path.now c.args.env.now c.in-Pair.field-0.now (part_of c.in-Pair.field-1) (part_of c.in-Pair.field-2) c.args.session.now.steps));
}

pub returns-in-Comp : goal.returns-in-Comp
returns-in-Comp g c = record {
  enters =
      enters_form g.R.Reader.meaning c.args.path.now c.args.env.now (part_of c.args.spec.now) (SpecTree.comp (part_of c.in-Comp.field-0) c.in-Comp.name.now c.in-Comp.set.now) c.args.session.now c.least.new.session (as_entry (inner_entry c.args.path.now) c.least.result) c.in-Comp.ensures.form
      (enters_of c.least.ensures.still (c.least.ensures.enters c.args.path.now (part_of c.in-Comp.field-0)));
}

pub returns-in-Opt : goal.returns-in-Opt
returns-in-Opt g c = record {
  enters =
      enters_form g.R.Reader.meaning c.args.path.now c.args.env.now (part_of c.args.spec.now) (SpecTree.opt (part_of c.in-Opt.field-0)) c.args.session.now c.inside.new.session (as_entry (inner_entry c.args.path.now) c.inside.result) c.in-Opt.ensures.form
      (c.inside.ensures.enters c.args.env.now (part_of c.in-Opt.field-0));
}

pub returns-in-Call : goal.returns-in-Call
returns-in-Call g c = record {
  enters =
      enters_form g.R.Reader.meaning c.args.path.now c.args.env.now (part_of c.args.spec.now) (SpecTree.call c.in-Call.args.now c.in-Call.params.now (part_of c.in-Call.field-2)) c.args.session.now c.body.new.session (as_entry (inner_entry c.args.path.now) c.body.result) c.in-Call.ensures.form
      (enters_of c.body.ensures.still (c.body.ensures.enters c.args.path.now (part_of c.in-Call.field-2)));
}

pub returns-in-Last : goal.returns-in-Last
returns-in-Last g c = record {
  enters =
      enters_form g.R.Reader.meaning c.args.path.now c.args.env.now (part_of c.args.spec.now) (SpecTree.last c.in-Last.args.now c.in-Last.ensures.form.0) c.args.session.now c.too_unfolded.new.session (as_entry (inner_entry c.args.path.now) c.too_unfolded.result) c.in-Last.ensures.form.1
      (enters_of c.too_unfolded.ensures.still (c.too_unfolded.ensures.enters c.args.path.now c.in-Last.ensures.form.0));
}

pub returns-in-File : goal.returns-in-File
returns-in-File g c = record {
  enters =
      enters_of refl (none_from c.args.path.now c.args.env.now (part_of c.args.spec.now) _ c.args.session.now.steps c.in-File.ensures.form (λ a. refl));
}

pub returns-in-Dir : goal.returns-in-Dir
returns-in-Dir g c = record {
  enters =
      enters_of refl (none_from c.args.path.now c.args.env.now (part_of c.args.spec.now) _ c.args.session.now.steps c.in-Dir.ensures.form (λ a. refl));
}

pub returns-in-Link : goal.returns-in-Link
returns-in-Link g c = record {
  enters =
      enters_of refl (none_from c.args.path.now c.args.env.now (part_of c.args.spec.now) _ c.args.session.now.steps c.in-Link.ensures.form (λ a. refl));
}

pub returns-in-Focus : goal.returns-in-Focus
returns-in-Focus g c = record {
  enters =
      enters_of refl (none_from c.args.path.now c.args.env.now (part_of c.args.spec.now) _ c.args.session.now.steps c.in-Focus.ensures.form (λ a. refl));
}

pub returns-in-Pred : goal.returns-in-Pred
returns-in-Pred g c = record {
  enters =
      enters_of refl (none_from c.args.path.now c.args.env.now (part_of c.args.spec.now) _ c.args.session.now.steps c.in-Pred.ensures.form (λ a. refl));
}

pub least-requires-clause-kept : goal.least-requires-clause-kept
least-requires-clause-kept g c = kept_set (option_copied c.args.kept) c.args.env.now (part_of c.args.spec.now) (part_of c.in-Comp.field-0) c.in-Comp.name.now c.in-Comp.set.now c.in-Comp.ensures.form c.requires.kept

pub body-requires : goal.body-requires
body-requires g c = record { shaped = call_shapes c.args.env.now c.in-Call.args.now c.in-Call.params.now (part_of c.in-Call.field-2) (subst (HasScope c.args.env.now) c.in-Call.ensures.form c.requires.described) }

pub too_unfolded-requires : goal.too_unfolded-requires
too_unfolded-requires g c = record { shaped = last_shapes c.args.env.now c.in-Last.args.now c.in-Last.ensures.form.0 (subst (HasScope c.args.env.now) c.in-Last.ensures.form.1 c.requires.described) }
