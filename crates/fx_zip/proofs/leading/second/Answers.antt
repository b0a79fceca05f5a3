use Rattle.fx_zip.proofs.Prelude.{part_of}
use Rattle.fx_zip.proofs.Seconds.{second_leads, second_form}
use Rattle.fx_zip.proofs.leading.second.Goals as goal

pub returns-in-Some-clause-leads : goal.returns-in-Some-clause-leads
returns-in-Some-clause-leads g c =
    second_leads g.R.Reader.meaning c.args.path.now c.args.env.now c.args.session.now c.after_first.new.session (part_of c.args.spec.now) c.in-Some.name.now (part_of c.in-Some.first) (part_of c.in-Some.field-0-2) c.in-Some.ensures.form c.after_first.result c.after_first.ensures.follows c.after_first.ensures.spot

pub returns-in-None-clause-leads : goal.returns-in-None-clause-leads
returns-in-None-clause-leads g c = second_form g.R.Reader.meaning c.args.path.now c.args.env.now c.args.session.now (part_of c.args.spec.now) c.in-None.ensures.form
