use Rattle.fx_zip.proofs.Prelude.{sym, subst, refl, part_of, LeadsTo, step_tree}
use Rattle.fx_steps.proofs.Sessions.{leads_of}
use Rattle.fx_zip.proofs.leading.led.Goals as goal

pub returns-in-First-clause-leads : goal.returns-in-First-clause-leads
returns-in-First-clause-leads g c =
    subst (λ step. LeadsTo g.R.Reader.meaning (step_tree step) c.args.path.now c.args.env.now (part_of c.args.spec.now) c.args.session.now c.args.session.now c.first.result) (sym c.in-First.is)
    (leads_of refl (c.first.ensures.leads c.args.env.now c.args.session.now.steps))

pub returns-in-Inside-clause-leads : goal.returns-in-Inside-clause-leads
returns-in-Inside-clause-leads g c =
    subst (λ step. LeadsTo g.R.Reader.meaning (step_tree step) c.args.path.now c.args.env.now (part_of c.args.spec.now) c.args.session.now c.inside.new.session c.inside.result) (sym c.in-Inside.is)
    (c.inside.ensures.leads c.args.env.now)

pub returns-in-Down-clause-leads : goal.returns-in-Down-clause-leads
returns-in-Down-clause-leads g c =
    subst (λ step. LeadsTo g.R.Reader.meaning (step_tree step) c.args.path.now c.args.env.now (part_of c.args.spec.now) c.args.session.now c.down.new.session c.down.result) (sym c.in-Down.is)
    (leads_of c.down.ensures.still c.down.ensures.leads)

pub returns-in-Elem-clause-leads : goal.returns-in-Elem-clause-leads
returns-in-Elem-clause-leads g c =
    subst (λ step. LeadsTo g.R.Reader.meaning (step_tree step) c.args.path.now c.args.env.now (part_of c.args.spec.now) c.args.session.now c.element.new.session c.element.result) (sym c.in-Elem.is)
    (leads_of c.element.ensures.still c.element.ensures.leads)

pub returns-in-Body-clause-leads : goal.returns-in-Body-clause-leads
returns-in-Body-clause-leads g c =
    subst (λ step. LeadsTo g.R.Reader.meaning (step_tree step) c.args.path.now c.args.env.now (part_of c.args.spec.now) c.args.session.now c.body.new.session c.body.result) (sym c.in-Body.is)
    (leads_of c.body.ensures.still c.body.ensures.leads)
