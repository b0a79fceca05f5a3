use Rattle.fx_zip.proofs.Prelude.{◌≡◌, Err, refl, sym, ap, Answer, eval_of, Refusal, fetched, SpecTree, part_of, value_needed, same_rule, answers}
use Rattle.fx_zip.proofs.Questions.{file_fetched, dir_fetched, link_fetched, evaluated_follows}
use Rattle.fx_zip.proofs.fetching.fetched.Goals as goal

pub returns-in-File-clause-follows : goal.returns-in-File-clause-follows
returns-in-File-clause-follows g c =
    let tree : part_of c.args.spec.now ≡ SpecTree.file = c.in-File.ensures.form in
    same_rule (value_needed c.args.path.now c.args.env.now (part_of c.args.spec.now)) (fetched c.args.path.now c.args.env.now (part_of c.args.spec.now)) (file_fetched c.args.path.now c.args.env.now (part_of c.args.spec.now) tree) c.value_at.ensures.follows

pub returns-in-Dir-clause-follows : goal.returns-in-Dir-clause-follows
returns-in-Dir-clause-follows g c =
    let tree : part_of c.args.spec.now ≡ SpecTree.dir = c.in-Dir.ensures.form in
    same_rule (value_needed c.args.path.now c.args.env.now (part_of c.args.spec.now)) (fetched c.args.path.now c.args.env.now (part_of c.args.spec.now)) (dir_fetched c.args.path.now c.args.env.now (part_of c.args.spec.now) tree) c.value_at-in-Dir.ensures.follows

pub returns-in-Link-clause-follows : goal.returns-in-Link-clause-follows
returns-in-Link-clause-follows g c =
    let tree : part_of c.args.spec.now ≡ SpecTree.link = c.in-Link.ensures.form in
    same_rule (value_needed c.args.path.now c.args.env.now (part_of c.args.spec.now)) (fetched c.args.path.now c.args.env.now (part_of c.args.spec.now)) (link_fetched c.args.path.now c.args.env.now (part_of c.args.spec.now) tree) c.value_at-in-Link.ensures.follows

pub returns-in-Focus-clause-follows : goal.returns-in-Focus-clause-follows
returns-in-Focus-clause-follows g c =
    let tree : part_of c.args.spec.now ≡ SpecTree.focus c.in-Focus.text.now (part_of c.in-Focus.field-1) = c.in-Focus.ensures.form in
    evaluated_follows g.R.Reader.meaning c.args.session.now c.evaluate.new.session (eval_of c.args.env.now c.in-Focus.text.now) (fetched c.args.path.now c.args.env.now (part_of c.args.spec.now)) c.evaluate.result (ap (fetched c.args.path.now c.args.env.now) tree) c.evaluate.ensures.value c.evaluate.ensures.tick

pub returns-in-Comp-clause-follows : goal.returns-in-Comp-clause-follows
returns-in-Comp-clause-follows g c =
    let tree : part_of c.args.spec.now ≡ SpecTree.comp (part_of c.in-Comp.field-0) c.in-Comp.field-1.now c.in-Comp.set.now = c.in-Comp.ensures.form in
    evaluated_follows g.R.Reader.meaning c.args.session.now c.evaluate-in-Comp.new.session (eval_of c.args.env.now c.in-Comp.set.now) (fetched c.args.path.now c.args.env.now (part_of c.args.spec.now)) c.evaluate-in-Comp.result (ap (fetched c.args.path.now c.args.env.now) tree) c.evaluate-in-Comp.ensures.value c.evaluate-in-Comp.ensures.tick

pub returns-in-Pred-clause-follows : goal.returns-in-Pred-clause-follows
returns-in-Pred-clause-follows g c =
    let tree : part_of c.args.spec.now ≡ SpecTree.pred c.in-Pred.test.now = c.in-Pred.ensures.form in
    evaluated_follows g.R.Reader.meaning c.args.session.now c.evaluate-in-Pred.new.session (eval_of c.args.env.now c.in-Pred.test.now) (fetched c.args.path.now c.args.env.now (part_of c.args.spec.now)) c.evaluate-in-Pred.result (ap (fetched c.args.path.now c.args.env.now) tree) c.evaluate-in-Pred.ensures.value c.evaluate-in-Pred.ensures.tick

pub returns-in-Opt-clause-follows : goal.returns-in-Opt-clause-follows
returns-in-Opt-clause-follows g c =
    let tree : part_of c.args.spec.now ≡ SpecTree.opt (part_of c.in-Opt.field-0) = c.in-Opt.ensures.form in
    same_rule (fetched c.args.path.now c.args.env.now (SpecTree.opt (part_of c.in-Opt.field-0))) (fetched c.args.path.now c.args.env.now (part_of c.args.spec.now)) (ap (fetched c.args.path.now c.args.env.now) (sym tree)) (c.entry_at.ensures.follows c.args.env.now (part_of c.in-Opt.field-0))

pub returns-in-Pair-clause-follows : goal.returns-in-Pair-clause-follows
returns-in-Pair-clause-follows g c =
    let tree : part_of c.args.spec.now ≡ SpecTree.pair c.in-Pair.field-0.now (part_of c.in-Pair.field-1) (part_of c.in-Pair.field-2) = c.in-Pair.ensures.form in
    same_rule (Answer (Err Refusal.WrongForm)) (fetched c.args.path.now c.args.env.now (part_of c.args.spec.now)) (ap (fetched c.args.path.now c.args.env.now) (sym tree)) (answers (Err Refusal.WrongForm) (Err Refusal.WrongForm) refl)

pub returns-in-Call-clause-follows : goal.returns-in-Call-clause-follows
returns-in-Call-clause-follows g c =
    same_rule (Answer (Err Refusal.WrongForm)) (fetched c.args.path.now c.args.env.now (part_of c.args.spec.now)) (ap (fetched c.args.path.now c.args.env.now) (sym c.in-Call.ensures.form)) (answers (Err Refusal.WrongForm) (Err Refusal.WrongForm) refl)

pub returns-in-Last-clause-follows : goal.returns-in-Last-clause-follows
returns-in-Last-clause-follows g c =
    same_rule (Answer (Err Refusal.WrongForm)) (fetched c.args.path.now c.args.env.now (part_of c.args.spec.now)) (ap (fetched c.args.path.now c.args.env.now) (sym c.in-Last.ensures.form.1)) (answers (Err Refusal.WrongForm) (Err Refusal.WrongForm) refl)
