use Rattle.fx_zip.proofs.Prelude.{Ok, Err, refl, subst, option_map, Answer, tree_of, Refusal, value, needed, part_of, stop_halts, Implements, then_answers}
use Rattle.fx_zip.proofs.fetching.value_at.Goals as goal

pub returns-in_err-value-clause-follows : goal.returns-in_err-value-clause-follows
returns-in_err-value-clause-follows g c =
    stop_halts (value c.args.path.now c.args.env.now (part_of c.args.spec.now)) (λ v. Answer (needed Refusal.Lacks v)) c.from_residual.result c.from_residual.ensures.1 c.in_err-value.ensures.follows

pub returns-in-Some-clause-follows : goal.returns-in-Some-clause-follows
returns-in-Some-clause-follows g c =
    then_answers (value c.args.path.now c.args.env.now (part_of c.args.spec.now)) (λ v. Answer (needed Refusal.Lacks v)) (Ok c.in-Some.value) (subst (λ o. Implements g.R.Reader.meaning (option_map tree_of) c.args.session.now c.value_in.new.session (value c.args.path.now c.args.env.now (part_of c.args.spec.now)) (Ok o)) c.in-Some.is c.in_ok-value.ensures.follows) refl

pub returns-in-None-clause-follows : goal.returns-in-None-clause-follows
returns-in-None-clause-follows g c =
    then_answers (value c.args.path.now c.args.env.now (part_of c.args.spec.now)) (λ v. Answer (needed Refusal.Lacks v)) (Err Refusal.Lacks) (subst (λ o. Implements g.R.Reader.meaning (option_map tree_of) c.args.session.now c.value_in.new.session (value c.args.path.now c.args.env.now (part_of c.args.spec.now)) (Ok o)) c.in-None.is c.in_ok-value.ensures.follows) refl
