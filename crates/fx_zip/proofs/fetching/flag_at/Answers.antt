use Rattle.fx_zip.proofs.Prelude.{true, Ok, Err, refl, subst, option_map, Answer, tree_of, Refusal, content, flag_value, needed, stop_halts, Implements, then_answers}
use Rattle.fx_zip.proofs.fetching.flag_at.Goals as goal

pub returns-in_err-flag : goal.returns-in_err-flag
returns-in_err-flag g c = record {
  follows = stop_halts (content flag_value true c.args.path.now) (λ v. Answer (needed Refusal.Lacks v)) c.from_residual.result c.from_residual.ensures.1 c.in_err-flag.ensures.follows;
}

pub returns-in-Some : goal.returns-in-Some
returns-in-Some g c = record {
  follows = then_answers (content flag_value true c.args.path.now) (λ v. Answer (needed Refusal.Lacks v)) (Ok c.in-Some.flag) (subst (λ o. Implements g.R.Reader.meaning (option_map tree_of) c.args.session.now c.file_flag.new.session (content flag_value true c.args.path.now) (Ok o)) c.in-Some.is c.in_ok-flag.ensures.follows) refl;
}

pub returns-in-None : goal.returns-in-None
returns-in-None g c = record {
  follows = then_answers (content flag_value true c.args.path.now) (λ v. Answer (needed Refusal.Lacks v)) (Err Refusal.Lacks) (subst (λ o. Implements g.R.Reader.meaning (option_map tree_of) c.args.session.now c.file_flag.new.session (content flag_value true c.args.path.now) (Ok o)) c.in-None.is c.in_ok-flag.ensures.follows) refl;
}
