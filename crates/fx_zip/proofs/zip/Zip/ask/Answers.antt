use Rattle.fx_zip.proofs.Prelude.{[], subst, ValueHas, tree_of, IsDescription, asked_at, asked_shape, place_evals}
use Rattle.std.proofs.lemmas.Result.{IfOk-from_err}
use Rattle.fx_zip.proofs.Places.{asks_unfound, asks_on}
use Rattle.fx_zip.proofs.Questions.{question_has}
use Rattle.fx_zip.proofs.zip.Zip.ask.Goals as goal

pub returns-in_err-find : goal.returns-in_err-find
returns-in_err-find g c = record {
  asks = asks_unfound g.R.Reader.meaning tree_of c.args.self.now c.find.new.self c.args.session.now c.find.new.session (asked_at c.args.question.now) (place_evals c.args.self.now (asked_at c.args.question.now)) c.in_err-find.field-0.0 c.in_err-find.ensures c.from_residual.result c.from_residual.ensures.1;
  shape = IfOk-from_err c.from_residual.result (λ value. ValueHas (tree_of value) (asked_shape c.args.question.now)) c.from_residual.ensures.0;
}

pub ask_here-requires : goal.ask_here-requires
ask_here-requires g c = record { stands = c.in_ok-find.ensures.stands }

pub returns : goal.returns
returns g c =
    let asks = asks_on g.R.Reader.meaning c.args.self.now c.find.new.self c.args.session.now c.find.new.session c.in_ok-find.ensures tree_of (asked_at c.args.question.now) c.ask_here.new.self c.ask_here.new.session c.ask_here.result c.ask_here.ensures.same c.ask_here.ensures.follows in
    let described : IsDescription [] c.args.self.now.root = subst (IsDescription []) c.in_ok-find.ensures.root c.ask_here.ensures.described in
    record {
      asks = asks;
      shape = question_has g.R.Reader.meaning c.args.session.now c.ask_here.new.session c.args.self.now.root described c.args.self.now.address c.args.question.now c.ask_here.result c.ask_here.ensures.truth asks.follows;
    }
