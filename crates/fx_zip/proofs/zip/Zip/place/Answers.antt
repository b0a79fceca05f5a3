use Rattle.fx_zip.proofs.Prelude.{IsDescribedPlace, AreDefined, own_at}
use Rattle.std.proofs.lemmas.Result.{IfOk-from_err}
use Rattle.fx_session.specs.Places.{place_tree}
use Rattle.fx_zip.proofs.Finding.{hands_found, hands_unfound}
use Rattle.fx_zip.proofs.zip.Zip.place.Goals as goal

pub returns-in_err-find : goal.returns-in_err-find
returns-in_err-find g c = record {
  follows = hands_unfound g.R.Reader.meaning c.args.self.now c.find.new.self c.args.session.now c.find.new.session place_tree c.in_err-find.field-0.0 c.from_residual.result c.in_err-find.ensures c.from_residual.ensures.1;
  described = IfOk-from_err c.from_residual.result (λ place. IsDescribedPlace (place_tree place)) c.from_residual.ensures.0;
  defined = IfOk-from_err c.from_residual.result (λ place. AreDefined place.defs.now) c.from_residual.ensures.0;
  most = c.in_err-find.ensures.most;
}

pub returns : goal.returns
returns g c = record {
  follows = hands_found g.R.Reader.meaning c.args.self.now c.find.new.self c.args.session.now c.find.new.session place_tree c.in_ok-find.ensures c.here.result c.here.ensures.place;
  described = c.here.ensures.described (g.R.Reader.meaning.reads c.find.new.session.reader.now) (own_at c.find.new.session.own) c.in_ok-find.ensures.stands;
  defined = c.here.ensures.defined;
  most = c.in_ok-find.ensures.most;
}
