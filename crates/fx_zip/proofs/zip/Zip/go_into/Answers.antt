use Rattle.fx_zip.proofs.Prelude.{Ok, Err, refl, go_into, from_place, part_of, own_at, place_evals, option_copied, ap, sym, ◌∙◌, entered, step_tree}
use Rattle.fx_steps.specs.Spots.{inner_entry}
use Rattle.fx_zip.proofs.Places.{moves_unfound, here_scope, kept_here, enters_here, moved_in, moved_memory, moved_not}
use Rattle.fx_zip.proofs.zip.Zip.go_into.Goals as goal

pub returns-in_err-find : goal.returns-in_err-find
returns-in_err-find g c = record {
  moves =
      moves_unfound g.R.Reader.meaning c.args.self.now c.find.new.self c.args.session.now c.find.new.session (λ at. go_into c.args.self.now.address at.path at.env at.spec) (from_place c.args.self.now.root c.args.self.now.address go_into) refl (place_evals c.args.self.now (λ at. go_into c.args.self.now.address at.path at.env at.spec)) c.in_err-find.field-0.0 c.from_residual.result c.from_residual.ensures.1 c.in_err-find.ensures;
}

pub into-requires : goal.into-requires
into-requires g c = record { described = here_scope (g.R.Reader.meaning.reads c.find.new.session.reader.now) (own_at c.find.new.session.own) c.find.new.self c.path.result.now c.env.result.now (part_of c.spec.result) c.path.ensures c.env.ensures c.spec.ensures.part c.spec.ensures.described c.in_ok-find.ensures.stands; kept = kept_here (g.R.Reader.meaning.reads c.find.new.session.reader.now) (own_at c.find.new.session.own) c.find.new.self c.env.result.now (part_of c.spec.result) (option_copied c.kept.result) c.env.ensures c.spec.ensures.part c.kept.ensures c.in_ok-find.ensures.stands }

pub returns-in_err-inner : goal.returns-in_err-inner
returns-in_err-inner g c = record {
  moves = moved_not g.R.Reader.meaning c.args.self.now c.find.new.self c.args.session.now c.find.new.session c.into.new.session c.in_ok-find.ensures go_into c.in_err-inner.field-0.0 c.from_residual-in_err-inner.result (enters_here (g.R.Reader.meaning.reads c.find.new.session.reader.now) (own_at c.find.new.session.own) c.find.new.self c.path.result.now c.env.result.now (part_of c.spec.result) c.path.ensures c.env.ensures c.spec.ensures.part go_into (Err c.in_err-inner.field-0.0) g.R.Reader.meaning c.find.new.session c.into.new.session c.in_err-inner.ensures.enters) c.from_residual-in_err-inner.ensures.1;
}

pub returns-in_err-enter_inner : goal.returns-in_err-enter_inner
returns-in_err-enter_inner g c = record {
  moves = moved_memory g.R.Reader.meaning c.args.self.now c.find.new.self c.args.session.now c.find.new.session c.into.new.session c.in_ok-find.ensures go_into (inner_entry c.path.result.now c.in_ok-inner.inner) c.enter_inner.new.self c.from_residual-in_err-enter_inner.result (enters_here (g.R.Reader.meaning.reads c.find.new.session.reader.now) (own_at c.find.new.session.own) c.find.new.self c.path.result.now c.env.result.now (part_of c.spec.result) c.path.ensures c.env.ensures c.spec.ensures.part go_into (Ok (inner_entry c.path.result.now c.in_ok-inner.inner)) g.R.Reader.meaning c.find.new.session c.into.new.session c.in_ok-inner.ensures.enters) c.in_err-enter_inner.ensures.root c.from_residual-in_err-enter_inner.ensures.1;
}

pub returns : goal.returns
returns g c = record {
  moves = moved_in g.R.Reader.meaning c.args.self.now c.find.new.self c.args.session.now c.find.new.session c.into.new.session c.in_ok-find.ensures go_into (inner_entry c.path.result.now c.in_ok-inner.inner) c.enter_inner.new.self (enters_here (g.R.Reader.meaning.reads c.find.new.session.reader.now) (own_at c.find.new.session.own) c.find.new.self c.path.result.now c.env.result.now (part_of c.spec.result) c.path.ensures c.env.ensures c.spec.ensures.part go_into (Ok (inner_entry c.path.result.now c.in_ok-inner.inner)) g.R.Reader.meaning c.find.new.session c.into.new.session c.in_ok-inner.ensures.enters) (c.in_ok-enter_inner.ensures.entered ∙ ap (λ q. entered c.find.new.self (step_tree (inner_entry q c.in_ok-inner.inner).step) (inner_entry q c.in_ok-inner.inner).spot) (sym c.path.ensures));
}
