use Rattle.fx_zip.proofs.Prelude.{Ok, Err, refl, go_to, from_place, part_of, own_at, place_evals, option_copied, path_of}
use Rattle.fx_steps.specs.Spots.{chosen_entry}
use Rattle.fx_zip.proofs.Places.{moves_unfound, here_scope, kept_here, enters_here, moved_in, moved_memory, moved_not}
use Rattle.fx_steps.proofs.Sessions.{enters_of}
use Rattle.fx_zip.proofs.zip.Zip.go_to.Goals as goal

pub returns-in_err-find : goal.returns-in_err-find
returns-in_err-find g c = record {
  moves =
      moves_unfound g.R.Reader.meaning c.args.self.now c.find.new.self c.args.session.now c.find.new.session (λ at. go_to c.args.text.now c.args.self.now.address at.path at.env at.spec) (from_place c.args.self.now.root c.args.self.now.address (go_to c.args.text.now)) refl (place_evals c.args.self.now (λ at. go_to c.args.text.now c.args.self.now.address at.path at.env at.spec)) c.in_err-find.field-0.0 c.from_residual.result c.from_residual.ensures.1 c.in_err-find.ensures;
}

pub to-requires : goal.to-requires
to-requires g c = record { described = here_scope (g.R.Reader.meaning.reads c.find.new.session.reader.now) (own_at c.find.new.session.own) c.find.new.self (path_of c.find.new.self.frames) c.env.result.now (part_of c.spec.result) refl c.env.ensures c.spec.ensures.part c.spec.ensures.described c.in_ok-find.ensures.stands; kept = kept_here (g.R.Reader.meaning.reads c.find.new.session.reader.now) (own_at c.find.new.session.own) c.find.new.self c.env.result.now (part_of c.spec.result) (option_copied c.kept.result) c.env.ensures c.spec.ensures.part c.kept.ensures c.in_ok-find.ensures.stands }

pub returns-in_err-chosen : goal.returns-in_err-chosen
returns-in_err-chosen g c = record {
  moves = moved_not g.R.Reader.meaning c.args.self.now c.find.new.self c.args.session.now c.find.new.session c.to.new.session c.in_ok-find.ensures (go_to c.args.text.now) c.in_err-chosen.field-0.0 c.from_residual-in_err-chosen.result (enters_here (g.R.Reader.meaning.reads c.find.new.session.reader.now) (own_at c.find.new.session.own) c.find.new.self (path_of c.find.new.self.frames) c.env.result.now (part_of c.spec.result) refl c.env.ensures c.spec.ensures.part (go_to c.args.text.now) (Err c.in_err-chosen.field-0.0) g.R.Reader.meaning c.find.new.session c.to.new.session (enters_of c.in_err-chosen.ensures.still (c.in_err-chosen.ensures.enters (path_of c.find.new.self.frames)))) c.from_residual-in_err-chosen.ensures.1;
}

pub returns-in_err-enter_chosen : goal.returns-in_err-enter_chosen
returns-in_err-enter_chosen g c = record {
  moves = moved_memory g.R.Reader.meaning c.args.self.now c.find.new.self c.args.session.now c.find.new.session c.to.new.session c.in_ok-find.ensures (go_to c.args.text.now) (chosen_entry (path_of c.find.new.self.frames) c.in_ok-chosen.chosen) c.enter_chosen.new.self c.from_residual-in_err-enter_chosen.result (enters_here (g.R.Reader.meaning.reads c.find.new.session.reader.now) (own_at c.find.new.session.own) c.find.new.self (path_of c.find.new.self.frames) c.env.result.now (part_of c.spec.result) refl c.env.ensures c.spec.ensures.part (go_to c.args.text.now) (Ok (chosen_entry (path_of c.find.new.self.frames) c.in_ok-chosen.chosen)) g.R.Reader.meaning c.find.new.session c.to.new.session (enters_of c.in_ok-chosen.ensures.still (c.in_ok-chosen.ensures.enters (path_of c.find.new.self.frames)))) c.in_err-enter_chosen.ensures.root c.from_residual-in_err-enter_chosen.ensures.1;
}

pub returns : goal.returns
returns g c = record {
  moves = moved_in g.R.Reader.meaning c.args.self.now c.find.new.self c.args.session.now c.find.new.session c.to.new.session c.in_ok-find.ensures (go_to c.args.text.now) (chosen_entry (path_of c.find.new.self.frames) c.in_ok-chosen.chosen) c.enter_chosen.new.self (enters_here (g.R.Reader.meaning.reads c.find.new.session.reader.now) (own_at c.find.new.session.own) c.find.new.self (path_of c.find.new.self.frames) c.env.result.now (part_of c.spec.result) refl c.env.ensures c.spec.ensures.part (go_to c.args.text.now) (Ok (chosen_entry (path_of c.find.new.self.frames) c.in_ok-chosen.chosen)) g.R.Reader.meaning c.find.new.session c.to.new.session (enters_of c.in_ok-chosen.ensures.still (c.in_ok-chosen.ensures.enters (path_of c.find.new.self.frames)))) c.in_ok-enter_chosen.ensures.entered;
}
