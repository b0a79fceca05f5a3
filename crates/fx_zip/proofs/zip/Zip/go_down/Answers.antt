use Rattle.fx_zip.proofs.Prelude.{Ok, Err, refl, go_down, from_place, part_of, own_at, place_evals}
use Rattle.fx_steps.specs.Spots.{down_entry}
use Rattle.fx_zip.proofs.Places.{moves_unfound, here_scope, enters_here, moved_in, moved_memory, moved_not}
use Rattle.fx_steps.proofs.Sessions.{enters_of}
use Rattle.fx_zip.proofs.zip.Zip.go_down.Goals as goal

pub returns-in_err-find : goal.returns-in_err-find
returns-in_err-find g c = record {
  moves =
      moves_unfound g.R.Reader.meaning c.args.self.now c.find.new.self c.args.session.now c.find.new.session (λ at. go_down c.args.self.now.address at.path at.env at.spec) (from_place c.args.self.now.root c.args.self.now.address go_down) refl (place_evals c.args.self.now (λ at. go_down c.args.self.now.address at.path at.env at.spec)) c.in_err-find.field-0.0 c.from_residual.result c.from_residual.ensures.1 c.in_err-find.ensures;
}

pub down-requires : goal.down-requires
down-requires g c = record { described = here_scope (g.R.Reader.meaning.reads c.find.new.session.reader.now) (own_at c.find.new.session.own) c.find.new.self c.path.result.now c.env.result.now (part_of c.spec.result) c.path.ensures c.env.ensures c.spec.ensures.part c.spec.ensures.described c.in_ok-find.ensures.stands }

pub returns-in_err-path : goal.returns-in_err-path
returns-in_err-path g c = record {
  moves = moved_not g.R.Reader.meaning c.args.self.now c.find.new.self c.args.session.now c.find.new.session c.down.new.session c.in_ok-find.ensures go_down c.in_err-path.field-0.0 c.from_residual-in_err-path.result (enters_here (g.R.Reader.meaning.reads c.find.new.session.reader.now) (own_at c.find.new.session.own) c.find.new.self c.path.result.now c.env.result.now (part_of c.spec.result) c.path.ensures c.env.ensures c.spec.ensures.part go_down (Err c.in_err-path.field-0.0) g.R.Reader.meaning c.find.new.session c.down.new.session (enters_of c.in_err-path.ensures.still c.in_err-path.ensures.enters)) c.from_residual-in_err-path.ensures.1;
}

pub returns-in_err-enter_at : goal.returns-in_err-enter_at
returns-in_err-enter_at g c = record {
  moves = moved_memory g.R.Reader.meaning c.args.self.now c.find.new.self c.args.session.now c.find.new.session c.down.new.session c.in_ok-find.ensures go_down (down_entry c.in_ok-path.path) c.enter_at.new.self c.from_residual-in_err-enter_at.result (enters_here (g.R.Reader.meaning.reads c.find.new.session.reader.now) (own_at c.find.new.session.own) c.find.new.self c.path.result.now c.env.result.now (part_of c.spec.result) c.path.ensures c.env.ensures c.spec.ensures.part go_down (Ok (down_entry c.in_ok-path.path)) g.R.Reader.meaning c.find.new.session c.down.new.session (enters_of c.in_ok-path.ensures.still c.in_ok-path.ensures.enters)) c.in_err-enter_at.ensures.root c.from_residual-in_err-enter_at.ensures.1;
}

pub returns : goal.returns
returns g c = record {
  moves = moved_in g.R.Reader.meaning c.args.self.now c.find.new.self c.args.session.now c.find.new.session c.down.new.session c.in_ok-find.ensures go_down (down_entry c.in_ok-path.path) c.enter_at.new.self (enters_here (g.R.Reader.meaning.reads c.find.new.session.reader.now) (own_at c.find.new.session.own) c.find.new.self c.path.result.now c.env.result.now (part_of c.spec.result) c.path.ensures c.env.ensures c.spec.ensures.part go_down (Ok (down_entry c.in_ok-path.path)) g.R.Reader.meaning c.find.new.session c.down.new.session (enters_of c.in_ok-path.ensures.still c.in_ok-path.ensures.enters)) c.in_ok-enter_at.ensures.entered;
}
