use Rattle.fx_view.specs.Own.{own_at}
use Rattle.test_moves.proofs.Edited.{fresh_made, fresh_refused}
use Rattle.test_moves.proofs.acts.create.Goals as goal

pub returns-in_err-untouched : goal.returns-in_err-untouched
returns-in_err-untouched g c = record {
  ready = fresh_refused c.args.walk.now.zip c.in_err-untouched.field-0.0 c.from_residual.result c.from_residual.ensures.1 c.in_err-untouched.ensures.edits c.requires.ready;
}

pub returns : goal.returns
returns g c = record {
  ready =
      c.edited.ensures.fresh c.create.new.session.reader.now.reads (own_at c.args.walk.now.session.own) (own_at c.create.new.session.own) c.in_ok-untouched.ensures.untouched
      (fresh_made c.args.walk.now.zip c.in_ok-untouched.untouched c.in_ok-untouched.ensures.edits c.requires.ready);
}
