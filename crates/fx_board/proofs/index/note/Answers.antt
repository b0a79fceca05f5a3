use Rattle.std.proofs.Common.{◌≡◌, ◌∷◌, ap, arith}
use Rattle.std.specs.Vec.Iter.{into_iter_items}
use Rattle.std.proofs.Common.{length}
use Rattle.std.proofs.lemmas.Result.{IfOk-at_ok}
use Rattle.fx_board.proofs.Indexes.{noted_more}
use Rattle.fx_board.proofs.index.note.Goals as goal

pub loop-path-preserved : goal.loop-path-preserved
loop-path-preserved c =
    let items : into_iter_items c.loop-path.path-iterator ≡ c.in-Some.path ∷ into_iter_items c.next.new.self = c.in-Some.ensures.steps.0 in
    record {
      room = omega (arith, ap length items, c.insert.ensures.spare, c.loop-path.invariant.room);
      noted = noted_more _ _ _ c.loop-path.yielded c.in-Some.path c.args.entry c.loop-path.invariant.noted (IfOk-at_ok _ c.unwrap-last.ensures c.insert.ensures.updates).0;
    }
