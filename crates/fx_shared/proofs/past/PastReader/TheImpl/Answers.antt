use Rattle.std.proofs.Common.{refl, ◌∙◌}
use Rattle.fx_turn.specs.Seats.{view}
use Rattle.fx_shared.proofs.past.PastReader.TheImpl.Goals as goal

pub read-tells : goal.read-tells
read-tells g c =
    let e = c.ensures in
    record {
      read = e.read;
      stop = e.stop;
      needs = e.needs;
      complete = refl;
      vouched = λ start v. (e.snaps ∙ v.0, e.position ∙ v.1, e.txn ∙ v.2, e.vouched (view start.pass) v.3);
    }
