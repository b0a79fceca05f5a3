use Rattle.std.proofs.Common.{refl, ◌∙◌}
use Rattle.fx_shared.proofs.live.DeskReaderReader.TheImpl.Goals as goal

pub read-tells : goal.read-tells
read-tells g c =
    let e = c.ensures in
    record {
      read = e.read;
      stop = e.stop;
      needs = e.needs;
      complete = refl;
      vouched = λ start v. (e.table ∙ v.0, e.txn ∙ v.1, e.vouched (g.D.Desk.view start.desk) start.reads v.2);
    }
