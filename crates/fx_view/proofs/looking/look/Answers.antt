use Rattle.std.proofs.Common.{ap}
use Rattle.fx_store.specs.Rule.{seen}
use Rattle.fx_view.specs.Own.{own_at}
use Rattle.fx_view.proofs.Calls.{consults_look, consults_look_own}
use Rattle.fx_view.proofs.looking.look.Goals as goal

pub returns-in-None : goal.returns-in-None
returns-in-None g c = record {
  follows =
      consults_look g.R.Reader.meaning (own_at c.args.overlay.now) c.args.reader.now c.read.new.self c.args.path.now c.read.ensures.complete c.read.ensures.vouched c.in_ok-node.node c.in_ok-node.node c.in_ok-node.ensures.read (ap (λ o. seen o c.in_ok-node.node) c.in-None.ensures.change);
}

pub returns-in-Some : goal.returns-in-Some
returns-in-Some g c = record {
  follows =
      consults_look_own g.R.Reader.meaning (own_at c.args.overlay.now) c.args.reader.now c.read.new.self c.args.path.now c.read.ensures.complete c.read.ensures.vouched c.in_ok-node.node c.in-Some.own.now c.copied.result c.in_ok-node.ensures.read c.in-Some.ensures.change c.copied.ensures.copied c.copied.ensures.refused;
}
