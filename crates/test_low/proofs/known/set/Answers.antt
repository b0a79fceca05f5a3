use Rattle.std.proofs.Common.{sym, ap, subst, is_some}
use Rattle.fx_view.specs.OwnList.{OwnList}
use Rattle.fx_view.specs.Own.{AreRead}
use Rattle.fx_view.proofs.Owning.{AreRead-put}
use Rattle.test_low.proofs.known.set.Goals as goal

pub returns : goal.returns
returns c =
    subst (λ (own : OwnList). AreRead own c.args.reads.now) (sym c.in_ok-put.ensures.ok) (AreRead-put c.args.own.now c.args.reads.now c.in_ok-path.path c.in_ok-node.node c.requires (ap is_some (sym c.in-Some.ensures.read)))
