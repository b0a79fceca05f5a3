use Rattle.fx_base.proofs.Chunking.{cut_off}
use Rattle.fx_base.proofs.table.cut.Goals as goal

pub cutting-preserved : goal.cutting-preserved
cutting-preserved g c =
    cut_off (λ part. part.items) c.args.items.items c.cutting.left.items c.split_off.new.self.items c.cutting.parts.items c.push.new.self.items c.in_ok-part.part c.saturating_sub.result
    c.in_ok-part.ensures.items c.in_ok-part.ensures.tail c.in_ok-push.ensures.items c.cutting.invariant
