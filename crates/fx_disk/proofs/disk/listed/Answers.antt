use Rattle.std.proofs.Common.{refl}
use Rattle.fx_disk.proofs.Lengths.{all_left, fewer_left}
use Rattle.fx_disk.proofs.disk.listed.Goals as goal

pub loop-entry-init : goal.loop-entry-init
loop-entry-init c = all_left _ _ _ _ c.new-listing.ensures c.into_iter-entry-iterator.ensures.into_iter_gives.1 refl

pub loop-entry-preserved : goal.loop-entry-preserved
loop-entry-preserved c = fewer_left _ _ _ _ _ _ _ c.in_ok-add.ensures.added c.in-Some.ensures.steps.1 c.loop-entry.invariant
