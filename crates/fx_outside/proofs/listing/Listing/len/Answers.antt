use Rattle.std.proofs.Common.{arith}
use Rattle.std.proofs.lemmas.Grind.{common_steps}
use Rattle.std.specs.FinMap.{len-entries, entries-from_sorted}
use Rattle.fx_outside.specs.Listing.{name_cmp}
use Rattle.fx_outside.proofs.listing.Listing.len.Goals as goal

pub returns : goal.returns
returns c = rw (← c.self.view_is, len-entries, entries-from_sorted name_cmp c.self.inside.items.items c.self.invariant) (grind (arith, common_steps))
