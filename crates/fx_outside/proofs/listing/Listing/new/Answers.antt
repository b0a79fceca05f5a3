use Rattle.fx_outside.specs.Listing.{name_cmp}
use Rattle.fx_outside.proofs.Sorted.{from_sorted_nil}
use Rattle.fx_outside.proofs.listing.Listing.new.Goals as goal

pub returns : goal.returns
returns c = rw c.new.ensures.items (from_sorted_nil name_cmp)
