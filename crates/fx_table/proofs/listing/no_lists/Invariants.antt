use Rattle.fx_table.proofs.Prelude.{◌≡◌, [], map, replicate, items_of}
use Rattle.fx_table.proofs.listing.no_lists.Given as goal

abbrev pub invariant-loop-i : goal.invariant-loop-i
invariant-loop-i l = map items_of l.lists.items ≡ replicate l.i []
