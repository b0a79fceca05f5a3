use Rattle.fx_table.proofs.Prelude.{◌≡◌, ◌++◌, map, length, link_change, MakeLinks, pending}
use Rattle.fx_table.proofs.merging.move_rest.Given as goal

abbrev pub invariant-moving : goal.invariant-moving
invariant-moving l = record {
  made : MakeLinks l.rest.items;
  moved : l.fn.all.items ++ map link_change (pending l.fn.rest.items) ≡ l.all.items ++ map link_change (pending l.rest.items);
}

abbrev pub decreases-moving : goal.decreases-moving
decreases-moving l = length l.rest.items
