use Rattle.fx_table.proofs.Prelude.{◌≡◌, map, take, keys_of, names_below, items_of, mapped_of}
use Rattle.fx_table.proofs.listing.lists_of.Given as goal

abbrev pub invariant-loop-j : goal.invariant-loop-j
invariant-loop-j l = map items_of l.lists.items ≡ map (names_below (take l.j (mapped_of l.found))) (keys_of (mapped_of l.found))
