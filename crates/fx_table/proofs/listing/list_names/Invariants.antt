use Rattle.fx_table.proofs.Prelude.{◌≡◌, map, drop, keys_of, names_below, items_of, mapped_of}
use Rattle.fx_table.proofs.Naming.{part_listed}
use Rattle.fx_table.proofs.listing.list_names.Given as goal

abbrev pub invariant-loop-i : goal.invariant-loop-i
invariant-loop-i l =
    let es = mapped_of l.fn.found.items in
    (l.found.items ≡ part_listed es l.i) × (drop l.i (map items_of l.lists.items) ≡ drop l.i (map (names_below es) (keys_of es)))
