use Rattle.fx_table.proofs.Prelude.{◌≡◌, ◌<◌, length, map, arith, common_steps, keys_of, names_below, items_of, mapped_of}
use Rattle.fx_table.proofs.Naming.{mapped_len, part_sets, part_len, part_more}
use Rattle.fx_table.proofs.Parents.{list_here, rest_left}
use Rattle.fx_table.proofs.listing.list_names.Goals as goal

pub list_at-requires-clause-sets : goal.list_at-requires-clause-sets
list_at-requires-clause-sets c = part_sets (mapped_of c.args.found.now.items) c.loop-i.i c.loop-i.found.items c.loop-i.invariant.0 c.requires.sets

pub list_at-requires-clause-names : goal.list_at-requires-clause-names
list_at-requires-clause-names c path here =
    list_here (mapped_of c.args.found.now.items) c.loop-i.found.items c.loop-i.i (map items_of c.loop-i.lists.items) c.list_out-names.result.items path c.loop-i.invariant.0 c.loop-i.invariant.1 c.list_out-names.ensures.out here

pub loop-i-preserved : goal.loop-i-preserved
loop-i-preserved c =
    let es = mapped_of c.args.found.now.items in
    let count : c.len-i-end.result ≡ length c.args.found.now.items = grind (arith, common_steps) in
    let within : c.loop-i.i < length c.loop-i.found.items = omega (arith, count, c.loop-i-test.true, mapped_len c.args.found.now.items, part_len es c.loop-i.i c.loop-i.found.items c.loop-i.invariant.0) in (
      part_more es c.loop-i.i c.loop-i.found.items c.list_at.new.found.items within c.loop-i.invariant.0 c.in_ok-list_at.ensures,
      rest_left items_of c.loop-i.lists.items c.list_out-names.new.lists.items (map (names_below es) (keys_of es)) c.loop-i.i c.list_out-names.ensures.rest c.loop-i.invariant.1,
    )
