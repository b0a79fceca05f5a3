use Rattle.fx_table.proofs.Prelude.{map, arith, keys_of, items_of, mapped_of}
use Rattle.fx_table.proofs.Parents.{folder_within, child_long, child_added, none_added}
use Rattle.fx_table.proofs.listing.add_child.Goals as goal

pub add_name-requires-clause-within : goal.add_name-requires-clause-within
add_name-requires-clause-within c = omega (arith, c.requires.len, folder_within c.args.found.now c.in-Some.i c.args.path.now c.in-Some.ensures)

pub add_name-requires-clause-long : goal.add_name-requires-clause-long
add_name-requires-clause-long c = child_long (keys_of (mapped_of c.args.found.now)) c.in-Some.i c.args.path.now c.in-Some.ensures

pub returns-in_ok-add_name-in-Some : goal.returns-in_ok-add_name-in-Some
returns-in_ok-add_name-in-Some c = child_added (keys_of (mapped_of c.args.found.now)) c.args.path.now (map items_of c.args.lists.now.items) (map items_of c.add_name.new.lists.items) c.in-Some.i c.requires.sorted c.in-Some.ensures c.in_ok-add_name-in-Some.ensures

pub returns-in-None : goal.returns-in-None
returns-in-None c = none_added (keys_of (mapped_of c.args.found.now)) c.args.path.now (map items_of c.args.lists.now.items) c.in-None.ensures
