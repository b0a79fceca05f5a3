use Rattle.fx_table.proofs.Prelude.{map, get_or, refl, arith, items_of, mapped_of}
use Rattle.fx_table.proofs.Naming.{mapped_len}
use Rattle.fx_table.proofs.Behind.{key_at}
use Rattle.fx_table.proofs.Parents.{lists_none, lists_more, lists_as_long, lists_all}
use Rattle.fx_table.proofs.listing.lists_of.Goals as goal

pub loop-j-init : goal.loop-j-init
loop-j-init c = lists_none c.args.found.now _ (map items_of c.in_ok-lists.lists.items) refl c.in_ok-lists.ensures

pub add_child-requires-clause-len : goal.add_child-requires-clause-len
add_child-requires-clause-len c = lists_as_long items_of _ c.args.found.now c.loop-j.lists.items c.loop-j.invariant

pub loop-j-preserved : goal.loop-j-preserved
loop-j-preserved c =
    lists_more (mapped_of c.args.found.now) c.loop-j.j (get_or c.args.found.now c.loop-j.j c.index-found-j.result).path (map items_of c.loop-j.lists.items) (map items_of c.add_child.new.lists.items)
    (key_at c.args.found.now c.loop-j.j c.index-found-j.result (omega (arith, c.loop-j-test.true)))
    c.in_ok-add_child.ensures c.loop-j.invariant

pub returns : goal.returns
returns c = lists_all (mapped_of c.args.found.now) c.loop-j.j (map items_of c.loop-j.lists.items) (omega (arith, c.loop-j-test.false, mapped_len c.args.found.now)) c.loop-j.invariant
