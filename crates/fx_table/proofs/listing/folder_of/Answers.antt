use Rattle.fx_table.proofs.Prelude.{get_or, sym, ◌∙◌, arith, keys_of, mapped_of}
use Rattle.fx_table.proofs.Behind.{key_at}
use Rattle.fx_table.proofs.Parents.{test_more, test_all}
use Rattle.fx_table.proofs.listing.folder_of.Goals as goal

pub returns-then-is_child : goal.returns-then-is_child
returns-then-is_child c = record {
  dir = (get_or c.args.found.now c.in-Some.i c.index-found-i.result).path;
  here = key_at c.args.found.now c.in-Some.i c.index-found-i.result (omega (arith, c.if-i-found.true));
  child = sym c.is_child.ensures ∙ c.if-is_child.true;
}

pub returns-then-is_child-2 : goal.returns-then-is_child-2
returns-then-is_child-2 c = record {
  dir = (get_or c.args.found.now c.loop-i.i c.index-found-i-in-loop-i.result).path;
  here = key_at c.args.found.now c.loop-i.i c.index-found-i-in-loop-i.result (omega (arith, c.loop-i-test.true));
  child = sym c.is_child-in-loop-i.ensures ∙ c.if-is_child-2.true;
}

pub loop-i-preserved : goal.loop-i-preserved
loop-i-preserved c =
    test_more (keys_of (mapped_of c.args.found.now)) c.args.path.now (get_or c.args.found.now c.loop-i.i c.index-found-i-in-loop-i.result).path c.loop-i.i c.is_child-in-loop-i.result
    (key_at c.args.found.now c.loop-i.i c.index-found-i-in-loop-i.result (omega (arith, c.loop-i-test.true)))
    c.is_child-in-loop-i.ensures c.if-is_child-2.false c.loop-i.invariant

pub returns : goal.returns
returns c = test_all c.args.found.now c.args.path.now c.loop-i.i (omega (arith, c.loop-i-test.false)) c.loop-i.invariant
