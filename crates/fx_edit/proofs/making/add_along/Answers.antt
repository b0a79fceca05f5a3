use Rattle.std.proofs.Common.{arith}
use Rattle.fx_edit.proofs.Makes.{making_next, making_short, making_ends}
use Rattle.fx_edit.proofs.making.add_along.Goals as goal

pub loop-i-preserved : goal.loop-i-preserved
loop-i-preserved c =
    making_next c.args.here.now c.args.names.now c.args.node.now c.args.edits.now c.loop-i.path c.in_ok-path-2.path c.loop-i.edits c.add_next.new.edits c.loop-i.i c.loop-i.invariant c.in_ok-path-2.ensures

pub add_next-requires-clause-short : goal.add_next-requires-clause-short
add_next-requires-clause-short c =
    making_short c.args.here.now c.args.names.now c.args.node.now c.args.edits.now c.loop-i.path c.loop-i.edits c.loop-i.i c.loop-i.invariant c.requires (omega (arith, c.loop-i-test.true, c.len-i-end.ensures.len))

pub returns-clause-path : goal.returns-clause-path
returns-clause-path c = (making_ends c.args.here.now c.args.names.now c.args.node.now c.args.edits.now c.loop-i.path c.loop-i.edits c.loop-i.i c.loop-i.invariant (omega (arith, c.loop-i-test.false, c.len-i-end.ensures.len))).0

pub returns-clause-edits : goal.returns-clause-edits
returns-clause-edits c = (making_ends c.args.here.now c.args.names.now c.args.node.now c.args.edits.now c.loop-i.path c.loop-i.edits c.loop-i.i c.loop-i.invariant (omega (arith, c.loop-i-test.false, c.len-i-end.ensures.len))).1
