use Rattle.std.proofs.Common.{arith}
use Rattle.fx_spec.specs.Bases.{base_tree}
use Rattle.fx_audit.proofs.Placing.{added}
use Rattle.fx_audit.proofs.order.add_next.Goals as goal

pub returns : goal.returns
returns c = λ o are at.
    added (base_tree c.args.base.now) o c.args.told.now.shell c.args.told.now.txn c.args.place c.count.result c.count-2.result c.args.table.now c.add.new.table are at
    c.count.ensures (omega (arith, c.if-from-count.false, c.from.ensures)) c.count-2.ensures (omega (arith, c.if-told-count.false)) c.in_ok-add.ensures.ok
