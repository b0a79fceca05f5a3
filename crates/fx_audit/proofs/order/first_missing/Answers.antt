use Rattle.std.proofs.Common.{refl, arith}
use Rattle.fx_spec.specs.Bases.{base_tree}
use Rattle.fx_audit.proofs.Placing.{all_there, first_missing_is}
use Rattle.fx_audit.proofs.order.first_missing.Goals as goal

pub returns-then-next-from : goal.returns-then-next-from
returns-then-next-from c = λ o are.
    first_missing_is (base_tree c.args.base.now) o c.args.table.now c.loop-shell.shell c.count-next.result c.count-next.result c.count.result are c.loop-shell.invariant c.count-next.ensures c.count.ensures
    (omega (arith, c.if-next-from.true, c.from.ensures)) refl

pub returns : goal.returns
returns c = λ o are.
    all_there (base_tree c.args.base.now) o c.args.table.now c.loop-shell.shell are (omega (arith, c.loop-shell-test.false, c.loop-shell.auto.shell-end, c.len-shell-end.ensures.len)) c.loop-shell.invariant
