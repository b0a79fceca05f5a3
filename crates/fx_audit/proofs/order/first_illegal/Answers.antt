use Rattle.std.proofs.Common.{◌≡◌, Some, false, rules, slice_get, take}
use Rattle.fx_spec.specs.Bases.{base_tree}
use Rattle.fx_audit.specs.Verdicts.{order_told, turn_told}
use Rattle.fx_audit.proofs.Fronts.{told_length, first_illegal_at}
use Rattle.fx_audit.proofs.Lists.{item_at}
use Rattle.fx_audit.proofs.Placing.{not_added}
use Rattle.fx_audit.proofs.order.first_illegal.Goals as goal

pub returns-then-not-branch : goal.returns-then-not-branch
returns-then-not-branch c =
    let base = base_tree c.args.base.now in
    let es = c.args.entries.now in
    let i = c.loop-i.i in
    let told = c.told-item.result in
    let is : slice_get c.args.entries.now c.loop-i.i ≡ Some c.told-item.result = item_at c.as_slice-told-items.result.now c.args.entries.now c.loop-i.i c.told-item.result c.as_slice-told-items.ensures c.loop-i-test.true c.told-item.is in
    let refused : c.in_ok-add_next.field-0 ≡ false = search rules in
    first_illegal_at base es i told is c.loop-i.invariant.legal
    (not_added base (order_told (take i es)) (turn_told told) c.add_next.new.table c.in_ok-add_next.field-0 (c.in_ok-add_next.ensures (order_told (take i es)) c.loop-i.invariant (told_length es i told is)) refused)
