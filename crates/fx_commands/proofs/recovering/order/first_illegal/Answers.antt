use Rattle.std.proofs.Common.{take, length, get_or, sym, subst, ap, ◌∙◌}
use Rattle.fx_spec.specs.Bases.{base_tree}
use Rattle.fx_machine.specs.declared.entry.Pair.{Pair}
use Rattle.fx_durable.specs.Journal.{turn_of, turns_of}
use Rattle.fx_commands.specs.Recoveries.Orders.{AreCounts, CountsNext}
use Rattle.fx_commands.proofs.Recoveries.Counting.{first_illegal_at, item_at, counts_more}
use Rattle.fx_commands.proofs.recovering.order.first_illegal.Goals as goal

pub returns-then-not-add_next : goal.returns-then-not-add_next
returns-then-not-add_next c =
    let base = base_tree c.args.base.now in
    let held = c.as_slice-pair-items.result.now in
    let pair : Pair = get_or held c.loop-i.i (record { shell = 0; txn = 0 }) in
    let o = turns_of (take c.loop-i.i c.args.order.now) in
    let before = subst (AreCounts base o) (sym c.deref_mut.ensures.value) c.loop-i.invariant in
    let isnt = subst (λ b. CountsNext base o (turn_of pair) c.add_next.new.counts b) c.if-not-add_next.true (c.add_next.ensures o before) in
    first_illegal_at base c.args.order.now c.loop-i.i pair c.loop-i.counts.items (item_at held c.args.order.now c.loop-i.i (record { shell = 0; txn = 0 }) c.as_slice-pair-items.ensures c.loop-i-test.true) c.loop-i.invariant isnt

pub loop-i-preserved : goal.loop-i-preserved
loop-i-preserved c =
    let base = base_tree c.args.base.now in
    let held = c.as_slice-pair-items.result.now in
    let pair : Pair = get_or held c.loop-i.i (record { shell = 0; txn = 0 }) in
    let o = turns_of (take c.loop-i.i c.args.order.now) in
    let before = subst (AreCounts base o) (sym c.deref_mut.ensures.value) c.loop-i.invariant in
    let after = subst (λ b. CountsNext base o (turn_of pair) c.add_next.new.counts b) c.if-not-add_next.false (c.add_next.ensures o before) in
    counts_more base c.args.order.now c.loop-i.i c.loop-i.counts.len pair c.loop-i.counts.items c.add_next.new.counts
    (item_at held c.args.order.now c.loop-i.i (record { shell = 0; txn = 0 }) c.as_slice-pair-items.ensures c.loop-i-test.true)
    (sym (ap length c.deref_mut.ensures.value) ∙ c.deref_mut.ensures.len) c.loop-i.invariant after
