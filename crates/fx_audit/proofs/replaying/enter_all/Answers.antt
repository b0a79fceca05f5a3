use Rattle.std.proofs.Common.{◌<◌, length, subst}
use Rattle.fx_spec.specs.Bases.{base_tree}
use Rattle.fx_audit.proofs.Legal.{next_of}
use Rattle.fx_audit.proofs.replaying.enter_all.Goals as goal

pub enter-requires-clause-next : goal.enter-requires-clause-next
enter-requires-clause-next c =
    rw (c.loop-pair.invariant, c.as_slice-pair-items.ensures)
    (next_of (base_tree c.args.base.now.value) c.args.order.now c.loop-pair.pair-index (record { shell = 0; txn = 0 }) c.requires.legal (subst (λ ps. c.loop-pair.pair-index < length ps) c.as_slice-pair-items.ensures c.loop-pair-test.true)).next

pub enter-requires-clause-planned : goal.enter-requires-clause-planned
enter-requires-clause-planned c =
    rw (c.loop-pair.invariant, c.as_slice-pair-items.ensures)
    (next_of (base_tree c.args.base.now.value) c.args.order.now c.loop-pair.pair-index (record { shell = 0; txn = 0 }) c.requires.legal (subst (λ ps. c.loop-pair.pair-index < length ps) c.as_slice-pair-items.ensures c.loop-pair-test.true)).planned
