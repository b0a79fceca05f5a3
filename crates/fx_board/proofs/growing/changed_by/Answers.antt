use Rattle.std.proofs.Common.{◌≡◌, ◌<◌, length, get_or, subst}
use Rattle.fx_board.proofs.Changing.{paths_ascend}
use Rattle.fx_board.proofs.growing.changed_by.Goals as goal

pub add-requires : goal.add-requires
add-requires c =
    let same = c.as_slice-change-items.ensures.changes in
    rw (c.loop-change.invariant.0, c.in_ok-copy-2.ensures.copied)
    (paths_ascend c.args.changes.now c.loop-change.change-index c.change-item.result c.as_slice-change-items.ensures.ascending (subst (λ cs. c.loop-change.change-index < length cs) same c.loop-change-test.true) (subst (λ cs. c.change-item.result ≡ get_or cs c.loop-change.change-index c.change-item.result) same c.change-item.is))
