use Rattle.std.proofs.Common.{◌+◌, drop, sym, ap, ◌∙◌}
use Rattle.std.specs.List.{fold}
use Rattle.fx_base.proofs.Lists.{drop_next}
use Rattle.fx_view.specs.ReadList.{ReadList}
use Rattle.fx_board.specs.Index.{named_by, with_read}
use Rattle.fx_board.proofs.index.stale.Goals as goal

pub loop-i-preserved : goal.loop-i-preserved
loop-i-preserved c =
    let index = c.args.index.now.entries in
    let next = drop_next c.args.reads.now c.loop-i.i (c.in-Some.path.now, c.in-Some.read.now) (sym c.in-Some.ensures.read) in
    ap (λ least. fold (with_read index) least (drop (c.loop-i.i + 1) c.args.reads.now)) c.with_read-least.ensures
    ∙ sym (ap (λ (left : ReadList). fold (with_read index) (named_by c.loop-i.least) left) next)
    ∙ c.loop-i.invariant
