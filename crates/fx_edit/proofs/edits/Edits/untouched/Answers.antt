use Rattle.std.proofs.Common.{◌≡◌, ◌∙◌, ap, sym, take, min, Some, rules}
use Rattle.std.specs.Prelude.{slice_get}
use Rattle.fx_base.proofs.Lists.{at_index, take_next}
use Rattle.fx_store.specs.Changes.{changed_paths}
use Rattle.fx_view.specs.Reads.{count_before}
use Rattle.fx_edit.proofs.Untouched.{count_push}
use Rattle.fx_edit.proofs.edits.Edits.untouched.Goals as goal

pub loop-change-preserved : goal.loop-change-preserved
loop-change-preserved c =
    let items = c.deref-change-items.result.now in
    let same : items ≡ c.args.self.now = search rules in
    let here : slice_get c.args.self.now c.loop-change.change-index ≡ Some c.change-item.result =
    ap (λ cs. slice_get cs c.loop-change.change-index) (sym same) ∙ at_index items c.loop-change.change-index c.change-item.result c.loop-change-test.true c.change-item.is in
    c.min-count.ensures
    ∙ ap (λ n. min c.loop-change.count n) c.count_before.ensures
    ∙ count_push c.args.reads.now (take c.loop-change.change-index c.args.self.now) c.change-item.result c.loop-change.count c.loop-change.invariant
    ∙ ap (λ cs. count_before (changed_paths cs) c.args.reads.now) (sym (take_next c.args.self.now c.loop-change.change-index c.change-item.result here))
