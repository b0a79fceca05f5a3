use Rattle.std.proofs.Common.{◌∙◌, sym, ap}
use Rattle.fx_view.specs.Own.{put_own}
use Rattle.fx_edit.proofs.Done.{put_all-push}
use Rattle.fx_edit.proofs.edits.Edits.put_all.Goals as goal

pub loop-change-preserved : goal.loop-change-preserved
loop-change-preserved c =
    c.in_ok-put.ensures.ok ∙ (ap (λ own. put_own own c.in-Some.change.path c.in-Some.change.node) c.loop-change.invariant ∙ sym (put_all-push c.args.overlay.now c.loop-change.yielded c.in-Some.change))
