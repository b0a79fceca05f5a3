use Rattle.std.proofs.Common.{◌∙◌}
use Rattle.std.specs.FinMap.{get}
use Rattle.fx_watch.proofs.Walks.{valid_stays, answers_stay}
use Rattle.fx_watch.proofs.watch.Watch.after.Goals as goal

pub returns-in-Some-clause-valid : goal.returns-in-Some-clause-valid
returns-in-Some-clause-valid g c = λ S answers differs.
    let kept = c.in-Some.ensures S answers in
    kept.1 ∙ valid_stays c.args.self.now.root S (get c.args.store.now.nodes) c.args.changed.now differs kept.0

pub returns-in-Some-clause-told : goal.returns-in-Some-clause-told
returns-in-Some-clause-told g c = λ S answers differs.
    answers_stay c.args.self.now S (get c.args.store.now.nodes) c.args.changed.now differs (c.in-Some.ensures S answers).0 answers
