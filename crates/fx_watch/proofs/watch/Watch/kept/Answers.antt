use Rattle.std.proofs.Common.{sym, ap, ◌∙◌}
use Rattle.std.specs.Option.{option_map}
use Rattle.fx_watch.specs.WatchView.{WatchView}
use Rattle.fx_watch.specs.declared.walking.Walked.{Walked}
use Rattle.fx_watch.proofs.Walks.{kept_as}
use Rattle.fx_watch.proofs.watch.Watch.kept.Goals as goal

pub returns-in-Some : goal.returns-in-Some
returns-in-Some c = λ S answers.
    kept_as c.args.self.now S c.in-Some.found.reads c.in-Some.found.valid c.args.changed.now c.are_unread.result c.then_some.result
    (sym (ap (λ (w : WatchView). w.found) c.self.view_is) ∙ ap (option_map (λ (f : Walked). (f.reads, f.valid))) c.in-Some.is) c.are_unread.ensures c.then_some.ensures answers
