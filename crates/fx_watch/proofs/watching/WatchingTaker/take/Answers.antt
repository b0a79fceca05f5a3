use Rattle.std.proofs.Common.{[], ◌∷◌, ◌++◌, sym, ap, subst, ◌∙◌}
use Rattle.std.proofs.lemmas.Result.{on_ok_weaker}
use Rattle.fx_watch.specs.Lines.{valid_line}
use Rattle.fx_watch.specs.Watching.{HasWatched}
use Rattle.fx_watch.proofs.Watchings.{went_on, at_entry, settled_on}
use Rattle.fx_watch.proofs.watching.WatchingTaker.take.Goals as goal

pub returns-in_ok-valid-in-Some-clause-ok : goal.returns-in_ok-valid-in-Some-clause-ok
returns-in_ok-valid-in-Some-clause-ok g c = λ events before w leads.
    let base = g.B.Based.base in
    let old = c.args.self.now in
    let some = sym c.settled_entry-settled.ensures ∙ c.in-Some.is in
    let at = at_entry base old.watch old.output.items events before c.args.world.now c.args.event w leads c.in-Some.entry some c.board.result.now c.board.ensures.0 c.board.ensures.1 in
    let on = settled_on base old.watch old.output.items events before c.args.world.now c.args.event w leads c.in-Some.entry some c.board.result.now c.board.ensures.0 c.board.ensures.1 c.valid_after.new.watch c.in_ok-valid-in-Some.valid
    (c.in_ok-valid-in-Some.ensures.valid at) (c.in_ok-valid-in-Some.ensures.told at) c.in_ok-valid-in-Some.ensures.root in
    on_ok_weaker c.add_valid.result
    (λ added. subst (λ output. HasWatched base c.valid_after.new.watch output (events ++ c.args.event ∷ []) c.args.world.now) (sym (added ∙ ap (λ o. o ++ valid_line c.in_ok-valid-in-Some.valid) c.in_ok-add_event.ensures)) on) c.add_valid.ensures

pub returns-in-None-clause-ok : goal.returns-in-None-clause-ok
returns-in-None-clause-ok g c = λ events before w leads.
    let base = g.B.Based.base in
    let old = c.args.self.now in
    subst (λ output. HasWatched base old.watch output (events ++ c.args.event ∷ []) c.args.world.now) (sym c.in_ok-add_event.ensures)
    (went_on base old.watch old.output.items events before c.args.world.now c.args.event w leads (sym c.settled_entry-settled.ensures ∙ c.in-None.is))
