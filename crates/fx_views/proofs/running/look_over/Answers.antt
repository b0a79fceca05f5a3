use denote.Param.Send.{sendable}
use Rattle.std.proofs.Common.{◌∙◌, Some, ap}
use Rattle.fx_spec.specs.Bases.{base_tree}
use Rattle.fx_shared.proofs.Crosses.{Versioned-send}
use Rattle.fx_turn.specs.Seats.{view}
use Rattle.fx_shared.specs.Passes.{LogView}
use Rattle.fx_shared.specs.Crews.{base_of}
use Rattle.fx_crew.proofs.Gathers.{none_gathered}
use Rattle.fx_shared.proofs.Fresh.{fresh_pass}
use Rattle.fx_views.proofs.Closings.{looked_over}
use Rattle.fx_views.proofs.running.look_over.Goals as goal

pub passes_of-requires-send-T : goal.passes_of-requires-send-T
passes_of-requires-send-T g c κs = search (sendable, Versioned-send) depth 40

pub pass-last-requires-send-T : goal.pass-last-requires-send-T
pass-last-requires-send-T g c κs = search (sendable, Versioned-send) depth 40

pub join-requires-send-T : goal.join-requires-send-T
join-requires-send-T g c κs = search (sendable, Versioned-send) depth 40

pub work_beside-requires-clause-last : goal.work_beside-requires-clause-last
work_beside-requires-clause-last g c κs within =
    fresh_pass (base_of c.args.crew.now) c.args.crew.now.shares.now (view c.passes_of.new.maker) c.pass-last.result c.pass-last.ensures.pass.1 c.in_ok-passes.ensures.maker.based c.pass-last.ensures.new

pub gather-requires-clause-none : goal.gather-requires-clause-none
gather-requires-clause-none g c =
    let maker = c.in_ok-passes.ensures.maker in
    let same = c.pass-last.ensures.maker in
    none_gathered (base_of c.args.crew.now) (view c.pass-last.new.maker) (ap (λ (v : LogView). v.number) same ∙ maker.number) (ap (λ (v : LogView). v.base) same ∙ maker.based)
    (ap (λ (v : LogView). v.joined) same ∙ (c.in_ok-passes.ensures.joined ∙ c.requires.first.1))

pub returns-clause-over : goal.returns-clause-over
returns-clause-over g c =
    let w = c.in_ok-onlooker.ensures.viewed in
    let counted = c.in_ok-retries.ensures.joins ∙ c.in_ok-onlooker.ensures.all ∙ c.in_ok-passes.ensures.all in
    let number = w.number_is ∙ ap (λ (v : LogView). v.number) c.pass-last.ensures.new ∙ ap (λ n. Some n) c.in_ok-passes.ensures.splits in
    looked_over (base_of c.args.crew.now) (base_tree c.args.views.now.value) (view c.gather.new.maker) (view c.in_ok-onlooker.onlooker.pass) (view c.join.new.maker) c.in_ok-retries.retries c.in_ok-onlooker.onlooker.viewed
    c.in_ok-retries.ensures.gathered counted c.join.ensures.maker number w.none c.join.ensures.seen c.join.ensures.told w.viewed
