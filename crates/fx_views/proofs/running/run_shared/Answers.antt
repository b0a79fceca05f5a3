use denote.Param.Send.{sendable}
use Rattle.fx_spec.specs.Bases.{base_tree}
use Rattle.fx_shared.proofs.Crosses.{Versioned-send}
use Rattle.fx_turn.specs.Seats.{view}
use Rattle.fx_diaries.proofs.Closing.{run_ok}
use Rattle.fx_views.proofs.Closings.{complete_over, run_over, viewed_over}
use Rattle.fx_views.proofs.running.run_shared.Goals as goal

pub new-requires-send-T : goal.new-requires-send-T
new-requires-send-T g c κs = search (sendable, Versioned-send) depth 40

pub close-requires-send-T : goal.close-requires-send-T
close-requires-send-T g c κs = search (sendable, Versioned-send) depth 40

pub returns-clause-complete : goal.returns-clause-complete
returns-clause-complete g c =
    complete_over (base_tree c.args.base.now.value) (base_tree c.args.views.now.value) (view c.look_over.new.maker) c.in_ok-retries.retries c.in_ok-retries.viewed c.close.result c.in_ok-retries.ensures.over c.close.ensures.base c.close.ensures.log c.close.ensures.joined

pub returns-clause-ran : goal.returns-clause-ran
returns-clause-ran g c =
    run_over (base_tree c.args.base.now.value) (base_tree c.args.views.now.value) (view c.look_over.new.maker) c.in_ok-retries.retries c.in_ok-retries.viewed c.close.result c.in_ok-retries.ensures.over c.close.ensures.base c.close.ensures.log c.close.ensures.joined c.close.ensures.seen

pub returns-clause-retries : goal.returns-clause-retries
returns-clause-retries g c =
    let base = base_tree c.args.base.now.value in
    let views = base_tree c.args.views.now.value in
    let maker = view c.look_over.new.maker in
    let r = c.in_ok-retries in
    let log = c.close.result in
    let e = c.close.ensures in
    run_ok log.base log.order r.retries (complete_over base views maker r.retries r.viewed log r.ensures.over e.base e.log e.joined) (run_over base views maker r.retries r.viewed log r.ensures.over e.base e.log e.joined e.seen)

pub returns-clause-viewed : goal.returns-clause-viewed
returns-clause-viewed g c =
    viewed_over (base_tree c.args.base.now.value) (base_tree c.args.views.now.value) (view c.look_over.new.maker) c.in_ok-retries.retries c.in_ok-retries.viewed c.close.result c.in_ok-retries.ensures.over c.close.ensures.base c.close.ensures.seen
