use denote.Param.Send.{sendable}
use Rattle.fx_spec.specs.Bases.{base_tree}
use Rattle.fx_board.proofs.Crosses.{Board-send}
use Rattle.fx_turn.specs.Seats.{view}
use Rattle.fx_diaries.proofs.Closing.{run_ok}
use Rattle.fx_crew.proofs.Gathers.{closes, closes_run}
use Rattle.fx_workers.proofs.running.run_shared.Goals as goal

pub new-requires-send-T : goal.new-requires-send-T
new-requires-send-T g c κs = search (sendable, Board-send) depth 40

pub close-requires-send-T : goal.close-requires-send-T
close-requires-send-T g c κs = search (sendable, Board-send) depth 40

pub returns-clause-complete : goal.returns-clause-complete
returns-clause-complete g c =
    closes (base_tree c.args.base.now.value) (view c.work_over.new.maker) c.in_ok-retries.retries c.close.result c.in_ok-retries.ensures.gathered c.in_ok-retries.ensures.joins c.close.ensures.base c.close.ensures.log c.close.ensures.joined

pub returns-clause-ran : goal.returns-clause-ran
returns-clause-ran g c =
    closes_run (base_tree c.args.base.now.value) (view c.work_over.new.maker) c.in_ok-retries.retries c.close.result c.in_ok-retries.ensures.gathered c.in_ok-retries.ensures.joins c.close.ensures.base c.close.ensures.log c.close.ensures.joined c.close.ensures.seen

pub returns-clause-retries : goal.returns-clause-retries
returns-clause-retries g c =
    let log = c.close.result in
    let maker = view c.work_over.new.maker in
    let retries = c.in_ok-retries.retries in
    let gathered = c.in_ok-retries.ensures.gathered in
    let joins = c.in_ok-retries.ensures.joins in
    let e = c.close.ensures in
    let base = base_tree c.args.base.now.value in
    run_ok log.base log.order retries (closes base maker retries log gathered joins e.base e.log e.joined) (closes_run base maker retries log gathered joins e.base e.log e.joined e.seen)
