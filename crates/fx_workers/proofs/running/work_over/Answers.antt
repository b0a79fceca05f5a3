use denote.Param.Send.{sendable}
use Rattle.std.proofs.Common.{◌∙◌}
use Rattle.fx_board.proofs.Crosses.{Board-send}
use Rattle.fx_turn.specs.Seats.{view}
use Rattle.fx_shared.specs.Crews.{base_of}
use Rattle.fx_crew.proofs.Gathers.{none_gathered}
use Rattle.fx_workers.proofs.running.work_over.Goals as goal

pub passes_of-requires-send-T : goal.passes_of-requires-send-T
passes_of-requires-send-T g c κs within = search (sendable, Board-send) depth 40

pub gather-requires-clause-none : goal.gather-requires-clause-none
gather-requires-clause-none g c =
    let maker = c.in_ok-passes.ensures.maker in
    none_gathered (base_of c.args.crew.now) (view c.passes_of.new.maker) maker.number maker.based (c.in_ok-passes.ensures.joined ∙ c.requires.first.1)
