use Rattle.fx_spec.specs.Bases.{base_tree}
use Rattle.fx_run_commands.proofs.Runs.Tracing.{threaded_run}
use Rattle.fx_run_commands.proofs.running.runs.run_base.Goals as goal

pub returns-in-Ok : goal.returns-in-Ok
returns-in-Ok g c =
    let ran = c.in_ok-board.ensures in
    threaded_run (base_tree c.args.base.value) c.in_ok-board.board c.in_ok-board.retries c.in-Ok.output ran.base ran.complete ran.retries ran.ran c.in-Ok.ensures
