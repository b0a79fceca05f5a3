use Rattle.fx_spec.specs.Bases.{base_tree}
use Rattle.fx_run_commands.proofs.Runs.Watching.{watched_run}
use Rattle.fx_run_commands.proofs.running.runs.run_watching.Goals as goal

pub returns : goal.returns
returns c = watched_run (base_tree c.args.base.value) c.args.schedule.now c.in_ok-board.board c.in_ok-board.output c.in_ok-board.ensures
