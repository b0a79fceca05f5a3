use Rattle.std.proofs.Common.{◌++◌, ap, ◌∙◌}
use Rattle.fx_spec.specs.Bases.{base_tree}
use Rattle.fx_report.specs.Entries.{report}
use Rattle.fx_run_commands.proofs.Runs.Tracing.{traced_run}
use Rattle.fx_run_commands.proofs.running.runs.run_by.Goals as goal

pub returns-in-Ok-output : goal.returns-in-Ok-output
returns-in-Ok-output c =
    let board = c.in-Ok.board in
    let retries = c.in-Ok.retries in
    let played = c.in-Ok.ensures.ok in
    traced_run (base_tree c.args.base.value) c.args.schedule.now (record { board = board; retries = retries; events = played.events }) c.in-Ok-output.output played.traced
    (c.in-Ok-output.ensures ∙ ap (λ front. front ++ report board.base board.order retries) played.taken)
