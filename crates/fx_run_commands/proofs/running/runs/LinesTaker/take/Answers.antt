use Rattle.std.proofs.Common.{[], ◌++◌, ap, ◌∙◌}
use Rattle.std.proofs.lemmas.List.{flat_map_more}
use Rattle.std.proofs.lemmas.Result.{on_ok_weaker}
use Rattle.fx_report.specs.Events.{event_line}
use Rattle.fx_run_commands.proofs.running.runs.LinesTaker.take.Goals as goal

pub returns-clause-ok : goal.returns-clause-ok
returns-clause-ok c = λ events before taken leads.
    on_ok_weaker c.add_event_line.result
    (λ added. added ∙ ap (λ text. text ++ event_line c.args.event) taken ∙ flat_map_more event_line [] events c.args.event) c.add_event_line.ensures
