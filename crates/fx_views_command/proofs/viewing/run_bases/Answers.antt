use Rattle.std.proofs.Common.{◌≡◌, ◌++◌, subst}
use Rattle.fx_spec.specs.Bases.{base_tree}
use Rattle.fx_spec.specs.Plans.{script_of}
use Rattle.fx_board.specs.Log.{Log}
use Rattle.fx_report.specs.Entries.{report}
use Rattle.fx_report.specs.Views.{views_text}
use Rattle.fx_views_command.proofs.Tracing.{views_run}
use Rattle.fx_views_command.proofs.viewing.run_bases.Goals as goal

pub returns-in-Ok : goal.returns-in-Ok
returns-in-Ok g c =
    let r = c.in_ok-log in
    let ran = r.ensures in
    let printed = subst (λ (log : Log). c.in-Ok.output ≡ report log.base log.order r.retries ++ views_text r.viewed) c.board.ensures c.in-Ok.ensures in
    views_run (base_tree c.args.bases.scripts.value) (script_of c.args.bases.views.value.plan 0) r.log r.retries r.viewed c.in-Ok.output ran.base ran.complete ran.retries ran.ran ran.viewed printed
