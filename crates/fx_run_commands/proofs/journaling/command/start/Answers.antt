use Rattle.std.proofs.Common.{Err, ap}
use Rattle.fx_run_commands.specs.Journals.Stages.{holds, fails}
use Rattle.fx_run_commands.proofs.journaling.command.start.Goals as goal

pub returns-in-Err-NotEmpty-clause-cause : goal.returns-in-Err-NotEmpty-clause-cause
returns-in-Err-NotEmpty-clause-cause g c =
    let is = ap (λ e. Err e) c.in-Err-NotEmpty.field-0-is in
    let full = c.in-Err-NotEmpty.ensures.not_empty is in
    holds full.0 (c.in-Err-NotEmpty.ensures.calm_not_empty is) (c.in-Err-NotEmpty.ensures.at_path is, full.1)

pub returns-in-Err-Failed-clause-cause : goal.returns-in-Err-Failed-clause-cause
returns-in-Err-Failed-clause-cause g c = fails (c.in-Err-Failed.ensures.failed (ap (λ e. Err e) c.in-Err-Failed.field-0-is))
