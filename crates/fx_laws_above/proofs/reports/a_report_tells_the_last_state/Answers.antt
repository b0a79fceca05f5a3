use Rattle.fx_laws_above.proofs.Begun.{reports_tell_the_state}
use Rattle.fx_laws_above.proofs.reports.a_report_tells_the_last_state.Goals as goal

pub returns : goal.returns
returns c = reports_tell_the_state
