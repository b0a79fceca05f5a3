use Rattle.fx_laws_above.proofs.Begun.{one_base}
use Rattle.fx_laws_above.proofs.reports.a_run_begins_in_one_way.Goals as goal

pub returns : goal.returns
returns c = one_base
