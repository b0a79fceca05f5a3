use Rattle.fx_zip.proofs.Worked.{calls_evaluate}
use Rattle.fx_zip.proofs.laws.accepted_calls_evaluate_no_more.Goals as goal

pub returns : goal.returns
returns g c = calls_evaluate _ g.R.Reader.meaning
