use Rattle.fx_diaries.proofs.Closing.{diaries_make_runs}
use Rattle.fx_diaries.proofs.laws.diaries_make_runs.Goals as goal

pub returns : goal.returns
returns c = diaries_make_runs
