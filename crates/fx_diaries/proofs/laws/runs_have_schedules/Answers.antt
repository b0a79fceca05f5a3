use Rattle.fx_diaries.proofs.Following.{runs_have_schedules}
use Rattle.fx_diaries.proofs.laws.runs_have_schedules.Goals as goal

pub returns : goal.returns
returns c = runs_have_schedules
