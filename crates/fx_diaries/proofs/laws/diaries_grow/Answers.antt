use Rattle.fx_diaries.proofs.Growing.{diaries_grow}
use Rattle.fx_diaries.proofs.laws.diaries_grow.Goals as goal

pub returns : goal.returns
returns c = diaries_grow
