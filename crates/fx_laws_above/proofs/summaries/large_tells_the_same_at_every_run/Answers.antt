use Rattle.fx_laws_above.proofs.Totals.{large_tells_the_same}
use Rattle.fx_laws_above.proofs.summaries.large_tells_the_same_at_every_run.Goals as goal

pub returns : goal.returns
returns c = large_tells_the_same
