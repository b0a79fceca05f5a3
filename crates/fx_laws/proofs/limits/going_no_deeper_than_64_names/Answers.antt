use Rattle.fx_laws.proofs.Limited.{goes_no_deeper}
use Rattle.fx_laws.proofs.limits.going_no_deeper_than_64_names.Goals as goal

pub returns : goal.returns
returns c = goes_no_deeper
