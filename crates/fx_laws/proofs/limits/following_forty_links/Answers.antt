use Rattle.fx_laws.proofs.Limited.{stops_after_forty}
use Rattle.fx_laws.proofs.limits.following_forty_links.Goals as goal

pub returns : goal.returns
returns c = stops_after_forty
