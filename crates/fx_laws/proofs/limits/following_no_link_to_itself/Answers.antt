use Rattle.fx_laws.proofs.Limited.{stops_at_loop}
use Rattle.fx_laws.proofs.limits.following_no_link_to_itself.Goals as goal

pub returns : goal.returns
returns c = stops_at_loop
