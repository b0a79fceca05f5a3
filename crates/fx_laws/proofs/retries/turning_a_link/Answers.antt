use Rattle.fx_laws.proofs.Retried.{link_is_turned}
use Rattle.fx_laws.proofs.retries.turning_a_link.Goals as goal

pub returns : goal.returns
returns c = link_is_turned
