use Rattle.fx_laws.proofs.Retried.{element_is_removed}
use Rattle.fx_laws.proofs.retries.removing_an_element.Goals as goal

pub returns : goal.returns
returns c = element_is_removed
