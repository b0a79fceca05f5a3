use Rattle.fx_laws.proofs.Retried.{entry_is_made}
use Rattle.fx_laws.proofs.retries.making_the_entry_of_an_option.Goals as goal

pub returns : goal.returns
returns c = entry_is_made
