use Rattle.fx_laws.proofs.Retried.{names_are_added}
use Rattle.fx_laws.proofs.retries.adding_a_name_to_a_directory.Goals as goal

pub returns : goal.returns
returns c = names_are_added
