use Rattle.fx_machine.proofs.Complete.{complete_runs}
use Rattle.fx_machine.proofs.laws.the_conflicts_of_a_run_are_its_retries.Goals as goal

pub returns : goal.returns
returns c = complete_runs
