use Rattle.fx_machine.proofs.Going.{goes_on}
use Rattle.fx_machine.proofs.Tasked.{looks_at_paths}
use Rattle.fx_machine.proofs.progress.a_run_goes_on.Goals as goal

pub returns : goal.returns
returns c = goes_on looks_at_paths
