use Rattle.fx_machine.proofs.Ending.{comes_to_end}
use Rattle.fx_machine.proofs.Going.{goes_on}
use Rattle.fx_machine.proofs.Tasked.{looks_at_paths}
use Rattle.fx_machine.proofs.progress.a_run_comes_to_its_end.Goals as goal

pub returns : goal.returns
returns c = comes_to_end (goes_on looks_at_paths)
