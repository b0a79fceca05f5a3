use Rattle.fx_machine.proofs.Tasked.{looks_at_paths}
use Rattle.fx_machine.proofs.progress.a_transaction_looks_at_paths_alone.Goals as goal

pub returns : goal.returns
returns c = looks_at_paths
