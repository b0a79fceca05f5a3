use Rattle.fx_laws.proofs.Scripted.{joins_chosen_files}
use Rattle.fx_laws.proofs.scripts.joining_the_chosen_files.Goals as goal

pub returns : goal.returns
returns c = joins_chosen_files
