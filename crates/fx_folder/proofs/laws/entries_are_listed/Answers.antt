use Rattle.fx_folder.proofs.Refusals.{entries_are_listed}
use Rattle.fx_folder.proofs.laws.entries_are_listed.Goals as goal

pub returns : goal.returns
returns c = entries_are_listed
