use Rattle.fx_folder.proofs.Refusals.{first_causes_are_told}
use Rattle.fx_folder.proofs.laws.first_causes_are_told.Goals as goal

pub returns : goal.returns
returns c = first_causes_are_told
