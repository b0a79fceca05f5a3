use Rattle.fx_laws.proofs.Saved.{folders_are_of_one}
use Rattle.fx_laws.proofs.folders.folders_are_of_one.Goals as goal

pub returns : goal.returns
returns c = folders_are_of_one
