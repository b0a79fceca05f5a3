use Rattle.fx_laws.proofs.Saved.{folders_are_what_they_load_as}
use Rattle.fx_laws.proofs.folders.folders_are_what_they_load_as.Goals as goal

pub returns : goal.returns
returns c = folders_are_what_they_load_as
