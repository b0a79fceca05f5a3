use Rattle.fx_folder.proofs.RoundTrip.{folders_are_loaded}
use Rattle.fx_folder.proofs.laws.folders_are_loaded.Goals as goal

pub returns : goal.returns
returns c = folders_are_loaded
