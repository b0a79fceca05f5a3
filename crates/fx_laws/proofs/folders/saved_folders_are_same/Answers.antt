use Rattle.fx_laws.proofs.Saved.{saved_folders_are_same}
use Rattle.fx_laws.proofs.folders.saved_folders_are_same.Goals as goal

pub returns : goal.returns
returns c = saved_folders_are_same
