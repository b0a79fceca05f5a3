use Rattle.fx_laws.proofs.Saved.{loaded_folders_stay}
use Rattle.fx_laws.proofs.folders.loaded_folders_stay.Goals as goal

pub returns : goal.returns
returns c = loaded_folders_stay
