use Rattle.fx_laws_above.proofs.Above.{saved_in_folders}
use Rattle.fx_laws_above.proofs.folders.a_saved_folder_stood_in_one.Goals as goal

pub returns : goal.returns
returns c = saved_in_folders
