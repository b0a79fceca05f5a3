use Rattle.fx_folder.proofs.Loaded.{loads_are_whole}
use Rattle.fx_folder.proofs.laws.loads_are_whole.Goals as goal

pub returns : goal.returns
returns c = loads_are_whole
