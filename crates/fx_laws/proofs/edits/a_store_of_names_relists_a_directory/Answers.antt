use Rattle.fx_laws.proofs.Edited.{stores_relist}
use Rattle.fx_laws.proofs.edits.a_store_of_names_relists_a_directory.Goals as goal

pub returns : goal.returns
returns c = stores_relist
