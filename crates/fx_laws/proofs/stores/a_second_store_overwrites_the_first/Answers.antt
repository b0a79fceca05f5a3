use Rattle.fx_laws.proofs.Overwritten.{file_stores_overwrite}
use Rattle.fx_laws.proofs.stores.a_second_store_overwrites_the_first.Goals as goal

pub returns : goal.returns
returns c = file_stores_overwrite
