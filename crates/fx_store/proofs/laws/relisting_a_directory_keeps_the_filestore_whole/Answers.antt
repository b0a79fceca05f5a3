use Rattle.fx_store.proofs.Relisted.{IsWhole-relisted}
use Rattle.fx_store.proofs.laws.relisting_a_directory_keeps_the_filestore_whole.Goals as goal

pub returns : goal.returns
returns c = IsWhole-relisted
