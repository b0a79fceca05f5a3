use Rattle.fx_spec.proofs.EditLaws.{edits_keep_whole}
use Rattle.fx_spec.proofs.laws.edits_keep_a_filestore_whole.Goals as goal

pub returns : goal.returns
returns c = edits_keep_whole
