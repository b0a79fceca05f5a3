use Rattle.fx_laws.proofs.Created.{creations_are_undone}
use Rattle.fx_laws.proofs.edits.a_creation_is_undone_by_a_removal.Goals as goal

pub returns : goal.returns
returns c = creations_are_undone
