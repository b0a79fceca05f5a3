use Rattle.fx_laws.proofs.Edited.{removals_remove}
use Rattle.fx_laws.proofs.edits.a_removal_leaves_the_rest.Goals as goal

pub returns : goal.returns
returns c = removals_remove
