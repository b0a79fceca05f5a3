use Rattle.fx_spec.proofs.EditLooks.{edits_look_at_changes}
use Rattle.fx_spec.proofs.laws.edits_look_at_what_they_change.Goals as goal

pub returns : goal.returns
returns c = edits_look_at_changes
