use Rattle.fx_laws.proofs.Scripted.{leaves_no_place}
use Rattle.fx_laws.proofs.scripts.moving_on_from_a_removed_element.Goals as goal

pub returns : goal.returns
returns c = leaves_no_place
