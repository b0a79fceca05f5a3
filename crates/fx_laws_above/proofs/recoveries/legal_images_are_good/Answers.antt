use Rattle.fx_commands.proofs.Recoveries.Legal.{legal_images_are_good}
use Rattle.fx_laws_above.proofs.recoveries.legal_images_are_good.Goals as goal

pub returns : goal.returns
returns c = legal_images_are_good
