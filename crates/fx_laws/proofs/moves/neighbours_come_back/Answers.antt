use Rattle.fx_laws.proofs.Neighbours.{neighbours_come_back}
use Rattle.fx_laws.proofs.moves.neighbours_come_back.Goals as goal

pub returns : goal.returns
returns c = neighbours_come_back
