use Rattle.fx_laws.proofs.Moved.{moves_lead_to_places, moves_are_undone}
use Rattle.fx_laws.proofs.moves.moves_lead_to_places.Goals as goal

pub returns-clause-places : goal.returns-clause-places
returns-clause-places c = moves_lead_to_places

pub returns-clause-undone : goal.returns-clause-undone
returns-clause-undone c = moves_are_undone
