use Rattle.fx_spec.proofs.Counted.{moves_evaluate}
use Rattle.fx_spec.proofs.laws.a_move_evaluates_once_at_most.Goals as goal

pub returns : goal.returns
returns c = moves_evaluate
