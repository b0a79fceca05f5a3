use Rattle.fx_spec.proofs.Counted.{values_evaluate}
use Rattle.fx_spec.proofs.laws.a_value_evaluates_as_counted.Goals as goal

pub returns : goal.returns
returns c = values_evaluate
