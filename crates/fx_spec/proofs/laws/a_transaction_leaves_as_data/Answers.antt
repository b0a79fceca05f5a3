use Rattle.fx_spec.proofs.Tasks.{leaves_as_data}
use Rattle.fx_spec.proofs.laws.a_transaction_leaves_as_data.Goals as goal

pub returns : goal.returns
returns c = leaves_as_data
