use Rattle.fx_spec.proofs.Transactions.{states_are_whole}
use Rattle.fx_spec.proofs.laws.states_of_an_order_are_whole.Goals as goal

pub returns : goal.returns
returns c = states_are_whole
