use Rattle.fx_spec.proofs.Orders.{complete_has_each_once}
use Rattle.fx_spec.proofs.laws.a_complete_order_has_each_transaction_once.Goals as goal

pub returns : goal.returns
returns c = complete_has_each_once
