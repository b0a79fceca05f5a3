use Rattle.fx_laws.proofs.Swapped.{one_script_one_order}
use Rattle.fx_laws.proofs.orders.one_script_has_one_order.Goals as goal

pub returns : goal.returns
returns c = one_script_one_order
