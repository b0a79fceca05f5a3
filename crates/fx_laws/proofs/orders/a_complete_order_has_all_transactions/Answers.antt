use Rattle.fx_laws.proofs.Long.{complete_orders_are_long}
use Rattle.fx_laws.proofs.orders.a_complete_order_has_all_transactions.Goals as goal

pub returns : goal.returns
returns c = complete_orders_are_long
