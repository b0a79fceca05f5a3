use Rattle.fx_laws.proofs.Undone.{undone_may_be_left_out}
use Rattle.fx_laws.proofs.orders.an_undone_transaction_may_be_left_out.Goals as goal

pub returns : goal.returns
returns c = undone_may_be_left_out
