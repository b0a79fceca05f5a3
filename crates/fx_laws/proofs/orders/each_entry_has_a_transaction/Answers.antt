use Rattle.fx_laws.proofs.Planned.{entries_are_of_the_plan}
use Rattle.fx_laws.proofs.orders.each_entry_has_a_transaction.Goals as goal

pub returns : goal.returns
returns c = entries_are_of_the_plan
