use Rattle.fx_machine.proofs.Legal.{settling_keeps_legal}
use Rattle.fx_machine.proofs.laws.settling_keeps_the_order_legal.Goals as goal

pub returns : goal.returns
returns c = settling_keeps_legal
