use Rattle.fx_laws.proofs.Swapped.{neighbours_may_swap}
use Rattle.fx_laws.proofs.orders.neighbours_apart_may_swap.Goals as goal

pub returns : goal.returns
returns c = neighbours_may_swap
