use Rattle.fx_laws.proofs.Spelled.{orders_are_spelled}
use Rattle.fx_laws.proofs.reports.orders_are_spelled.Goals as goal

pub returns : goal.returns
returns c = orders_are_spelled
