use Rattle.fx_spec.proofs.Tasks.{depends_on_way}
use Rattle.fx_spec.proofs.laws.a_transaction_depends_on_its_way.Goals as goal

pub returns : goal.returns
returns c = depends_on_way
