use Rattle.fx_store.proofs.Asks.{depends}
use Rattle.fx_store.proofs.laws.a_rule_depends_on_what_it_asked.Goals as goal

pub returns : goal.returns
returns g c = depends
