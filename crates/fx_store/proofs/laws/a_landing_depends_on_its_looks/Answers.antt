use Rattle.fx_store.proofs.Asks.{depends}
use Rattle.fx_store.proofs.laws.a_landing_depends_on_its_looks.Goals as goal

pub returns : goal.returns
returns c = λ S T p follow. depends (Rattle.fx_store.specs.Resolve.resolve p follow) S T
