use Rattle.fx_store.specs.Orders.{name_total}
use Rattle.fx_store.proofs.Ascending.{searched}
use Rattle.fx_store.proofs.names.Names.has.Goals as goal

pub returns-clause-found : goal.returns-clause-found
returns-clause-found c =
    rw (c.is_ok.ensures.value, ← c.self.view_is) (searched name_total _ c.args.name.now _ c.self.invariant.set.ascending c.search.ensures.bound c.search.ensures.position)
