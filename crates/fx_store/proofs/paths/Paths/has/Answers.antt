use Rattle.fx_store.specs.Orders.{path_total}
use Rattle.fx_store.proofs.Ascending.{searched}
use Rattle.fx_store.proofs.paths.Paths.has.Goals as goal

pub returns-clause-found : goal.returns-clause-found
returns-clause-found c =
    rw (c.is_ok.ensures.value, ← c.self.view_is, ← c.deref.ensures.value) (searched path_total _ c.args.path.now _ (rw c.deref.ensures.value c.self.invariant.ascending) c.binary_search.ensures.bound c.binary_search.ensures.position)
