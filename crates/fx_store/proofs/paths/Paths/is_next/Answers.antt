use Rattle.fx_store.specs.Orders.{path_total}
use Rattle.fx_store.proofs.Ascending.{is_next}
use Rattle.fx_store.proofs.paths.Paths.is_next.Goals as goal

pub returns : goal.returns
returns c =
    rw (← c.self.view_is, ← c.deref.ensures.value) (is_next path_total _ c.args.path.now _ (rw c.deref.ensures.value c.self.invariant.ascending) c.is_above.ensures)
