use Rattle.fx_store.specs.Orders.{name_total}
use Rattle.fx_store.proofs.Ascending.{is_next}
use Rattle.fx_store.proofs.names.Names.is_next.Goals as goal

pub returns : goal.returns
returns c = rw (← c.self.view_is) (is_next name_total _ c.args.name.now _ c.self.invariant.set.ascending c.is_above.ensures)
