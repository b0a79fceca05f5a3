use Rattle.fx_store.proofs.Tables.{HasEachOnce-table}
use Rattle.fx_store.proofs.filestore.Filestore.places.Goals as goal

pub returns-clause-each : goal.returns-clause-each
returns-clause-each c = rw (← c.self.view_is) (HasEachOnce-table _ c.self.invariant)
