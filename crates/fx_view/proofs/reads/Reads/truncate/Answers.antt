use Rattle.std.proofs.Common.{sym, subst}
use Rattle.std.specs.Cmp.{eq_by_cmp_equiv}
use Rattle.fx_store.specs.Orders.{path_total}
use Rattle.fx_view.specs.Reads.{IsReads}
use Rattle.fx_view.proofs.Few.{once_take}
use Rattle.fx_view.proofs.reads.Reads.truncate.Goals as goal

pub invariant_of-self : goal.invariant_of-self
invariant_of-self c = subst IsReads (sym c.truncate.ensures) (once_take (eq_by_cmp_equiv path_total) c.self.inside.table _ c.self.invariant)
