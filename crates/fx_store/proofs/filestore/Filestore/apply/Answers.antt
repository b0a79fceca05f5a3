use Rattle.std.proofs.Common.{sym, subst}
use Rattle.std.specs.List.{IsDistinct}
use Rattle.std.specs.Ordering.{eq_by_cmp}
use Rattle.std.specs.FinMap.{get}
use Rattle.fx_store.specs.Names.{path_cmp}
use Rattle.fx_store.specs.Whole.{IsWhole, over}
use Rattle.fx_store.specs.Filestore.{Table}
use Rattle.fx_store.proofs.Stores.{IsWhole-over_nodes}
use Rattle.fx_store.proofs.Tables.{IsTable-of}
use Rattle.fx_store.proofs.filestore.Filestore.apply.Goals as goal

pub invariant_of-self : goal.invariant_of-self
invariant_of-self c = IsTable-of _ (rw (c.put_all.ensures.nodes, c.into_vec.ensures.changes) (IsWhole-over_nodes _ c.args.changes (subst (λ (t : Table). IsWhole (over (get t.nodes) c.args.changes)) (sym c.self.view_is) c.requires.whole))) (subst (IsDistinct (eq_by_cmp path_cmp)) (sym c.put_all.ensures.places) c.self.invariant.distinct)
