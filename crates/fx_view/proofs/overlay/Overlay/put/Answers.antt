use Rattle.std.proofs.Common.{sym, subst, ◌∙◌}
use Rattle.std.specs.Cmp.{eq_by_cmp_equiv}
use Rattle.fx_store.specs.Orders.{path_total}
use Rattle.fx_view.specs.Own.{IsOwn}
use Rattle.fx_view.proofs.Few.{once_insert}
use Rattle.fx_view.proofs.Lookups.{insert-put_own}
use Rattle.fx_view.proofs.overlay.Overlay.put.Goals as goal

pub invariant_of-self-2 : goal.invariant_of-self-2
invariant_of-self-2 c = subst IsOwn (sym c.in_ok-insert.ensures.ok) (once_insert (eq_by_cmp_equiv path_total) c.args.path c.args.node c.self.inside.table c.self.invariant)

pub returns-clause-ok : goal.returns-clause-ok
returns-clause-ok c = rw (← c.self.view_is) (c.in_ok-insert.ensures.ok ∙ insert-put_own c.self.inside.table c.args.path c.args.node)
