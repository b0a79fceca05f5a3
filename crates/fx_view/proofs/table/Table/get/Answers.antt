use Rattle.std.specs.Cmp.{eq_by_cmp_equiv}
use Rattle.std.specs.Ordering.{eq_by_cmp}
use Rattle.fx_store.specs.Names.{path_cmp}
use Rattle.fx_store.specs.Orders.{path_total, path_eq_same}
use Rattle.fx_view.specs.Few.{entries_in}
use Rattle.fx_view.proofs.Few.{lookup_first, lookup_last, lookup_neither}
use Rattle.fx_view.proofs.table.Table.get.Goals as goal

pub returns-in-Some : goal.returns-in-Some
returns-in-Some g c =
    rw (← c.self.view_is)
    (lookup_last (eq_by_cmp_equiv path_total) path_eq_same c.self.inside.few.items (entries_in c.self.inside.many) c.args.path.now c.in-Some.value.now (rw c.self.view_is c.requires) c.in-Some.ensures)

pub returns-in-Some-place_in : goal.returns-in-Some-place_in
returns-in-Some-place_in g c =
    rw (← c.self.view_is, c.as_slice-few.ensures.value)
    (lookup_first (eq_by_cmp path_cmp c.args.path.now) c.self.inside.few.items (entries_in c.self.inside.many) c.in-Some-place_in.i c.index-few-i.result (rw c.as_slice-few.ensures.value at c.in-Some-place_in.ensures.place))

pub returns-in-None : goal.returns-in-None
returns-in-None g c =
    rw (← c.self.view_is)
    (lookup_neither (eq_by_cmp path_cmp c.args.path.now) c.self.inside.few.items (entries_in c.self.inside.many) (rw c.as_slice-few.ensures.value at c.in-None.ensures.place) c.in_default.ensures)
