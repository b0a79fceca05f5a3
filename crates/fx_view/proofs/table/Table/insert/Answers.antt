use Rattle.std.proofs.Common.{sym}
use Rattle.std.specs.Ordering.{eq_by_cmp}
use Rattle.fx_store.specs.Names.{path_cmp}
use Rattle.fx_view.specs.Few.{entries_in}
use Rattle.fx_view.proofs.Few.{insert_first, insert_rest, insert_last}
use Rattle.fx_view.proofs.table.Table.insert.Goals as goal

pub returns-in-Some-clause-ok : goal.returns-in-Some-clause-ok
returns-in-Some-clause-ok g c =
    rw (← c.self.view_is)
    (insert_first (eq_by_cmp path_cmp) c.args.path c.args.value c.self.inside.few.items (entries_in c.self.inside.many) c.put.new.few.items c.in-Some.i (rw c.as_slice.ensures.value at c.in-Some.ensures.place) c.put.ensures.set)

pub returns-then-has_none-clause-ok : goal.returns-then-has_none-clause-ok
returns-then-has_none-clause-ok g c =
    rw (← c.self.view_is, c.in_ok-push.ensures.items)
    (insert_last (eq_by_cmp path_cmp) c.args.path c.args.value c.self.inside.few.items (entries_in c.self.inside.many) (rw c.as_slice.ensures.value at c.in_default.ensures.place) (c.has_none.ensures c.if-has_none.true))

pub returns-clause-ok : goal.returns-clause-ok
returns-clause-ok g c =
    rw (← c.self.view_is, c.in_ok-put_in.ensures.ok)
    (sym (insert_rest (eq_by_cmp path_cmp) c.args.path c.args.value c.self.inside.few.items (entries_in c.self.inside.many) (rw c.as_slice.ensures.value at c.in_default.ensures.place)))
