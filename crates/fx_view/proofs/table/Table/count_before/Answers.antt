use Rattle.std.proofs.Common.{ap, is_some, sym, ◌∙◌, arith, length, length-append}
use Rattle.std.specs.Ordering.{eq_by_cmp}
use Rattle.fx_store.specs.Names.{path_cmp}
use Rattle.fx_view.specs.Few.{entries_in}
use Rattle.fx_view.proofs.Few.{place_first, place_rest, place_some, place_none, lookup_rest}
use Rattle.fx_view.proofs.table.Table.count_before.Goals as goal

pub returns-in-Some : goal.returns-in-Some
returns-in-Some g c =
    rw (← c.self.view_is)
    (sym (place_first (eq_by_cmp path_cmp c.args.path.now) c.self.inside.few.items (entries_in c.self.inside.many) c.in-Some.i (rw c.as_slice.ensures.value at c.in-Some.ensures.place)))

pub overflow_add-result : goal.overflow_add-result
overflow_add-result g c =
    let whole = c.len-len.ensures ∙ ap length (sym c.self.view_is) ∙ length-append c.self.inside.few.items (entries_in c.self.inside.many) in
    omega (arith, whole, c.in-Some-index_in.ensures.within)

pub returns-in-Some-index_in : goal.returns-in-Some-index_in
returns-in-Some-index_in g c =
    let is = eq_by_cmp path_cmp c.args.path.now in
    let some = place_some is (entries_in c.self.inside.many) c.in-Some-index_in.i (sym c.index_in.ensures.index ∙ c.in-Some-index_in.is) in
    let rest = place_rest is c.self.inside.few.items (entries_in c.self.inside.many) (rw c.as_slice.ensures.value at c.in_default.ensures.place) in
    rw (← c.self.view_is) (omega (arith, some, rest))

pub returns-in-None : goal.returns-in-None
returns-in-None g c =
    let is = eq_by_cmp path_cmp c.args.path.now in
    let rest = rw c.self.view_is at (lookup_rest is c.self.inside.few.items (entries_in c.self.inside.many) (rw c.as_slice.ensures.value at c.in_default.ensures.place)) in
    c.len-len.ensures ∙ sym (place_none is c.args.self.now (ap is_some rest ∙ (sym c.index_in.ensures.found ∙ ap is_some c.in-None.is)))
