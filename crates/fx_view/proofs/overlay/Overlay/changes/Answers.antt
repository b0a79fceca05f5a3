use Rattle.std.specs.Cmp.{eq_by_cmp_equiv}
use Rattle.std.specs.Map.{keys_of}
use Rattle.fx_store.specs.Orders.{path_total, path_eq_same}
use Rattle.fx_view.proofs.Few.{once_moved, lookup_moved}
use Rattle.fx_view.proofs.Lookups.{lookup-own_at}
use Rattle.fx_view.proofs.Nets.{IsNet-of, IsChanges-net, ascending_from_sorted}
use Rattle.std.proofs.Common.{sym, ◌∙◌}
use Rattle.fx_view.proofs.overlay.Overlay.changes.Goals as goal

pub from_vec-requires : goal.from_vec-requires
from_vec-requires c =
    let sorted = c.in_ok-into_sorted.field-0.items in
    let once = once_moved (eq_by_cmp_equiv path_total) c.self.inside.table sorted c.in_ok-into_sorted.ensures.same c.self.invariant in
    IsChanges-net c.args.reads.now sorted _ c.in_ok-net.ensures (ascending_from_sorted path_total (keys_of sorted) c.in_ok-into_sorted.ensures.sorted once)

pub returns-clause-net : goal.returns-clause-net
returns-clause-net c =
    let own = c.self.inside.table in
    let sorted = c.in_ok-into_sorted.field-0.items in
    let laws = eq_by_cmp_equiv path_total in
    let once = once_moved laws own sorted c.in_ok-into_sorted.ensures.same c.self.invariant in
    let same = lookup_moved laws path_eq_same own sorted in
    rw (← c.self.view_is, c.from_vec.ensures)
    (IsNet-of c.args.reads.now own sorted _ (λ p. sym (lookup-own_at sorted p) ∙ (same p c.in_ok-into_sorted.ensures.same c.self.invariant once ∙ lookup-own_at own p)) once c.in_ok-net.ensures)
