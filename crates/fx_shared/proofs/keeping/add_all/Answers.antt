use Rattle.std.proofs.Common.{◌≡◌, ◌∷◌, ◌++◌, sym, ap, subst, ◌∙◌}
use Rattle.std.specs.Vec.Iter.{into_iter_items}
use Rattle.fx_store.specs.Changes.{IsChanges, change_at}
use Rattle.fx_shared.specs.Versions.{version_of}
use Rattle.fx_shared.specs.Tables.{versions_in, HaveRoom}
use Rattle.fx_shared.proofs.Rooms.{room_first, rooms_left, ascending_rest, added_with_rest}
use Rattle.fx_shared.proofs.keeping.add_all.Goals as goal

pub add_one-requires : goal.add_one-requires
add_one-requires c =
    let items : into_iter_items c.loop-change.change-iterator ≡ c.in-Some.change ∷ into_iter_items c.next.new.self = c.in-Some.ensures.steps.0 in
    room_first c.loop-change.table.entries c.in-Some.change (into_iter_items c.next.new.self) (subst (HaveRoom c.loop-change.table.entries) items c.loop-change.invariant.room)

pub loop-change-preserved : goal.loop-change-preserved
loop-change-preserved c =
    let items : into_iter_items c.loop-change.change-iterator ≡ c.in-Some.change ∷ into_iter_items c.next.new.self = c.in-Some.ensures.steps.0 in
    let rest = into_iter_items c.next.new.self in
    let old = c.loop-change.table.entries in
    let new = c.add_one.new.table.entries in
    let up = subst IsChanges items c.loop-change.invariant.ascending in
    record {
      room = rooms_left old new c.in-Some.change rest c.args.entry c.add_one.ensures up (subst (HaveRoom old) items c.loop-change.invariant.room);
      ascending = ascending_rest c.in-Some.change rest up;
      added = λ path.
          added_with_rest old new c.in-Some.change rest c.args.entry c.add_one.ensures up path
          ∙ (ap (λ cs. versions_in old path ++ version_of c.args.entry (change_at cs path)) (sym items) ∙ c.loop-change.invariant.added path);
    }
