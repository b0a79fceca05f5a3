use Rattle.std.proofs.Common.{◌≡◌, ◌<◌, List, length, get_or, subst, ap, rules, arith}
use Rattle.fx_store.specs.declared.changes.Change.{Change}
use Rattle.fx_shared.proofs.Rooms.{rooms_more, rooms_all, roomier_then}
use Rattle.fx_shared.proofs.keeping.prepare.Goals as goal

pub loop-change-preserved : goal.loop-change-preserved
loop-change-preserved c =
    let old = c.loop-change.table.entries in
    let new = c.make_room.new.table.entries in
    let i = c.loop-change.change-index in
    let item = c.change-item.result in
    let same = c.as_slice-change-items.ensures.changes in
    let within = subst (λ (cs : List Change). i < length cs) same c.loop-change-test.true in
    let at = subst (λ (cs : List Change). item ≡ get_or cs i item) same c.change-item.is in
    record {
      room = rooms_more old new c.args.changes.now i item c.make_room.ensures.roomier within at c.in_ok-make_room.ensures.room c.loop-change.invariant.room;
      roomier = roomier_then _ old new c.loop-change.invariant.roomier c.make_room.ensures.roomier;
    }

pub returns-clause-room : goal.returns-clause-room
returns-clause-room c =
    let past = c.loop-change-test.false in
    let same = ap length c.as_slice-change-items.ensures.changes in
    let room = rooms_all c.loop-change.table.entries c.args.changes.now c.loop-change.change-index (omega (arith, past, same)) c.loop-change.invariant.room in
    search (rules, room)
