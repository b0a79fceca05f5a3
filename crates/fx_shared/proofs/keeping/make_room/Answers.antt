use Rattle.std.proofs.Common.{rules, sym}
use Rattle.fx_shared.proofs.Rooms.{reserved, inserted}
use Rattle.fx_shared.proofs.keeping.make_room.Goals as goal

pub returns-in_err-reserve-in-Some-clause-roomier : goal.returns-in_err-reserve-in-Some-clause-roomier
returns-in_err-reserve-in-Some-clause-roomier c =
    let w = c.reserve.new.self in
    let e = c.reserve.ensures in
    reserved _ _ c.args.path.now w ((c.get_mut.follows.holds w).3 (search rules)).0 c.in-Some.versions.now (sym c.in-Some.ensures.value) e.items e.len e.capacity

pub returns-in_ok-reserve-in-Some-clause-roomier : goal.returns-in_ok-reserve-in-Some-clause-roomier
returns-in_ok-reserve-in-Some-clause-roomier c =
    let w = c.reserve.new.self in
    let e = c.reserve.ensures in
    reserved _ _ c.args.path.now w ((c.get_mut.follows.holds w).3 (search rules)).0 c.in-Some.versions.now (sym c.in-Some.ensures.value) e.items e.len e.capacity

pub returns-in_ok-insert-in-None-clause-roomier : goal.returns-in_ok-insert-in-None-clause-roomier
returns-in_ok-insert-in-None-clause-roomier c =
    let w = c.reserve-in-None.new.self in
    inserted _ _ c.args.path.now w (search rules) (search rules) (search rules) (search rules)
