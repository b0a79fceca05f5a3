use Rattle.fx_table.proofs.Prelude.{◌≡◌, ◌∙◌, sym, length, arith, common_steps}
use Rattle.fx_table.proofs.Mixing.{moves_none, moves_more, moves_stop, moves_end, less_is}
use Rattle.fx_table.proofs.merging.move_before.Goals as goal

pub moving-init : goal.moving-init
moving-init c = moves_none c.args.rest.now.items c.args.path.now c.args.all.now.items c.requires

pub returns-then-not-is_lt : goal.returns-then-not-is_lt
returns-then-not-is_lt c = moves_stop c.args.rest.now.items c.moving.rest.items c.pop.new.self.items c.push.new.self.items c.args.path.now c.args.all.now.items c.moving.all.items c.in-Some.next c.compare.result c.is_lt.result c.moving.invariant c.in-Some.ensures.items c.in_ok-push.ensures.items c.compare.ensures c.is_lt.ensures c.if-not-is_lt.true

pub moving-preserved : goal.moving-preserved
moving-preserved c = moves_more c.args.rest.now.items c.moving.rest.items c.pop.new.self.items c.args.path.now c.args.all.now.items c.moving.all.items c.push-in-Some.new.self.items c.in-Some.next c.moving.invariant c.in-Some.ensures.items (sym c.compare.ensures ∙ less_is c.compare.result c.is_lt.result c.is_lt.ensures c.if-not-is_lt.false) c.in_ok-push-2.ensures.items

pub returns : goal.returns
returns c =
    let none : length c.pop.new.self.items ≡ 0 = grind (arith, common_steps) in
    moves_end c.args.rest.now.items c.moving.rest.items c.pop.new.self.items c.args.path.now c.args.all.now.items c.moving.all.items c.moving.invariant c.in_default.ensures.items none
