use Rattle.fx_table.proofs.Mixing.{rest_moved, rest_made}
use Rattle.fx_table.proofs.merging.move_rest.Goals as goal

pub moving-preserved : goal.moving-preserved
moving-preserved c = record {
  made = rest_made c.moving.rest.items c.pop.new.self.items c.in-Some.next c.moving.invariant.made c.in-Some.ensures.items;
  moved = rest_moved c.args.rest.now.items c.moving.rest.items c.pop.new.self.items c.args.all.now.items c.moving.all.items c.push.new.self.items c.in-Some.next c.moving.invariant.made c.moving.invariant.moved c.in-Some.ensures.items c.in_ok-push.ensures.items;
}
