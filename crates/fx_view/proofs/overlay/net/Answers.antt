use Rattle.std.proofs.Common.{[], sym, subst}
use Rattle.fx_view.specs.Net.{IsNetOf, none}
use Rattle.fx_view.proofs.Nets.{net_more}
use Rattle.fx_view.proofs.overlay.net.Goals as goal

pub loop-path-init : goal.loop-path-init
loop-path-init c = subst (IsNetOf c.args.reads.now []) (sym c.new-changes.ensures.items) none

pub loop-path-preserved : goal.loop-path-preserved
loop-path-preserved c = net_more c.args.reads.now c.loop-path.yielded c.loop-path.changes.items c.add_net.new.changes.items (c.in-Some.path, c.in-Some.node) c.loop-path.invariant c.in_ok-add_net.ensures
