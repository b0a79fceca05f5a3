use Rattle.fx_folder.proofs.Growing.{begin_grown, grown}
use Rattle.fx_folder.proofs.Ways.{begin_told}
use Rattle.fx_folder.proofs.walking.walk.Goals as goal

pub walk_items-requires-clause-walking : goal.walk_items-requires-clause-walking
walk_items-requires-clause-walking g c = record {
  way = begin_told (g.H.Host.view c.args.host.now).told c.args.folder.now c.args.names.now c.push.new.self.items c.new-found.result.items c.add_items.new.todo.items c.new-todo.result.items c.in_ok-top.top c.root-path.result c.new.result (g.met.H.Host.whole c.args.host.now) c.requires.told c.in_ok-push.ensures.items c.new-found.ensures.items c.root-path.ensures c.new.ensures c.in_ok-add_items.ensures c.new-todo.ensures.items c.in_ok-top.ensures;
  grown = begin_grown c.args.names.now c.push.new.self.items c.new-found.result.items c.add_items.new.todo.items c.new-todo.result.items c.in_ok-top.top c.root-path.result c.new.result c.in_ok-push.ensures.items c.new-found.ensures.items c.root-path.ensures c.new.ensures c.in_ok-add_items.ensures c.new-todo.ensures.items c.in_ok-top.ensures;
}

pub returns-clause-found : goal.returns-clause-found
returns-clause-found g c = grown _ c.in_ok-walk_items.ensures.walking.grown
