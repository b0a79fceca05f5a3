use Rattle.fx_folder.proofs.Prelude.{◌-◌, length, ReadsOnly, AsksIn, parts, IsWalking}
use Rattle.fx_folder.proofs.walking.Loader.walk_items.Given as goal

abbrev pub invariant-walking : goal.invariant-walking
invariant-walking g l = record {
  walking : IsWalking (g.H.Host.view l.fn.host).told (parts l.folder) l.self.found.items l.self.left l.todo.items;
  reads : ReadsOnly (g.H.Host.view l.fn.host) (g.H.Host.view l.host);
  fit : AsksIn l.folder (g.H.Host.view l.fn.host) (g.H.Host.view l.host);
}

abbrev pub decreases-walking : goal.decreases-walking
decreases-walking g l = 100001 - length l.self.found.items
