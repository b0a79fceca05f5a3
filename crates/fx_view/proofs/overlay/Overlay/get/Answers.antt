use Rattle.std.proofs.Common.{◌∙◌}
use Rattle.fx_view.proofs.Lookups.{lookup-own_at}
use Rattle.fx_view.proofs.overlay.Overlay.get.Goals as goal

pub returns-clause-change : goal.returns-clause-change
returns-clause-change c = rw (← c.self.view_is) (c.get.ensures ∙ lookup-own_at _ c.args.path.now)
