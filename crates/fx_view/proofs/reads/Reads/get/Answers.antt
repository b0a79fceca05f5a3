use Rattle.std.proofs.Common.{◌∙◌}
use Rattle.fx_view.proofs.Lookups.{lookup-read_at}
use Rattle.fx_view.proofs.reads.Reads.get.Goals as goal

pub returns-clause-read : goal.returns-clause-read
returns-clause-read c = rw (← c.self.view_is) (c.get.ensures ∙ lookup-read_at _ c.args.path.now)
