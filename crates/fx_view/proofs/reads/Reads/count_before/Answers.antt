use Rattle.std.proofs.Common.{◌∙◌}
use Rattle.fx_view.proofs.Lookups.{count_position}
use Rattle.fx_view.proofs.reads.Reads.count_before.Goals as goal

pub returns : goal.returns
returns c = rw (← c.self.view_is) (c.count_before.ensures ∙ count_position c.args.path.now _)
