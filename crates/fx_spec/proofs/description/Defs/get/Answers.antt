use Rattle.std.proofs.Common.{ap, ◌∙◌}
use Rattle.fx_spec.proofs.Namings.{at_place, placed}
use Rattle.fx_spec.proofs.description.Defs.get.Goals as goal

pub returns-in_err-place : goal.returns-in_err-place
returns-in_err-place c = rw c.from_residual.ensures (ap (at_place c.args.self.now) c.in_err-place.ensures ∙ placed c.args.name.now c.args.self.now)

pub returns : goal.returns
returns c = c.at.ensures ∙ (ap (at_place c.args.self.now) c.in_ok-place.ensures ∙ placed c.args.name.now c.args.self.now)
