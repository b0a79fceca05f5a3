use Rattle.std.proofs.Common.{subst, []}
use Rattle.fx_spec.specs.TextViews.{written}
use Rattle.fx_spec.specs.WellShaped.{IsDescription}
use Rattle.fx_spec.proofs.Meaning.{text_described}
use Rattle.fx_spec.proofs.checked.Checked.root.Goals as goal

pub returns-clause-described : goal.returns-clause-described
returns-clause-described c = subst (IsDescription []) c.self.view_is (text_described (written c.self.inside.description.value) c.self.invariant)
