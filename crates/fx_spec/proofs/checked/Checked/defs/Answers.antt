use Rattle.std.proofs.Common.{ap, sym}
use Rattle.fx_spec.specs.TextViews.{written}
use Rattle.fx_spec.specs.declared.description.Description.{Description}
use Rattle.fx_spec.proofs.checked.Checked.defs.Goals as goal

pub returns : goal.returns
returns c =
    (written c.self.inside.description.value, record { checked = c.self.invariant; means = c.self.view_is }, ap (λ (d : Description). d.defs) (sym c.deref.ensures))
