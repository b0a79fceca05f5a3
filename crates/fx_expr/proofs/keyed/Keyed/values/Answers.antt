use Rattle.std.proofs.Common.{sym, ◌∙◌, ap}
use Rattle.std.proofs.lemmas.Slice.Zip.{seconds-zip}
use Rattle.fx_expr.specs.Rows.{values_of}
use Rattle.fx_expr.proofs.keyed.Keyed.values.Goals as goal

pub returns : goal.returns
returns g c = c.as_slice.ensures.value ∙ sym (seconds-zip _ _ c.self.invariant) ∙ ap values_of c.self.view_is
