use Rattle.std.proofs.Common.{sym, ◌∙◌, ap}
use Rattle.std.proofs.lemmas.Slice.Zip.{firsts-zip}
use Rattle.fx_expr.specs.Rows.{keys_of}
use Rattle.fx_expr.proofs.keyed.Keyed.keys.Goals as goal

pub returns : goal.returns
returns g c = sym (firsts-zip _ _ c.self.invariant) ∙ ap keys_of c.self.view_is
