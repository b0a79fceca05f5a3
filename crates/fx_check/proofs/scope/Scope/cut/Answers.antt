use Rattle.std.proofs.Common.{◌∙◌, sym, ap, map, take}
use Rattle.std.proofs.lemmas.List.{take-map}
use Rattle.fx_check.specs.Scopes.{entry_shape}
use Rattle.fx_check.proofs.scope.Scope.cut.Goals as goal

pub returns : goal.returns
returns c = ap (λ l. map entry_shape l) c.truncate.ensures.items ∙ sym (take-map entry_shape c.args.len c.self.inside.bindings.items) ∙ ap (λ l. take c.args.len l) c.self.view_is
