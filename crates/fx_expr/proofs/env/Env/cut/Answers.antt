use Rattle.std.proofs.Common.{◌∙◌, sym, ap, map, take}
use Rattle.std.proofs.lemmas.List.{take-map}
use Rattle.fx_expr.specs.Views.{entry_tree}
use Rattle.fx_expr.proofs.env.Env.cut.Goals as goal

pub returns : goal.returns
returns c = ap (λ l. map entry_tree l) c.truncate.ensures.items ∙ sym (take-map entry_tree c.args.len c.self.inside.bindings.items) ∙ ap (λ l. take c.args.len l) c.self.view_is
