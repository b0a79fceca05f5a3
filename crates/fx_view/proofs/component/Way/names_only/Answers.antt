use Rattle.std.proofs.Common.{◌∷◌, ◌++◌, ◌∙◌, option_map, ap, sym, Some}
use Rattle.fx_store.specs.Resolve as rule
use Rattle.fx_store.specs.Resolve.{names_only}
use Rattle.fx_view.specs.Ways.{way}
use Rattle.fx_view.proofs.Components.{names_then}
use Rattle.fx_view.proofs.component.Way.names_only.Goals as goal

pub returns-in_ok-with_names-in-Some : goal.returns-in_ok-with_names-in-Some
returns-in_ok-with_names-in-Some c =
    let these = c.self.inside.names in
    ap Some c.in_ok-with_names-in-Some.ensures
    ∙ (ap (option_map (λ ns. ns ++ these)) (sym c.in-Some.is ∙ c.in_ok-names.ensures)
    ∙ (sym (names_then (rule.Normal c.args.first ∷ way c.self.inside.parts.items) these) ∙ ap (λ rest. names_only (rule.Normal c.args.first ∷ rest)) c.self.view_is))

pub returns-in-None : goal.returns-in-None
returns-in-None c =
    let these = c.self.inside.names in
    ap (option_map (λ ns. ns ++ these)) (sym c.in-None.is ∙ c.in_ok-names.ensures)
    ∙ (sym (names_then (rule.Normal c.args.first ∷ way c.self.inside.parts.items) these) ∙ ap (λ rest. names_only (rule.Normal c.args.first ∷ rest)) c.self.view_is)
