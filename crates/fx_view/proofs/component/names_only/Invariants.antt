use Rattle.std.proofs.Common.{◌≡◌, ◌∷◌, length, drop}
use Rattle.fx_store.specs.Resolve as rule
use Rattle.fx_store.specs.Resolve.{names_only}
use Rattle.fx_view.specs.Ways.{way}
use Rattle.fx_view.proofs.Components.{gathered}
use Rattle.fx_view.proofs.component.names_only.Given as goal

abbrev pub invariant-loop-component : goal.invariant-loop-component
invariant-loop-component l =
    (goal.iterator-loop-component).can_next l.component-iterator ×
    (goal.iterator-loop-component).is_finite l.component-iterator ×
    (gathered l.names (drop (length l.yielded) l.rest.items) ≡ names_only (rule.Normal l.fn.first ∷ way l.rest.items))
