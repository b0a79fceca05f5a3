use Rattle.std.proofs.Common.{◌≡◌, map}
use Rattle.fx_store.specs.Resolve.{component_of}
use Rattle.fx_view.specs.Ways.{way}
use Rattle.fx_view.proofs.component.parts.Given as goal

abbrev pub invariant-loop-part : goal.invariant-loop-part
invariant-loop-part l =
    (goal.iterator-loop-part).can_next l.part-iterator ×
    (goal.iterator-loop-part).is_finite l.part-iterator ×
    (way l.found.items ≡ map component_of (map (λ x. x.now) l.yielded))
