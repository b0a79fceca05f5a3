use Rattle.std.proofs.Common.{◌≡◌, ◌++◌, map}
use Rattle.fx_store.proofs.parts.add_names.Given as goal

abbrev pub invariant-loop-part : goal.invariant-loop-part
invariant-loop-part l =
    (goal.iterator-loop-part).can_next l.part-iterator ×
    (goal.iterator-loop-part).is_finite l.part-iterator ×
    (l.names.items ≡ l.initial.names.items ++ map (λ x. x.now) l.yielded)
