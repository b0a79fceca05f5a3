use Rattle.std.proofs.Common.{◌≡◌, ◌++◌, ◌∷◌}
use Rattle.std.specs.List.{flat_map}
use Rattle.std.specs.Slice.Iter.{iter_rest}
use Rattle.fx_report.specs.Print.{spelled}
use Rattle.fx_report.proofs.quotes.add_spelled_names.Given as goal

abbrev pub invariant-loop-name : goal.invariant-loop-name
invariant-loop-name l =
    l.out.items ++ flat_map spelled (flat_map (λ name. 47 ∷ name) l.name-iterator) ≡ l.fn.out.items ++ flat_map spelled (flat_map (λ name. 47 ∷ name) l.path)
