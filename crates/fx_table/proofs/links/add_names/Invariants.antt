use Rattle.fx_table.proofs.Prelude.{◌≡◌, ◌++◌, ◌∷◌, flat_map, iter_rest, spelling}
use Rattle.fx_table.proofs.links.add_names.Given as goal

abbrev pub invariant-loop-name : goal.invariant-loop-name
invariant-loop-name l =
    l.text.items ++ spelling (flat_map (λ name. 47 ∷ name) l.name-iterator)
    ≡ l.fn.text.items ++ spelling (flat_map (λ name. 47 ∷ name) l.path)
