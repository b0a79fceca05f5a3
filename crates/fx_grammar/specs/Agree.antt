-- How deep a tree is nested, by its tokens and by its forms.
use Rattle.std.specs.Prelude.{◌≡◌, ◌≤◌, ◌↔◌, ℕ, true, nat_le, max, List, [], ◌∷◌}
use Rattle.std.specs.List.{list_all}
use Rattle.fx_spec.specs.CommandTree.{CommandTree}
use Rattle.fx_spec.specs.Levels.{txn_levels}
use Rattle.fx_parse.specs.Readable.{Grammar}

-- where the tree has level 1, its tokens begin no form above a limit exactly where its forms are nested no deeper
abbrev pub LevelsAgree : {Tree : Type 0} → Grammar Tree → (Tree → ℕ) → Type 0
LevelsAgree {Tree} g depth = (limit : ℕ) (t : Tree) → (list_all (λ level. nat_le level limit) (g.levels 1 t) ≡ true) ↔ (depth t ≤ limit)

-- a script is nested as deep as its deepest transaction
abbrev pub script_levels : List (List CommandTree) → ℕ
script_levels [] = 0
script_levels (t ∷ ts) = max (txn_levels t) (script_levels ts)
