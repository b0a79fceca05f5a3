-- Changes of a filestore.
use Rattle.std.specs.Prelude.{ℕ, cond, List, [], ◌∷◌, map, Option, Some, None}
use Rattle.std.specs.List.Sorted.{IsStrictlySortedBy}
use Rattle.std.specs.Ordering.{eq_by_cmp}
use Rattle.fx_store.specs.declared.node.Node.{Node}
use Rattle.fx_store.specs.declared.changes.Change.{Change}
use Rattle.fx_store.specs.Names.{path_cmp}

-- the paths of the changes
abbrev pub changed_paths : List Change → List (List (List ℕ))
changed_paths cs = map (λ (c : Change). c.path) cs

-- in strictly ascending order of path
abbrev pub IsChanges : List Change → Type 0
IsChanges cs = IsStrictlySortedBy path_cmp (changed_paths cs)

-- what a change says of the path, if one does
abbrev pub change_at : List Change → List (List ℕ) → Option (Option Node)
change_at [] path = None
change_at (c ∷ cs) path = cond (eq_by_cmp path_cmp path c.path) (Some c.node) (change_at cs path)
