-- Values as plain trees, which the definitions speak of.
use Rattle.std.specs.Prelude.{ℕ, ℤ, Bool, List, [], ◌∷◌}

mutual
  pub data Tree : Type 0 where
    str : List ℕ → Tree
    int : ℤ → Tree
    bool : Bool → Tree
    names : List (List ℕ) → Tree
    pair : Tree → Tree → Tree
    nothing : Tree
    some : Tree → Tree
    table : TreeRows → Tree

  pub data TreeRows : Type 0 where
    no_rows : TreeRows
    row : List ℕ → Tree → TreeRows → TreeRows

-- the rows as a list, and back
abbrev pub entries : TreeRows → List (List ℕ × Tree)
entries no_rows = []
entries (row t v rest) = (t, v) ∷ entries rest

abbrev pub rows : List (List ℕ × Tree) → TreeRows
rows [] = no_rows
rows (e ∷ rest) = row e.0 e.1 (rows rest)
