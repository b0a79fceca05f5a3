-- Where the first definition of each name stands in a list of definitions, as a table has it.
use Rattle.std.specs.Prelude.{◌≡◌, ℕ, Bool, List, [], ◌∷◌, ◌++◌, length, Option, Vec, nat_eq}
use Rattle.std.specs.declared.alloc.Global.{Global}
use Rattle.std.specs.Cmp.Lexicographic.{pointwise}
use Rattle.std.specs.Map.{lookup}
use Rattle.fx_spec.specs.Written.{DefTree, place}

abbrev pub Bytes : Type 0
Bytes = Vec ℕ Global

abbrev pub Table : Type 0
Table = List (Bytes × ℕ)

abbrev pub is_named : List ℕ → Bytes → Bool
is_named name key = pointwise nat_eq name key.items

-- the place of a name
abbrev pub place_of : Table → List ℕ → Option ℕ
place_of table name = lookup (is_named name) table

-- the table has the place of each name's first definition
abbrev pub IsTableOf : List DefTree → Table → Type 0
IsTableOf defs table = (name : List ℕ) → place_of table name ≡ place name defs

-- the new table has a definition of this name too, which stands at this place
abbrev pub Notes : Table → Table → List ℕ → ℕ → Type 0
Notes old new name place =
    (defs : List DefTree) (d : DefTree) → IsTableOf defs old → place ≡ length defs → d.name ≡ name → IsTableOf (defs ++ d ∷ []) new
