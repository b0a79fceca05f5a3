-- Places below a folder, and what its table file is called.
use Rattle.std.specs.Prelude.{◌≡◌, ℕ, List, [], ◌∷◌, ◌++◌, codes}
use Rattle.std.specs.List.{flat_map}
use Rattle.fx_outside.specs.Path.{Parts}

-- the file in which a folder keeps its links
abbrev pub table_name : List ℕ
table_name = codes ".forest-links"

-- where an entry stands, as refusals tell it
abbrev pub place_of : Parts → List ℕ
place_of names = flat_map (λ name. 47 ∷ name) names

-- a path has one name more than that of its directory
abbrev pub StandsIn : Parts → Parts → Type 0
StandsIn parent path = (name : List ℕ) × (path ≡ parent ++ name ∷ [])
