-- Texts and the names that they spell.
use Rattle.std.specs.Prelude.{◌≡◌, ℕ, ◌<◌, List, ◌++◌, length, All, Ok}
use Rattle.std.specs.List.{join_with_byte}
use Rattle.fx_store.specs.Names.{IsName, path_text}
use Rattle.fx_store.specs.Faults.{path_of, extended, read_path}

-- the names, one after another below the root, have this path text
pub record SpellsPath (text : List ℕ) (path : List (List ℕ)) : Type 0 where
  pub names : All IsName path
  pub spelled : path_text path ≡ text

-- some names, with one `/` between each two
pub record SpellsNames (text : List ℕ) (names : List (List ℕ)) : Type 0 where
  pub valid : All IsName names
  pub some : 0 < length names
  pub spelled : join_with_byte 47 names ≡ text

-- a path text is read as the path that it spells, if that has at most 64 names, and no other text is read
pub record ReadsPathText (text : List ℕ) (path : List (List ℕ)) : Type 0 where
  pub reads : SpellsPath text path → read_path text ≡ path_of path
  pub spells : read_path text ≡ Ok path → SpellsPath text path

-- a path goes on by the names that a text spells, and by no other text
pub record ExtendsBySpelling (from : List (List ℕ)) (text : List ℕ) (path : List (List ℕ)) : Type 0 where
  pub extends : (names : List (List ℕ)) → SpellsNames text names → extended from text ≡ path_of (from ++ names)
  pub spells : extended from text ≡ Ok path → (names : List (List ℕ)) × (path ≡ from ++ names) × SpellsNames text names

abbrev pub PathTextsAreRead : Type 0
PathTextsAreRead = (text : List ℕ) (path : List (List ℕ)) → ReadsPathText text path

abbrev pub PathsGoOnByNames : Type 0
PathsGoOnByNames = (from : List (List ℕ)) (text : List ℕ) (path : List (List ℕ)) → ExtendsBySpelling from text path
