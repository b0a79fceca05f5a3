-- Names in lists, one list for each path.
use Rattle.std.specs.Prelude.{◌≡◌, ℕ, ◌-◌, ◌++◌, ◌∷◌, true, false, List, [], map, Some, Vec, is_some, length, get_or}
use Rattle.std.specs.List.{cons_option, slice_get, slice_set}
use Rattle.fx_outside.specs.Path.{Parts, name_in}

abbrev pub items_of : {X Y : Type 0} → Vec X Y → List X
items_of v = v.items

-- the directory at i is that in which the path stands directly
pub record IsFolderAt (dirs : List Parts) (i : ℕ) (path : Parts) : Type 0 where
  pub dir : Parts
  pub here : slice_get dirs i ≡ Some dir
  pub child : is_some (name_in dir path) ≡ true

abbrev pub HasNoFolder : List Parts → Parts → Type 0
HasNoFolder dirs path = (k : ℕ) (dir : Parts) → slice_get dirs k ≡ Some dir → is_some (name_in dir path) ≡ false

-- the last name of a path is added to the list at i
abbrev pub IsAddedAt : ℕ → Parts → List (List (List ℕ)) → List (List (List ℕ)) → Type 0
IsAddedAt i path old new = (name : List ℕ) → slice_get path (length path - 1) ≡ Some name → new ≡ slice_set old i (get_or old i [] ++ name ∷ [])

-- the path's last name is added to what its directory lists, whatever the lists were
abbrev pub HasChildAdded : List Parts → Parts → List (List (List ℕ)) → List (List (List ℕ)) → Type 0
HasChildAdded dirs path old new =
    (f : Parts → List (List ℕ)) → old ≡ map f dirs → new ≡ map (λ dir. f dir ++ cons_option (name_in dir path) []) dirs
