-- What the readers of names, paths and link texts answer.
use Rattle.std.specs.Prelude.{◌≡◌, ℕ, cond, List, [], ◌∷◌, ◌++◌, length, nat_lt, ⊤, Result, Ok, Err}
use Rattle.std.specs.List.{list_all, slice_split}
use Rattle.fx_store.specs.declared.name.PathFault.{PathFault}
use Rattle.fx_store.specs.declared.name.PathFault.TheVariants.{BadName, TooDeep, NoMemory}
use Rattle.fx_store.specs.declared.limits.TheConstants.{MAX_PATH_NAMES, MAX_LINK_COMPONENTS}
use Rattle.fx_store.specs.Names.{is_slash, is_name, is_absolute, components, has_link_form}

-- the result is this answer, unless memory was refused
abbrev pub Answers : {A : Type 0} → Result A PathFault → Result A PathFault → Type 0
Answers (Ok a) answer = answer ≡ Ok a
Answers (Err BadName) answer = answer ≡ Err BadName
Answers (Err TooDeep) answer = answer ≡ Err TooDeep
Answers (Err NoMemory) answer = ⊤

-- the name that the bytes are
abbrev pub read_name : List ℕ → Result (List ℕ) PathFault
read_name bytes = cond (is_name bytes) (Ok bytes) (Err BadName)

-- a path of these names, if there are not too many
abbrev pub path_of : List (List ℕ) → Result (List (List ℕ)) PathFault
path_of names = cond (nat_lt MAX_PATH_NAMES (length names)) (Err TooDeep) (Ok names)

-- the path with one name more
abbrev pub joined : List (List ℕ) → List ℕ → Result (List (List ℕ)) PathFault
joined path name = path_of (path ++ name ∷ [])

-- the path that goes on by the names of a text, which has one `/` between each two
abbrev pub extended : List (List ℕ) → List ℕ → Result (List (List ℕ)) PathFault
extended path text = cond (list_all is_name (slice_split is_slash text)) (path_of (path ++ slice_split is_slash text)) (Err BadName)

-- the path of a path text
abbrev pub read_path : List ℕ → Result (List (List ℕ)) PathFault
read_path text = cond (is_absolute text) (cond (list_all is_name (components text)) (path_of (components text)) (Err BadName)) (Err BadName)

-- the link text that the bytes are
abbrev pub read_link : List ℕ → Result (List ℕ) PathFault
read_link text = cond (has_link_form text) (cond (nat_lt MAX_LINK_COMPONENTS (length (components text))) (Err TooDeep) (Ok text)) (Err BadName)
