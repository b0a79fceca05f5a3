-- What is left to walk of a folder, and what the walk has found.
use Rattle.std.specs.Prelude.{◌≡◌, ℕ, ◌-◌, false, cond, ◌&&◌, nat_le, nat_lt, List, [], ◌∷◌, ◌++◌, map, length, IfSome, Option, Some, None, Result, Ok, Err, ⊤, option_map}
use Rattle.std.specs.List.{AllByRecursion}
use Rattle.std.specs.Option.{option_map_or}
use Rattle.std.specs.FinMap.{get, entries}
use Rattle.fx_outside.specs.declared.kind.HostKind.{HostKind}
use Rattle.fx_outside.specs.Listing.{Names}
use Rattle.fx_outside.specs.Path.{Parts, parts}
use Rattle.fx_outside.specs.Tree.{Tree, Lists}
use Rattle.fx_store.specs.declared.limits.TheConstants.{MAX_PATH_NAMES}
use Rattle.fx_store.specs.declared.node.Node.{Node}
use Rattle.fx_store.specs.declared.node.Node.TheVariants.{File, Dir, Link}
use Rattle.fx_store.specs.declared.changes.Change.{Change}
use Rattle.fx_store.specs.declared.path.Path.{Path}
use Rattle.fx_store.specs.Names.{is_name}
use Rattle.fx_folder.specs.declared.walking.Item.{Item}
use Rattle.fx_folder.specs.declared.walking.Loader.{Loader}
use Rattle.fx_table.specs.declared.fault.FolderCause.{FolderCause}
use Rattle.fx_table.specs.declared.fault.FolderCause.TheVariants.{BadName, TooLarge}
use Rattle.fx_table.specs.declared.fault.LoadFault.{LoadFault}
use Rattle.fx_table.specs.declared.fault.LoadFault.TheVariants.{Refused, ReadFault, NoMemory}
use Rattle.fx_folder.specs.declared.limits.TheConstants.{MAX_BYTES, MAX_NODES}
use Rattle.fx_table.specs.Places.{place_of}
use Rattle.fx_folder.specs.Deep.{Held, all_below, in_table, walked, all_bytes, first_refused, refused_entry, refused_bytes, node_of_kind, last_name}

-- the names that lead to an item from the folder
abbrev pub item_path : Item → Parts
item_path item = item.parent ++ item.name ∷ []

-- an entry of a folder, where these names lead to the folder
abbrev pub item : Parts → List ℕ × HostKind → Item
item parent e = record { parent = parent; name = e.0; kind = e.1 }

-- the entries of a folder as items, without the table; the last of them is walked first
abbrev pub items_of : Parts → List (List ℕ × HostKind) → List Item
items_of parent [] = []
items_of parent (e ∷ es) = items_of parent es ++ cond (in_table (parent ++ e.0 ∷ [])) [] (item parent e ∷ [])

-- the bytes that stand at a place
abbrev pub bytes_in : Tree → Parts → List ℕ
bytes_in tree place = option_map_or (λ e. e.bytes) (get tree place) []

-- an item with the bytes that stand there
abbrev pub held_of : Tree → Parts → Item → Held
held_of tree at item = (item_path item, record { kind = item.kind; bytes = bytes_in tree (at ++ item_path item) })

-- an entry below a folder to which these names lead
abbrev pub below_names : Parts → Held → Held
below_names names h = (names ++ h.0, h.1)

-- an item, and all that stands below it
abbrev pub branch : Tree → Parts → Item → List Held
branch tree at item = held_of tree at item ∷ map (below_names (item_path item)) (all_below tree (at ++ item_path item))

-- what is left to walk: the branches of the items, the last of them first
abbrev pub ahead : Tree → Parts → List Item → List Held
ahead tree at [] = []
ahead tree at (item ∷ items) = ahead tree at items ++ branch tree at item

-- the item stands in the folder, and is not its table
pub record IsThere (tree : Tree) (at : Parts) (item : Item) : Type 0 where
  pub kind : option_map (λ e. e.kind) (get tree (at ++ item_path item)) ≡ Some item.kind
  pub walked : in_table (item_path item) ≡ false

abbrev pub AreThere : Tree → Parts → List Item → Type 0
AreThere tree at items = AllByRecursion (IsThere tree at) items

-- the node of an entry: a file, or a directory whose names are still to be listed
abbrev pub found_as : Held → Change
found_as h = record { path = h.0; node = Some (node_of_kind h.1.kind h.1.bytes) }

abbrev pub root_found : Change
root_found = record { path = []; node = Some (Dir []) }

-- of the entries of the folder these were found, and these items are left, where so many bytes may still be loaded
pub record IsOnWay (tree : Tree) (at : Parts) (found : List Change) (left : ℕ) (todo : List Item) : Type 0 where
  pub entries : root_found ∷ map found_as (walked (all_below tree at)) ≡ found ++ map found_as (walked (ahead tree at todo))
  pub refusal : first_refused 1 MAX_BYTES (walked (all_below tree at)) ≡ first_refused (length found) left (walked (ahead tree at todo))
  pub bytes : MAX_BYTES - all_bytes (walked (all_below tree at)) ≡ left - all_bytes (walked (ahead tree at todo))
  pub there : AreThere tree at todo

-- how many bytes a change puts into a file
abbrev pub node_size : Option Node → ℕ
node_size None = 0
node_size (Some (File bytes exec)) = length bytes
node_size (Some (Dir names)) = 0
node_size (Some (Link text)) = 0

abbrev pub size_of : Change → ℕ
size_of change = node_size change.node

-- the change that an entry stands for, or the refusal that is due
abbrev pub AnswersEntry : ℕ → ℕ → Held → Result Change LoadFault → Type 0
AnswersEntry nodes left h (Ok change) = (refused_entry nodes left h ≡ None) × (change ≡ found_as h) × (size_of change ≡ length h.1.bytes)
AnswersEntry nodes left h (Err (Refused cause)) = refused_entry nodes left h ≡ Some cause
AnswersEntry nodes left h (Err ReadFault) = ⊤
AnswersEntry nodes left h (Err NoMemory) = ⊤

-- the entries below a folder are to be walked next
pub record IsEntered (tree : Tree) (at : Parts) (names : Parts) (todo todo' : List Item) : Type 0 where
  pub ahead : walked (ahead tree at todo') ≡ walked (map (below_names names) (all_below tree (at ++ names)) ++ ahead tree at todo)
  pub there : AreThere tree at todo → AreThere tree at todo'

-- the entries of the folder at a path become items
abbrev pub AddsItems : Option Tree → List ℕ → Parts → List Item → List Item → Type 0
AddsItems told path names todo todo' = (listing : Names) × (todo' ≡ todo ++ items_of names (entries listing)) × IfSome told (λ tree. Lists tree (parts path) listing)

-- a walk is refused for the first cause
abbrev pub WalkCause : Tree → Parts → LoadFault → Type 0
WalkCause tree at (Refused cause) = first_refused 1 MAX_BYTES (walked (all_below tree at)) ≡ Some cause
WalkCause tree at ReadFault = ⊤
WalkCause tree at NoMemory = ⊤

-- everything that a walk found, with the bytes that may still be loaded; or the first refusal
abbrev pub AnswersWalk : Tree → Parts → Result Loader LoadFault → Type 0
AnswersWalk tree at (Ok walk) = (first_refused 1 MAX_BYTES (walked (all_below tree at)) ≡ None)
    × (walk.found.items ≡ root_found ∷ map found_as (walked (all_below tree at))) × (walk.left ≡ MAX_BYTES - all_bytes (walked (all_below tree at)))
AnswersWalk tree at (Err fault) = WalkCause tree at fault

abbrev pub IsNoRefusal : LoadFault → Type 0
IsNoRefusal (Refused cause) = ⊥
IsNoRefusal ReadFault = ⊤
IsNoRefusal NoMemory = ⊤

-- why a path is refused, where so many nodes come before it
abbrev pub refused_path : ℕ → Parts → Option FolderCause
refused_path nodes names =
    cond (is_name (last_name names)) (cond (nat_le (length names) MAX_PATH_NAMES && nat_lt nodes MAX_NODES) None (Some (TooLarge (place_of names)))) (Some (BadName (place_of names)))

-- the path, or the refusal that is due
abbrev pub PassesPath : ℕ → Parts → Result Path LoadFault → Type 0
PassesPath nodes names (Ok path) = (refused_path nodes names ≡ None) × (path ≡ names)
PassesPath nodes names (Err (Refused cause)) = refused_path nodes names ≡ Some cause
PassesPath nodes names (Err ReadFault) = ⊥
PassesPath nodes names (Err NoMemory) = ⊤

-- the file with the bytes, or the refusal that is due
abbrev pub AnswersFile : ℕ → Parts → List ℕ → Result Change LoadFault → Type 0
AnswersFile left names bytes (Ok change) = (refused_bytes left names bytes ≡ None) × (change ≡ record { path = names; node = Some (File bytes false) })
AnswersFile left names bytes (Err (Refused cause)) = refused_bytes left names bytes ≡ Some cause
AnswersFile left names bytes (Err ReadFault) = ⊤
AnswersFile left names bytes (Err NoMemory) = ⊤
