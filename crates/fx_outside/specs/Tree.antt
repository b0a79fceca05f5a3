-- The tree that a host may tell: a finite map from the parts of paths to entries.
use Rattle.std.specs.Prelude.{◌≡◌, ◌&&◌, ◌||◌, ◌==◌, ◌++◌, ℕ, Bool, true, false, List, [], ◌∷◌, IsTrue, not, is_none, length, option_map, Option, Some, None, cond}
use Rattle.std.specs.Option.{option_map_or}
use Rattle.std.specs.List.{list_all}
use Rattle.std.specs.FinMap.{FinMap, get, insert}
use Rattle.fx_outside.specs.declared.kind.HostKind.{HostKind}
use Rattle.fx_outside.specs.declared.kind.HostKind.TheVariants.{File, Folder}
use Rattle.fx_outside.specs.declared.kind.Standing.{Standing}
use Rattle.fx_outside.specs.declared.kind.Standing.TheVariants.{Absent, Is}
use Rattle.fx_outside.specs.Listing.{Names}
use Rattle.fx_outside.specs.Path.{Parts, parts_cmp, parts, is_fit, is_fit_part, has_no_slash, above}

-- an entry of a tree; only a file has bytes
pub record Entry : Type 0 where
  pub kind : HostKind
  pub bytes : List ℕ

abbrev pub Tree : Type 0
Tree = FinMap parts_cmp Entry

abbrev pub file : List ℕ → Entry
file bytes = record { kind = File; bytes = bytes }

abbrev pub folder : Entry
folder = record { kind = Folder; bytes = [] }

abbrev pub is_file_kind : HostKind → Bool
is_file_kind File = true
is_file_kind _ = false

abbrev pub is_folder_kind : HostKind → Bool
is_folder_kind Folder = true
is_folder_kind _ = false

-- a folder stands at these parts; the root, with no parts, is one
abbrev pub has_folder : Tree → Parts → Bool
has_folder tree [] = true
has_folder tree (name ∷ names) = option_map_or (λ e. is_folder_kind e.kind) (get tree (name ∷ names)) false

-- the entry may stand at these parts: there is at least one, each can name an entry and holds no slash, a folder stands
-- above, and only a file has bytes
abbrev pub is_placed : Tree → Parts → Entry → Bool
is_placed tree names entry = not (length names == 0) && (list_all is_fit_part names && (list_all has_no_slash names && (has_folder tree (above names) && (is_file_kind entry.kind || length entry.bytes == 0))))

-- every entry of the tree stands where it may
pub record IsWhole (tree : Tree) : Type 0 where
  pub placed : (names : Parts) (entry : Entry) → get tree names ≡ Some entry → IsTrue (is_placed tree names entry)

-- the entry at a path
abbrev pub entry_at : Tree → List ℕ → Option Entry
entry_at tree path = cond (is_fit path) (get tree (parts path)) None

abbrev pub standing_of : Option Entry → Standing
standing_of None = Absent
standing_of (Some entry) = Is entry.kind

-- a folder stands at the path
abbrev pub is_folder_at : Tree → List ℕ → Bool
is_folder_at tree path = option_map_or (λ e. is_folder_kind e.kind) (entry_at tree path) false

-- a file stands at the path
abbrev pub is_file_at : Tree → List ℕ → Bool
is_file_at tree path = option_map_or (λ e. is_file_kind e.kind) (entry_at tree path) false

-- nothing stands at these parts, and a folder stands above
abbrev pub is_free : Tree → Parts → Bool
is_free tree names = is_none (get tree names) && has_folder tree (above names)

-- nothing stands at the path, and a folder stands above it
abbrev pub is_free_at : Tree → List ℕ → Bool
is_free_at tree path = is_fit path && is_free tree (parts path)

-- the bytes of the entry at a path
abbrev pub bytes_at : Tree → List ℕ → List ℕ
bytes_at tree path = option_map_or (λ e. e.bytes) (entry_at tree path) []

-- these are the names directly in the folder at these parts
abbrev pub Lists : Tree → Parts → Names → Type 0
Lists tree names listed = (name : List ℕ) → get listed name ≡ option_map (λ e. e.kind) (get tree (names ++ name ∷ []))

-- the tree that a host tells with one more entry, if it tells one
abbrev pub told_with : Option Tree → List ℕ → Entry → Option Tree
told_with told path entry = option_map (λ tree. insert tree (parts path) entry) told
