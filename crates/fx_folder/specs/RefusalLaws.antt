-- Which refusal a folder gets, by what stands before each entry: the first entry in the order of paths that has a cause is told,
-- and where none has one, the table's.
use Rattle.std.specs.Prelude.{◌≡◌, ◌⊎◌, ◌↔◌, ℕ, ◌+◌, ◌<◌, ◌≤◌, Bool, true, false, cond, not, ◌||◌, nat_lt, List, [], ◌∷◌, ◌++◌, length, sum_by, bytes_eq, Option, Some, None, Err}
use Rattle.std.specs.declared.cmp.Ordering.TheVariants.{Less}
use Rattle.std.specs.Ordering.{is_lt}
use Rattle.std.specs.Option.{option_or}
use Rattle.std.specs.List.{filter}
use Rattle.std.specs.List.Sorted.{IsStrictlySortedBy}
use Rattle.std.specs.Map.{keys_of}
use Rattle.std.specs.FinMap.{get, find}
use Rattle.fx_outside.specs.declared.kind.HostKind.{HostKind}
use Rattle.fx_outside.specs.declared.kind.HostKind.TheVariants as kind
use Rattle.fx_outside.specs.Path.{Parts, parts_cmp}
use Rattle.fx_outside.specs.Tree.{Tree, Entry}
use Rattle.fx_store.specs.declared.limits.TheConstants.{MAX_PATH_NAMES, MAX_FILE_BYTES}
use Rattle.fx_store.specs.Names.{path_cmp, is_name}
use Rattle.fx_store.specs.Whole.{Store}
use Rattle.fx_table.specs.declared.fault.FolderCause.{FolderCause}
use Rattle.fx_table.specs.declared.fault.FolderCause.TheVariants.{BadName, Strange, TooLarge, BadTable}
use Rattle.fx_folder.specs.declared.limits.TheConstants.{MAX_BYTES, MAX_NODES, MAX_TABLE}
use Rattle.fx_table.specs.Places.{table_name, place_of}
use Rattle.fx_table.specs.declared.line.TableLine.{TableLine}
use Rattle.fx_table.specs.Table.{TableLink, links_among}
use Rattle.fx_table.specs.TableLaws.{IsFirstBadLine, BeginsWith}
use Rattle.fx_folder.specs.Deep.{Held, all_below, walked, last_name, all_bytes, unlisted, deep_loads}

-- an entry stands at these names below the folder, and neither is the table nor stands in it
abbrev pub StandsBelow : Tree → Parts → Parts → Entry → Type 0
StandsBelow tree folder [] e = ⊥
StandsBelow tree folder (name ∷ names) e = (bytes_eq name table_name ≡ false) × (get tree (folder ++ name ∷ names) ≡ Some e)

-- all of these, in the order of their paths
abbrev pub all_standing : Tree → Parts → List Held
all_standing tree folder = walked (all_below tree folder)

-- they are those that stand, each once
pub record AreListed (tree : Tree) (folder : Parts) : Type 0 where
  pub ascending : IsStrictlySortedBy parts_cmp (keys_of (all_standing tree folder))
  pub listed : (names : Parts) (e : Entry) → StandsBelow tree folder names e ↔ (find parts_cmp names (all_standing tree folder) ≡ Some e)

abbrev pub EntriesAreListed : Type 0
EntriesAreListed = (tree : Tree) (folder : Parts) → AreListed tree folder

-- those that come before a path
abbrev pub standing_before : Tree → Parts → Parts → List Held
standing_before tree folder names = filter (λ (h : Held). is_lt (parts_cmp h.0 names)) (all_standing tree folder)

-- with the root, and those before it, it is one node too many
abbrev pub is_one_too_many : List Held → Bool
is_one_too_many before = nat_lt MAX_NODES (length before + 2)

-- with the bytes of those before it, it has too many
abbrev pub is_too_much : List Held → Entry → Bool
is_too_much before e = nat_lt MAX_BYTES (all_bytes before + length e.bytes)

abbrev pub is_strange : HostKind → Bool
is_strange kind.File = false
is_strange kind.Folder = false
is_strange kind.Other = true

abbrev pub where_so : Bool → FolderCause → Option FolderCause
where_so b cause = cond b (Some cause) None

-- the cause against an entry behind these: its name is none of a filestore; its path has too many names, or it is one node too
-- many; it is neither a file nor a folder; it has too many bytes for a file, or too many with those before it
abbrev pub cause_of : List Held → Parts → Entry → Option FolderCause
cause_of before names e =
    option_or (where_so (not (is_name (last_name names))) (BadName (place_of names)))
    (option_or (where_so (nat_lt MAX_PATH_NAMES (length names) || is_one_too_many before) (TooLarge (place_of names)))
    (option_or (where_so (is_strange e.kind) (Strange (place_of names)))
    (where_so (nat_lt MAX_FILE_BYTES (length e.bytes) || is_too_much before e) (TooLarge (place_of names)))))

abbrev pub cause_at : Tree → Parts → Parts → Entry → Option FolderCause
cause_at tree folder names e = cause_of (standing_before tree folder names) names e

-- an entry has the cause, and none that comes before it has any
pub record IsFirstCause (tree : Tree) (folder : Parts) (cause : FolderCause) : Type 0 where
  pub names : Parts
  pub entry : Entry
  pub stands : StandsBelow tree folder names entry
  pub has : cause_at tree folder names entry ≡ Some cause
  pub first : (earlier : Parts) (e : Entry) → StandsBelow tree folder earlier e → parts_cmp earlier names ≡ Less → cause_at tree folder earlier e ≡ None

-- no entry has a cause
abbrev pub HasNoCause : Tree → Parts → Type 0
HasNoCause tree folder = (names : Parts) (e : Entry) → StandsBelow tree folder names e → cause_at tree folder names e ≡ None

-- with the root, all entries and these links there are too many nodes, or too many bytes in the files and link texts
abbrev pub exceed_limits : List Held → List TableLink → Bool
exceed_limits all links = nat_lt MAX_NODES (length all + 1 + length links) || nat_lt MAX_BYTES (all_bytes all + sum_by (λ (l : TableLink). length l.text) links)

-- lines at the front have their places, and the last of their links are too many
pub record HasTooManyLinks (S : Store) (all : List Held) (text : List ℕ) : Type 0 where
  pub lines : List TableLine
  pub front : BeginsWith S text lines
  pub many : exceed_limits all (links_among lines) ≡ true

-- a line is bad, and the links of those before it are not too many
pub record HasBadLine (S : Store) (all : List Held) (text : List ℕ) (number : ℕ) : Type 0 where
  pub first : IsFirstBadLine S text number
  pub few : exceed_limits all (links_among first.lines) ≡ false

-- the lines of a text are refused for the cause of the first line that has one
abbrev pub IsLineCause : Store → List Held → List ℕ → FolderCause → Type 0
IsLineCause S all text cause =
    ((cause ≡ TooLarge (place_of (table_name ∷ []))) × HasTooManyLinks S all text)
    ⊎ ((number : ℕ) × (cause ≡ BadTable number) × HasBadLine S all text number)

-- a table is refused for the cause: it is no file, or it is too large, or its lines are refused
abbrev pub IsFileCause : Store → List Held → HostKind → List ℕ → FolderCause → Type 0
IsFileCause S all kind.File text cause =
    ((MAX_TABLE < length text) × (cause ≡ TooLarge (place_of (table_name ∷ [])))) ⊎ ((length text ≤ MAX_TABLE) × IsLineCause S all text cause)
IsFileCause S all kind.Folder text cause = cause ≡ Strange (place_of (table_name ∷ []))
IsFileCause S all kind.Other text cause = cause ≡ Strange (place_of (table_name ∷ []))

-- the files and directories that entries are loaded as, over which links are made
abbrev pub unlinked_of : List Held → Store
unlinked_of all path = find path_cmp path (unlisted all)

-- the folder has a table that is refused for the cause, where all entries are loaded
pub record IsTableCause (tree : Tree) (folder : Parts) (cause : FolderCause) : Type 0 where
  pub table : Entry
  pub stands : get tree (folder ++ table_name ∷ []) ≡ Some table
  pub why : let all = all_standing tree folder in IsFileCause (unlinked_of all) all table.kind table.bytes cause

-- a folder is refused for the cause of the first entry that has one, and where none has, for that of its table
abbrev pub FirstCausesAreTold : Type 0
FirstCausesAreTold = (tree : Tree) (folder : Parts) (cause : FolderCause) → (deep_loads tree folder ≡ Err cause) ↔ (IsFirstCause tree folder cause ⊎ (HasNoCause tree folder × IsTableCause tree folder cause))
