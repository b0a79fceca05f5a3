-- What a folder of any depth is loaded as, its table included, or why it is refused; and the folder of a filestore.
use Rattle.std.specs.Prelude.{◌≡◌, ℕ, ◌+◌, ◌-◌, Bool, false, nat_le, nat_lt, cond, not, ◌||◌, ◌&&◌, List, [], ◌∷◌, ◌++◌, map, length, slice_index_or, bytes_eq, Option, Some, None, Result, Ok, Err}
use Rattle.std.specs.Option.{option_or, option_map, option_and_then}
use Rattle.std.specs.List.{filter_map, filter, sum_by}
use Rattle.std.specs.FinMap.{entries, get, find, from_entries}
use Rattle.fx_outside.specs.declared.kind.HostKind.{HostKind}
use Rattle.fx_outside.specs.declared.kind.HostKind.TheVariants as kind
use Rattle.std.specs.Cmp.Lexicographic.{slice_cmp}
use Rattle.fx_outside.specs.Listing.{name_cmp}
use Rattle.fx_outside.specs.Path.{Parts}
use Rattle.fx_outside.specs.Tree.{Tree, Entry, file}
use Rattle.fx_store.specs.declared.limits.TheConstants.{MAX_PATH_NAMES, MAX_FILE_BYTES}
use Rattle.fx_store.specs.declared.node.Node.{Node}
use Rattle.fx_store.specs.declared.node.Node.TheVariants.{File, Dir}
use Rattle.fx_store.specs.Names.{is_name, path_cmp, rest_of}
use Rattle.fx_store.specs.Whole.{Store, Nodes}
use Rattle.fx_table.specs.declared.fault.FolderCause.{FolderCause}
use Rattle.fx_table.specs.declared.fault.FolderCause.TheVariants.{BadName, Strange, TooLarge, BadTable}
use Rattle.fx_folder.specs.declared.limits.TheConstants.{MAX_BYTES, MAX_NODES, MAX_TABLE}
use Rattle.fx_table.specs.Listed.{Mapped, with_lines, listed}
use Rattle.fx_table.specs.Places.{table_name, place_of}
use Rattle.fx_folder.specs.Places.{host_entry}
use Rattle.fx_table.specs.declared.line.TableLine.{TableLine}
use Rattle.fx_table.specs.Table.{TableLink, table_text, lines_of, links_among, read_body, lacks_flags, lines_before}

-- an entry, with the names that lead to it from a folder
abbrev pub Held : Type 0
Held = Parts × Entry

-- the names lead to something in the folder: there is at least one
abbrev pub inside : Parts → Option Parts
inside [] = None
inside (name ∷ names) = Some (name ∷ names)

abbrev pub held_below : Parts → Parts × Entry → Option Held
held_below folder e = option_map (λ names. (names, e.1)) (option_and_then inside (rest_of folder e.0))

-- all that stands below a folder: each folder comes before what stands in it, and that before the next name
abbrev pub all_below : Tree → Parts → List Held
all_below tree folder = filter_map (held_below folder) (entries tree)

-- these names lead to the table, or to what stands below it if it is no file
abbrev pub in_table : Parts → Bool
in_table [] = false
in_table (name ∷ names) = bytes_eq name table_name

-- the entries that are walked: all but the table
abbrev pub walked : List Held → List Held
walked hs = filter (λ (h : Held). not (in_table h.0)) hs

-- the table itself
abbrev pub table_in : List Held → Option Entry
table_in hs = find (slice_cmp name_cmp) (table_name ∷ []) hs

abbrev pub last_name : Parts → List ℕ
last_name names = slice_index_or names (length names - 1) []

abbrev pub refused_kind : Parts → HostKind → Option FolderCause
refused_kind names kind.Other = Some (Strange (place_of names))
refused_kind names _ = None

-- one file too large, or too many bytes in all, where so many may still be loaded
abbrev pub refused_bytes : ℕ → Parts → List ℕ → Option FolderCause
refused_bytes left names bytes = cond (nat_lt MAX_FILE_BYTES (length bytes) || nat_lt left (length bytes)) (Some (TooLarge (place_of names))) None

-- The first cause against an entry, where so many nodes come before it: the name is none of a filestore; the path has more
-- than 64 names, or it is one node too many; it is neither file nor folder; its bytes are too many.
abbrev pub refused_entry : ℕ → ℕ → Held → Option FolderCause
refused_entry nodes left (names, e) =
    cond (is_name (last_name names))
    (cond (nat_le (length names) MAX_PATH_NAMES && nat_lt nodes MAX_NODES)
    (option_or (refused_kind names e.kind) (refused_bytes left names e.bytes))
    (Some (TooLarge (place_of names))))
    (Some (BadName (place_of names)))

-- the first refusal among entries, in the order in which they are walked
abbrev pub first_refused : ℕ → ℕ → List Held → Option FolderCause
first_refused nodes left [] = None
first_refused nodes left (h ∷ hs) = option_or (refused_entry nodes left h) (first_refused (nodes + 1) (left - length h.1.bytes) hs)

-- a file, or a directory whose names are still to be listed
abbrev pub node_of_kind : HostKind → List ℕ → Node
node_of_kind kind.Folder bytes = Dir []
node_of_kind _ bytes = File bytes false

-- the root, and files and directories with no names listed yet
abbrev pub unlisted : List Held → List Mapped
unlisted hs = ([], Dir []) ∷ map (λ (h : Held). (h.0, node_of_kind h.1.kind h.1.bytes)) hs

-- more links than nodes may still be loaded, or more bytes in their texts
abbrev pub are_too_many : ℕ → ℕ → List TableLink → Bool
are_too_many nodes left links = nat_lt MAX_NODES (nodes + length links) || nat_lt left (sum_by (λ (l : TableLink). length l.text) links)

-- what is loaded, unless it is refused
abbrev pub unless_refused : {A : Type 0} → Option FolderCause → Result A FolderCause → Result A FolderCause
unless_refused None loaded = loaded
unless_refused (Some cause) loaded = Err cause

-- the lines of the table, or the first refusal: a good line may be one too many before a bad one comes
abbrev pub limited : ℕ → ℕ → List TableLine → Option FolderCause → Result (List TableLine) FolderCause
limited nodes left lines bad = cond (are_too_many nodes left (links_among lines)) (Err (TooLarge (place_of (table_name ∷ [])))) (unless_refused bad (Ok lines))

-- a text of version 2 that has no need of it is bad at its first line, but all lines are read before
abbrev pub lacking : List ℕ → List TableLine → Option FolderCause
lacking text lines = cond (lacks_flags text lines) (Some (BadTable 1)) None

abbrev pub lines_or_cause : ℕ → ℕ → Store → List ℕ → Result (List TableLine) ℕ → Result (List TableLine) FolderCause
lines_or_cause nodes left S text (Ok lines) = limited nodes left lines (lacking text lines)
lines_or_cause nodes left S text (Err number) = limited nodes left (lines_before S text number) (Some (BadTable number))

-- a table that is a file and not too large is read line by line
abbrev pub table_file_lines : ℕ → ℕ → Store → HostKind → List ℕ → Result (List TableLine) FolderCause
table_file_lines nodes left S kind.File text =
    cond (nat_lt MAX_TABLE (length text)) (Err (TooLarge (place_of (table_name ∷ [])))) (lines_or_cause nodes left S text (read_body S text))
table_file_lines nodes left S _ text = Err (Strange (place_of (table_name ∷ [])))

-- no table stands for no lines
abbrev pub table_lines : ℕ → ℕ → Store → Option Entry → Result (List TableLine) FolderCause
table_lines nodes left S None = Ok []
table_lines nodes left S (Some e) = table_file_lines nodes left S e.kind e.bytes

-- files, directories and what the lines say
abbrev pub linked : List Mapped → Result (List TableLine) FolderCause → Result (List Mapped) FolderCause
linked es (Ok lines) = Ok (listed (with_lines es lines))
linked es (Err cause) = Err cause

abbrev pub all_bytes : List Held → ℕ
all_bytes hs = sum_by (λ (h : Held). length h.1.bytes) hs

-- what the table adds to the entries that were walked
abbrev pub with_table : List Held → Option Entry → Result (List Mapped) FolderCause
with_table hs table =
    linked (unlisted hs) (table_lines (length hs + 1) (MAX_BYTES - all_bytes hs) (λ path. find path_cmp path (unlisted hs)) table)

-- what entries stand for, or the first refusal: first the entries in the order of their paths, then the table
abbrev pub loaded : List Held → Result (List Mapped) FolderCause
loaded hs = unless_refused (first_refused 1 MAX_BYTES (walked hs)) (with_table (walked hs) (table_in hs))

abbrev pub as_nodes : Result (List Mapped) FolderCause → Result Nodes FolderCause
as_nodes (Ok es) = Ok (from_entries es)
as_nodes (Err cause) = Err cause

-- the filestore that the folder at these parts of a host's tree stands for, or the first refusal
abbrev pub deep_loads : Tree → Parts → Result Nodes FolderCause
deep_loads tree folder = as_nodes (loaded (all_below tree folder))

-- the table of a filestore's lines, if it has any
abbrev pub table_entry : List TableLine → Option Entry
table_entry [] = None
table_entry (line ∷ lines) = Some (file (table_text (line ∷ lines)))

abbrev pub is_table_place : Parts → Bool
is_table_place (name ∷ []) = bytes_eq name table_name
is_table_place _ = false

-- what stands in the folder of a filestore: its directories as folders, its files, and a table where it has links or a file is executable
abbrev pub folder_entry : Nodes → Parts → Option Entry
folder_entry nodes names = cond (is_table_place names) (table_entry (lines_of nodes)) (host_entry (get nodes names))

-- the tree has the folder of the filestore at these parts
abbrev pub HasFolderOf : Tree → Parts → Nodes → Type 0
HasFolderOf tree folder nodes = (names : Parts) → get tree (folder ++ names) ≡ folder_entry nodes names
