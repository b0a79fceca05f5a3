-- The table file, in which a folder keeps its links and which of its files are executable: a line for each, in order of path.
use Rattle.std.specs.Prelude.{ℕ, ◌+◌, ◌-◌, ◌==◌, Bool, true, false, cond, ◌&&◌, not, is_none, List, [], ◌∷◌, ◌++◌, map, take, drop, All, IsTrue, codes, bytes_eq, unwrap_or, Option, Some, None, Result, Ok, Err, ⊤}
use Rattle.std.specs.Ordering.{is_lt, eq_by_cmp}
use Rattle.std.specs.List.{flat_map, filter_map, list_any, slice_split}
use Rattle.std.specs.List.Sorted.{IsStrictlySortedBy}
use Rattle.std.specs.FinMap.{entries}
use Rattle.std.specs.Option.{option_map, option_and_then}
use Rattle.std.specs.Result.{result_ok}
use Rattle.fx_store.specs.declared.node.Node.{Node}
use Rattle.fx_store.specs.declared.node.Node.TheVariants.{File, Dir, Link}
use Rattle.fx_store.specs.declared.name.PathFault.{PathFault}
use Rattle.fx_store.specs.Names.{path_cmp, path_text, IsPath, IsLinkText}
use Rattle.fx_store.specs.Faults.{read_path, read_link}
use Rattle.fx_store.specs.Resolve.{parent}
use Rattle.fx_store.specs.Whole.{Store, Nodes}
use Rattle.fx_store.specs.Kinds.{is_dir, is_file}
use Rattle.fx_table.specs.TableSpelling.{spelling, unspelled}
pub use Rattle.fx_table.specs.declared.line.Mark.{Mark}
pub use Rattle.fx_table.specs.declared.line.Mark.TheVariants.{Target, Executable}
pub use Rattle.fx_table.specs.declared.line.TableLine.{TableLine}

-- ---- how a table is spelled

-- a link of the table: where it stands, and where it leads
pub record TableLink : Type 0 where
  pub path : List (List ℕ)
  pub text : List ℕ

-- what stands in a line behind its path
abbrev pub mark_text : Mark → List ℕ
mark_text (Target text) = codes " -> " ++ spelling text
mark_text Executable = codes " *"

-- a line, without its line feed
abbrev pub line_of : TableLine → List ℕ
line_of line = spelling (path_text line.path) ++ mark_text line.mark

-- lines, each with its line feed
abbrev pub lines_text : List TableLine → List ℕ
lines_text lines = flat_map (λ l. line_of l ++ 10 ∷ []) lines

abbrev pub is_flag_mark : Mark → Bool
is_flag_mark (Target text) = false
is_flag_mark Executable = true

abbrev pub has_flags : List TableLine → Bool
has_flags lines = list_any (λ (l : TableLine). is_flag_mark l.mark) lines

-- what a table of version 2 begins with
abbrev pub version_line : List ℕ
version_line = codes "version 2" ++ 10 ∷ []

-- the text of a table, which is of version 1 where no file is executable
abbrev pub table_text : List TableLine → List ℕ
table_text lines = cond (has_flags lines) version_line [] ++ lines_text lines

-- ---- the table of a filestore

-- the line of what stands at a path: a link has one, and a file that is executable
abbrev pub line_at : List (List ℕ) × Node → Option TableLine
line_at (path, File bytes exec) = cond exec (Some (record { path = path; mark = Executable })) None
line_at (path, Dir names) = None
line_at (path, Link text) = Some (record { path = path; mark = Target text })

-- the lines of a filestore, in order of path
abbrev pub lines_of : Nodes → List TableLine
lines_of nodes = filter_map line_at (entries nodes)

-- ---- how a line is read

-- what was read of bytes, if there are any and they could be read
abbrev pub read_of : {A : Type 0} → (List ℕ → Result A PathFault) → Option (List ℕ) → Option A
read_of read bytes = option_and_then (λ bytes. result_ok (read bytes)) bytes

-- the line of a path and of what it leads to, or of a path alone, if they could be read
abbrev pub link_by : Option (List (List ℕ)) → Option (List ℕ) → Option TableLine
link_by path text = option_and_then (λ p. option_map (λ t. record { path = p; mark = Target t }) text) path

abbrev pub flag_by : Option (List (List ℕ)) → Option TableLine
flag_by path = option_map (λ p. record { path = p; mark = Executable }) path

-- the line of its parts: a spelled path text, and a star; or one, an arrow and a spelled link text
abbrev pub read_parts : List (List ℕ) → Option TableLine
read_parts (path ∷ star ∷ []) = cond (bytes_eq star (codes "*")) (flag_by (read_of read_path (unspelled path))) None
read_parts (path ∷ arrow ∷ text ∷ []) = cond (bytes_eq arrow (codes "->")) (link_by (read_of read_path (unspelled path)) (read_of read_link (unspelled text))) None
read_parts _ = None

abbrev pub is_space : ℕ → Bool
is_space b = b == 32

-- what a line says, whose parts have one space between them
abbrev pub read_line : List ℕ → Option TableLine
read_line line = read_parts (slice_split is_space line)

-- ---- which lines a filestore can have

-- a link can be made at the path: its parent is a directory of the filestore, which has no links yet, and nothing stands
-- there; a link that an earlier line made is no directory
abbrev pub can_stand : Store → List (List ℕ) → Bool
can_stand S path = is_dir (S (parent path)) && is_none (S path)

-- what lines are read over: a filestore of files and directories; and whether they may say that a file is executable
pub record Setting : Type 0 where
  pub store : Store
  pub flags : Bool

abbrev pub over : Store → Bool → Setting
over S flags = record { store = S; flags = flags }

abbrev pub can_mark : Setting → List (List ℕ) → Mark → Bool
can_mark s path (Target text) = can_stand s.store path
can_mark s path Executable = s.flags && is_file (s.store path)

-- a line of a link where one can be made, or of a file that stands there
abbrev pub has_place : Setting → TableLine → Bool
has_place s line = can_mark s line.path line.mark

-- ---- how lines are read

-- the line that was read, if its path is greater than that of the line before and it has its place
abbrev pub next_line : Setting → List (List ℕ) → Option TableLine → Option TableLine
next_line s before None = None
next_line s before (Some l) = cond (is_lt (path_cmp before l.path) && has_place s l) (Some l) None

abbrev pub with_first : TableLine → Result (List TableLine) ℕ → Result (List TableLine) ℕ
with_first line (Ok lines) = Ok (line ∷ lines)
with_first line (Err number) = Err number

-- the line of this number says nothing, or one that stands before those of the further lines
abbrev pub read_on : ℕ → Option TableLine → (TableLine → Result (List TableLine) ℕ) → Result (List TableLine) ℕ
read_on number None further = Err number
read_on number (Some line) further = with_first line (further line)

-- what the lines from a number on say, or the number of the first bad line; what stands behind the last line feed is a line
-- that lacks its own, unless it is empty
abbrev pub read_lines : Setting → List (List ℕ) → ℕ → List (List ℕ) → Result (List TableLine) ℕ
read_lines s before number (line ∷ next ∷ lines) =
    read_on number (next_line s before (read_line line)) (λ l. read_lines s l.path (number + 1) (next ∷ lines))
read_lines s before number ((b ∷ line) ∷ []) = Err number
read_lines s before number _ = Ok []

abbrev pub is_feed : ℕ → Bool
is_feed b = b == 10

-- what a text of lines says, of which the first has this number; the root stands before it, so that no line has its path
abbrev pub read_from : Setting → ℕ → List ℕ → Result (List TableLine) ℕ
read_from s first text = read_lines s [] first (slice_split is_feed text)

-- ---- how a table is read

-- the text is of version 2
abbrev pub is_second : List ℕ → Bool
is_second text = bytes_eq (take 10 text) version_line

-- the lines of a text, and the number of the first of them; lines are counted from 1, and the version's is one
abbrev pub body_of : List ℕ → List ℕ
body_of text = cond (is_second text) (drop 10 text) text

abbrev pub first_number : List ℕ → ℕ
first_number text = cond (is_second text) 2 1

-- only those of version 2 may say that a file is executable
abbrev pub setting_of : Store → List ℕ → Setting
setting_of S text = over S (is_second text)

abbrev pub read_body : Store → List ℕ → Result (List TableLine) ℕ
read_body S text = read_from (setting_of S text) (first_number text) (body_of text)

-- the text is of version 2, of which none of these lines has need
abbrev pub lacks_flags : List ℕ → List TableLine → Bool
lacks_flags text lines = is_second text && not (has_flags lines)

abbrev pub unless_lacking : List ℕ → Result (List TableLine) ℕ → Result (List TableLine) ℕ
unless_lacking text (Ok lines) = cond (lacks_flags text lines) (Err 1) (Ok lines)
unless_lacking text (Err number) = Err number

-- the lines that a text of the table stands for over a filestore of files and directories, or the number of its first bad
-- line; a text of version 2 whose lines are all good is bad at line 1 where none says that a file is executable
abbrev pub read_table : Store → List ℕ → Result (List TableLine) ℕ
read_table S text = unless_lacking text (read_body S text)

-- what the lines before a bad one say
abbrev pub lines_before : Store → List ℕ → ℕ → List TableLine
lines_before S text number =
    unwrap_or (result_ok (read_from (setting_of S text) (first_number text) (flat_map (λ line. line ++ 10 ∷ []) (take (number - first_number text) (slice_split is_feed (body_of text)))))) []

-- ---- the lines of a table

abbrev pub IsMark : Mark → Type 0
IsMark (Target text) = IsLinkText text
IsMark Executable = ⊤

-- a link within its limits
pub record IsLink (link : TableLink) : Type 0 where
  pub path : IsPath link.path
  pub text : IsLinkText link.text

-- a line within its limits
pub record IsLine (line : TableLine) : Type 0 where
  pub path : IsPath line.path
  pub mark : IsMark line.mark

-- lines that have their places, in strictly ascending order and behind a path
pub record IsTableBehind (s : Setting) (before : List (List ℕ)) (lines : List TableLine) : Type 0 where
  pub valid : All IsLine lines
  pub stand : All (λ (l : TableLine). IsTrue (has_place s l)) lines
  pub ascending : IsStrictlySortedBy path_cmp (before ∷ map (λ (l : TableLine). l.path) lines)

-- the lines of a table in a setting, none of them at the root
abbrev pub AreLinesOver : Setting → List TableLine → Type 0
AreLinesOver s lines = IsTableBehind s [] lines

-- the lines of a table
abbrev pub IsTable : Store → List TableLine → Type 0
IsTable S lines = AreLinesOver (over S true) lines

-- ---- what lines say

abbrev pub link_in_line : List (List ℕ) → Mark → Option TableLink
link_in_line path (Target text) = Some (record { path = path; text = text })
link_in_line path Executable = None

-- the links among lines
abbrev pub links_among : List TableLine → List TableLink
links_among lines = filter_map (λ (l : TableLine). link_in_line l.path l.mark) lines

-- the line of a path says that the file there is executable
abbrev pub flag_at : List TableLine → List (List ℕ) → Bool
flag_at [] path = false
flag_at (l ∷ lines) path = cond (eq_by_cmp path_cmp path l.path) (is_flag_mark l.mark) (flag_at lines path)
