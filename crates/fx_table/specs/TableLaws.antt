-- The table file is read in one way: what a text stands for is spelled by it, and by no other text.
use Rattle.std.specs.Prelude.{◌≡◌, ◌⊎◌, ℕ, ◌+◌, true, false, List, [], ◌∷◌, ◌++◌, All, length, Ok, Err, Option, Some, None}
use Rattle.std.specs.FinMap.{get}
use Rattle.fx_store.specs.declared.node.Node.{Node}
use Rattle.fx_store.specs.declared.node.Node.TheVariants.{File, Dir, Link}
use Rattle.fx_store.specs.Whole.{Store, Nodes, IsWhole}
use Rattle.fx_table.specs.Table.{TableLine, IsLine, Setting, AreLinesOver, IsTable, line_of, lines_text, table_text, lines_of, setting_of, body_of, first_number, lacks_flags, read_table}

-- the text of a table is read as its lines
abbrev pub TablesAreRead : Type 0
TablesAreRead = (S : Store) (lines : List TableLine) → IsTable S lines → read_table S (table_text lines) ≡ Ok lines

-- a text that is read is the text of the table that was read
pub record SpellsTable (S : Store) (text : List ℕ) (lines : List TableLine) : Type 0 where
  pub spelled : text ≡ table_text lines
  pub table : IsTable S lines

abbrev pub ReadTextsAreTables : Type 0
ReadTextsAreTables = (S : Store) (text : List ℕ) (lines : List TableLine) → read_table S text ≡ Ok lines → SpellsTable S text lines

-- different lines have different texts
abbrev pub TablesAreReadable : Type 0
TablesAreReadable = (lines others : List TableLine) → All IsLine lines → All IsLine others → table_text lines ≡ table_text others → lines ≡ others

-- behind lines, of which the first has a number, the next has this number: it is bad, since with one line more of the rest they
-- do not have their places
pub record StopsAtLine (s : Setting) (first : ℕ) (lines : List TableLine) (rest : List ℕ) (number : ℕ) : Type 0 where
  pub place : number ≡ length lines + first
  pub some : rest ≡ [] → ⊥
  pub stops : (line : TableLine) (later : List ℕ) → rest ≡ line_of line ++ 10 ∷ later → AreLinesOver s (lines ++ line ∷ []) → ⊥

-- the first bad line of lines
pub record IsFirstBadOf (s : Setting) (first : ℕ) (body : List ℕ) (number : ℕ) : Type 0 where
  pub lines : List TableLine
  pub rest : List ℕ
  pub parts : body ≡ lines_text lines ++ rest
  pub table : AreLinesOver s lines
  pub bad : StopsAtLine s first lines rest number

-- nothing is left behind good lines, and the text is of version 2 in vain
pub record LacksFlags (text : List ℕ) (lines : List TableLine) (rest : List ℕ) (number : ℕ) : Type 0 where
  pub whole : rest ≡ []
  pub lacks : lacks_flags text lines ≡ true
  pub place : number ≡ 1

-- the first bad line of a text, and the lines before it, which have their places
pub record IsFirstBadLine (S : Store) (text : List ℕ) (number : ℕ) : Type 0 where
  pub lines : List TableLine
  pub rest : List ℕ
  pub parts : body_of text ≡ lines_text lines ++ rest
  pub table : AreLinesOver (setting_of S text) lines
  pub bad : StopsAtLine (setting_of S text) (first_number text) lines rest number ⊎ LacksFlags text lines rest number

-- lines at the front of a text have their places
pub record BeginsWith (S : Store) (text : List ℕ) (lines : List TableLine) : Type 0 where
  pub rest : List ℕ
  pub parts : body_of text ≡ lines_text lines ++ rest
  pub table : AreLinesOver (setting_of S text) lines

abbrev pub BadLinesAreFirst : Type 0
BadLinesAreFirst = (S : Store) (text : List ℕ) (number : ℕ) → read_table S text ≡ Err number → IsFirstBadLine S text number

-- a file without its flag, and a directory
abbrev pub but_no_link : Option Node → Option Node
but_no_link None = None
but_no_link (Some (File bytes exec)) = Some (File bytes false)
but_no_link (Some (Dir names)) = Some (Dir names)
but_no_link (Some (Link text)) = None

-- the files and directories of a filestore, no file of them executable, whose directories list the links still
abbrev pub unlinked : Store → Store
unlinked S path = but_no_link (S path)

-- the lines of a whole filestore are a table over the rest of it, so that they are read back from its text
abbrev pub LinesAreTables : Type 0
LinesAreTables = (nodes : Nodes) → IsWhole (get nodes) → IsTable (unlinked (get nodes)) (lines_of nodes)
