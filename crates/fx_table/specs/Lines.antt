-- What the reader of a table answers, line by line.
use Rattle.std.specs.Prelude.{◌≡◌, ℕ, ◌-◌, ◌<◌, ◌==◌, Bool, true, false, not, ◌||◌, nat_lt, List, [], ◌∷◌, ◌++◌, map, length, sum_by, IsTrue, unwrap_or, Option, Some, None, ⊤}
use Rattle.std.specs.List.{slice_split}
use Rattle.std.specs.List.Sorted.{IsStrictlySortedBy}
use Rattle.fx_store.specs.declared.node.Node.{Node}
use Rattle.fx_store.specs.declared.node.Node.TheVariants.{File, Dir, Link}
use Rattle.fx_store.specs.declared.changes.Change.{Change}
use Rattle.fx_store.specs.Changes.{changed_paths, change_at}
use Rattle.fx_store.specs.Names.{path_cmp}
use Rattle.fx_store.specs.Whole.{Store}
use Rattle.fx_table.specs.declared.fault.FolderCause.TheVariants.{BadName, Strange, TooLarge, BadTable}
use Rattle.fx_table.specs.declared.fault.LoadFault.{LoadFault}
use Rattle.fx_table.specs.declared.fault.LoadFault.TheVariants.{Refused, ReadFault, NoMemory}
use Rattle.fx_table.specs.declared.lines.Room.{Room}
use Rattle.fx_table.specs.Places.{place_of, table_name}
use Rattle.fx_table.specs.TableLaws.{BeginsWith, IsFirstBadOf, IsFirstBadLine}
use Rattle.fx_table.specs.Table.{TableLine, Mark, Target, Executable, TableLink, Setting, over, AreLinesOver, line_of, lines_text, table_text, has_place, links_among}

-- the change that makes a link, and the link that a change makes
abbrev pub link_change : TableLink → Change
link_change link = record { path = link.path; node = Some (Link link.text) }

abbrev pub link_text_in : Option Node → List ℕ
link_text_in None = []
link_text_in (Some (File bytes exec)) = []
link_text_in (Some (Dir names)) = []
link_text_in (Some (Link text)) = text

abbrev pub link_in : Change → TableLink
link_in c = record { path = c.path; text = link_text_in c.node }

abbrev pub links_in : List Change → List TableLink
links_in changes = map link_in changes

-- the change that a line stands for while lines are read, and the line of a change: an executable file is one without bytes
abbrev pub mark_node : Mark → Node
mark_node (Target text) = Link text
mark_node Executable = File [] true

abbrev pub line_change : TableLine → Change
line_change l = record { path = l.path; node = Some (mark_node l.mark) }

abbrev pub mark_in : Option Node → Mark
mark_in None = Executable
mark_in (Some (File bytes exec)) = Executable
mark_in (Some (Dir names)) = Executable
mark_in (Some (Link text)) = Target text

abbrev pub line_in : Change → TableLine
line_in c = record { path = c.path; mark = mark_in c.node }

abbrev pub lines_in : List Change → List TableLine
lines_in changes = map line_in changes

-- the changes stand for lines, which have their places
pub record AreLines (s : Setting) (changes : List Change) : Type 0 where
  pub made : changes ≡ map line_change (lines_in changes)
  pub table : AreLinesOver s (lines_in changes)

-- what stands at a path by changes alone
abbrev pub standing_by : List Change → Store
standing_by changes path = unwrap_or (change_at changes path) None

-- a text is cut at the first byte of this value
pub record IsCut (byte : ℕ) (text first rest : List ℕ) : Type 0 where
  pub whole : text ≡ first ++ byte ∷ rest
  pub parts : slice_split (λ b. b == byte) text ≡ first ∷ slice_split (λ b. b == byte) rest

-- a line at the path can follow these
pub record CanFollow (s : Setting) (changes : List Change) (line : TableLine) : Type 0 where
  pub some : 0 < length line.path
  pub ascending : IsStrictlySortedBy path_cmp (changed_paths changes ++ line.path ∷ [])
  pub stands : IsTrue (has_place s line)

pub record DecidesFollow (s : Setting) (changes : List Change) (line : TableLine) (can : Bool) : Type 0 where
  pub holds : can ≡ true → CanFollow s changes line
  pub fails : can ≡ false → CanFollow s changes line → ⊥

-- the bytes in the texts of links
abbrev pub link_bytes : List TableLink → ℕ
link_bytes links = sum_by (λ (l : TableLink). length l.text) links

-- there is no room for so many links, or for so many bytes in their texts
abbrev pub is_over : Room → List TableLink → Bool
is_over room links = nat_lt room.links (length links) || nat_lt room.bytes (link_bytes links)

abbrev pub is_over_by : Room → List TableLine → Bool
is_over_by room lines = is_over room (links_among lines)

-- the room that a line leaves
abbrev pub room_less : Room → Mark → Room
room_less room (Target text) = record { links = room.links - 1; bytes = room.bytes - length text }
room_less room Executable = room

abbrev pub as_line : Mark → TableLine
as_line mark = record { path = []; mark = mark }

-- the room of such a line is taken, unless there is too little
pub record TakesRoom (old : Room) (mark : Mark) (new : Room) (takes : Bool) : Type 0 where
  pub over : is_over_by old (as_line mark ∷ []) ≡ not takes
  pub left : takes ≡ true → new ≡ room_less old mark

-- a line at the front of a text can follow
pub record IsNextLine (s : Setting) (text : List ℕ) (old : List Change) (line : TableLine) (rest : List ℕ) : Type 0 where
  pub spelled : text ≡ line_of line ++ 10 ∷ rest
  pub table : AreLinesOver s (lines_in old ++ line ∷ [])

-- the first line of a text is read, and this is left
pub record ReadsNext (s : Setting) (room : Room) (text : List ℕ) (old new : List Change) (room' : Room) (rest : List ℕ) : Type 0 where
  pub line : TableLine
  pub next : IsNextLine s text old line rest
  pub made : new ≡ old ++ line_change line ∷ []
  pub takes : TakesRoom room line.mark room' true

pub record IsOver (s : Setting) (room : Room) (text : List ℕ) (old : List Change) : Type 0 where
  pub line : TableLine
  pub rest : List ℕ
  pub next : IsNextLine s text old line rest
  pub many : is_over_by room (line ∷ []) ≡ true

-- no line at the front of the text can follow
abbrev pub IsStopped : Setting → List ℕ → List TableLine → Type 0
IsStopped s text lines = (line : TableLine) (later : List ℕ) → text ≡ line_of line ++ 10 ∷ later → AreLinesOver s (lines ++ line ∷ []) → ⊥

abbrev pub StopsNext : Setting → Room → List ℕ → ℕ → List Change → LoadFault → Type 0
StopsNext s room text number old (Refused (BadName place)) = ⊥
StopsNext s room text number old (Refused (Strange place)) = ⊥
StopsNext s room text number old (Refused (TooLarge place)) = (place ≡ place_of (table_name ∷ [])) × IsOver s room text old
StopsNext s room text number old (Refused (BadTable n)) = (n ≡ number) × IsStopped s text (lines_in old)
StopsNext s room text number old ReadFault = ⊥
StopsNext s room text number old NoMemory = ⊤

-- lines are read to their end
pub record ReadsBody (s : Setting) (room : Room) (body : List ℕ) (changes : List Change) : Type 0 where
  pub are : AreLines s changes
  pub whole : body ≡ lines_text (lines_in changes)
  pub few : is_over_by room (lines_in changes) ≡ false

-- lines at the front have their places, and there is no room for them
pub record IsOverBody (s : Setting) (room : Room) (body : List ℕ) : Type 0 where
  pub lines : List TableLine
  pub rest : List ℕ
  pub parts : body ≡ lines_text lines ++ rest
  pub table : AreLinesOver s lines
  pub many : is_over_by room lines ≡ true

-- a line is bad, and there is room for those before it
pub record IsBadBody (s : Setting) (room : Room) (first : ℕ) (body : List ℕ) (number : ℕ) : Type 0 where
  pub bad : IsFirstBadOf s first body number
  pub few : is_over_by room bad.lines ≡ false

abbrev pub BodyCause : Setting → Room → ℕ → List ℕ → LoadFault → Type 0
BodyCause s room first body (Refused (BadName place)) = ⊥
BodyCause s room first body (Refused (Strange place)) = ⊥
BodyCause s room first body (Refused (TooLarge place)) = (place ≡ place_of (table_name ∷ [])) × IsOverBody s room body
BodyCause s room first body (Refused (BadTable n)) = IsBadBody s room first body n
BodyCause s room first body ReadFault = ⊥
BodyCause s room first body NoMemory = ⊤

-- a table is read
pub record ReadsAll (S : Store) (room : Room) (text : List ℕ) (changes : List Change) : Type 0 where
  pub are : AreLines (over S true) changes
  pub whole : text ≡ table_text (lines_in changes)
  pub few : is_over_by room (lines_in changes) ≡ false

-- lines at the front of a text have their places, and there is no room for them
pub record StopsMany (S : Store) (room : Room) (text : List ℕ) : Type 0 where
  pub lines : List TableLine
  pub front : BeginsWith S text lines
  pub many : is_over_by room lines ≡ true

-- a line is bad, and there is room for those before it
pub record StopsBad (S : Store) (room : Room) (text : List ℕ) (number : ℕ) : Type 0 where
  pub first : IsFirstBadLine S text number
  pub few : is_over_by room first.lines ≡ false

abbrev pub LinesCause : Store → Room → List ℕ → LoadFault → Type 0
LinesCause S room text (Refused (BadName place)) = ⊥
LinesCause S room text (Refused (Strange place)) = ⊥
LinesCause S room text (Refused (TooLarge place)) = (place ≡ place_of (table_name ∷ [])) × StopsMany S room text
LinesCause S room text (Refused (BadTable n)) = StopsBad S room text n
LinesCause S room text ReadFault = ⊥
LinesCause S room text NoMemory = ⊤
