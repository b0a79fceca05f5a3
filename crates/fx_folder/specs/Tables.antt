-- What the table of a folder adds to what was walked.
use Rattle.std.specs.Prelude.{◌≡◌, ℕ, ◌-◌, cond, nat_lt, List, [], ◌∷◌, ◌++◌, length, Some, Result, Ok, Err, ⊤, option_map, Vec}
use Rattle.std.specs.Global.{Global}
use Rattle.std.specs.FinMap.{get}
use Rattle.fx_outside.specs.declared.kind.HostKind.{HostKind}
use Rattle.fx_outside.specs.declared.kind.HostKind.TheVariants as kind
use Rattle.fx_outside.specs.Path.{Parts}
use Rattle.fx_outside.specs.Tree.{Tree}
use Rattle.fx_store.specs.declared.changes.Change.{Change}
use Rattle.fx_table.specs.declared.fault.FolderCause.{FolderCause}
use Rattle.fx_table.specs.declared.fault.FolderCause.TheVariants.{Strange, TooLarge}
use Rattle.fx_table.specs.declared.fault.LoadFault.{LoadFault}
use Rattle.fx_table.specs.declared.fault.LoadFault.TheVariants.{Refused, ReadFault, NoMemory}
use Rattle.fx_table.specs.declared.lines.Room.{Room}
use Rattle.fx_folder.specs.Deep.{all_below, loaded}
use Rattle.fx_table.specs.Listed.{listed, with_lines}
use Rattle.fx_table.specs.Places.{place_of, table_name}
use Rattle.fx_folder.specs.declared.limits.TheConstants.{MAX_NODES, MAX_TABLE}
use Rattle.fx_table.specs.Lines.{lines_in, standing_by, ReadsAll}
use Rattle.fx_table.specs.Mapped.{mapped_of}
use Rattle.fx_table.specs.Shaped.{changes_of}

-- the text of a table of this kind, or why it is refused
abbrev pub table_text_or_cause : HostKind → List ℕ → Result (List ℕ) FolderCause
table_text_or_cause kind.File contents = cond (nat_lt MAX_TABLE (length contents)) (Err (TooLarge (place_of (table_name ∷ [])))) (Ok contents)
table_text_or_cause kind.Folder contents = Err (Strange (place_of (table_name ∷ [])))
table_text_or_cause kind.Other contents = Err (Strange (place_of (table_name ∷ [])))

-- the answer is this, unless the host failed or memory was refused
abbrev pub AnswersText : Result (List ℕ) FolderCause → Result (List ℕ) LoadFault → Type 0
AnswersText answer (Ok text) = answer ≡ Ok text
AnswersText answer (Err (Refused cause)) = answer ≡ Err cause
AnswersText answer (Err ReadFault) = ⊤
AnswersText answer (Err NoMemory) = ⊤

-- how much may still be loaded behind what was walked
abbrev pub room_behind : List Change → ℕ → Room
room_behind found left = record { links = MAX_NODES - length found; bytes = left }

-- the lines of the text are set among what was found
pub record IsJoined (found : List Change) (left : ℕ) (text : List ℕ) (joined : List Change) : Type 0 where
  pub lines : List Change
  pub read : ReadsAll (standing_by found) (room_behind found left) text lines
  pub all : joined ≡ changes_of (with_lines (mapped_of found) (lines_in lines))

-- everything that a folder is loaded as but the names of its directories, or the first refusal
abbrev pub AnswersFound : Tree → Parts → Result (List Change) LoadFault → Type 0
AnswersFound tree at (Ok all) = loaded (all_below tree at) ≡ Ok (listed (mapped_of all))
AnswersFound tree at (Err (Refused cause)) = loaded (all_below tree at) ≡ Err cause
AnswersFound tree at (Err ReadFault) = ⊤
AnswersFound tree at (Err NoMemory) = ⊤

-- the entry of the table has this kind
abbrev pub HasTable : Tree → Parts → HostKind → Type 0
HasTable tree at k = option_map (λ e. e.kind) (get tree (at ++ table_name ∷ [])) ≡ Some k

-- the items of an answer
abbrev pub items_in : {A : Type 0} → Result (Vec A Global) LoadFault → Result (List A) LoadFault
items_in (Ok v) = Ok v.items
items_in (Err fault) = Err fault
