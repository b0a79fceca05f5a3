-- What the reader of a table answers of a filestore: changes that make the links and flags of its text.
use Rattle.std.specs.Prelude.{◌≡◌, ℕ, Bool, true, false, not, cond, List, [], ◌∷◌, ◌++◌, Option, Some, None, Ok, Err, ⊤}
use Rattle.std.specs.List.{filter_map, cons_option}
use Rattle.std.specs.FinMap.{get, entries, from_entries}
use Rattle.fx_store.specs.declared.node.Node.{Node}
use Rattle.fx_store.specs.declared.node.Node.TheVariants.{File, Dir, Link}
use Rattle.fx_store.specs.declared.changes.Change.{Change}
use Rattle.fx_store.specs.Whole.{Nodes, over_nodes}
use Rattle.fx_table.specs.declared.fault.FolderCause.TheVariants.{BadName, Strange, TooLarge, BadTable}
use Rattle.fx_table.specs.declared.fault.LoadFault.{LoadFault}
use Rattle.fx_table.specs.declared.fault.LoadFault.TheVariants.{Refused, ReadFault, NoMemory}
use Rattle.fx_table.specs.Listed.{Mapped, listed, with_lines}
use Rattle.fx_table.specs.Shaped.{change_of}
use Rattle.fx_table.specs.Table.{TableLine, read_table}

-- the filestore with the lines of a table: its files executable where a line says so, and the links among its entries, each
-- listed by its directory
abbrev pub linked_nodes : Nodes → List TableLine → Nodes
linked_nodes nodes lines = from_entries (listed (with_lines (entries nodes) lines))

-- the changes make the links and flags that the text stands for
pub record MakesTable (nodes : Nodes) (text : List ℕ) (changes : List Change) : Type 0 where
  pub lines : List TableLine
  pub read : read_table (get nodes) text ≡ Ok lines
  pub made : over_nodes nodes changes ≡ linked_nodes nodes lines

-- a table is refused at its first bad line
abbrev pub TableCause : Nodes → List ℕ → LoadFault → Type 0
TableCause nodes text (Refused (BadName place)) = ⊥
TableCause nodes text (Refused (Strange place)) = ⊥
TableCause nodes text (Refused (TooLarge place)) = ⊥
TableCause nodes text (Refused (BadTable number)) = read_table (get nodes) text ≡ Err number
TableCause nodes text ReadFault = ⊥
TableCause nodes text NoMemory = ⊤

-- a node without what it holds: a directory without names, or an empty file
abbrev pub emptied_node : Node → Node
emptied_node (File bytes exec) = File [] false
emptied_node (Dir names) = Dir []
emptied_node (Link text) = File [] false

abbrev pub bare : Mapped → Mapped
bare (path, node) = (path, emptied_node node)

-- one path more, with its bare node
abbrev pub AddsBare : List (List ℕ) → Node → List Change → List Change → Type 0
AddsBare path node old new = new ≡ old ++ change_of (bare (path, node)) ∷ []

abbrev pub differs : Bool → Bool → Bool
differs true was = not was
differs false was = was

-- the file that stands at a path, with another flag
abbrev pub changed_flag : List (List ℕ) → Bool → Option Node → Option Change
changed_flag path exec None = None
changed_flag path exec (Some (File bytes was)) = cond (differs exec was) (Some (record { path = path; node = Some (File bytes exec) })) None
changed_flag path exec (Some (Dir names)) = None
changed_flag path exec (Some (Link text)) = None

-- of a file that is bare a change of its flag is kept, where a file stands, and all else is kept
abbrev pub kept_change : List (List ℕ) → Option Node → Option Node → Option Change
kept_change path there None = Some (record { path = path; node = None })
kept_change path there (Some (File bytes exec)) = changed_flag path exec there
kept_change path there (Some (Dir names)) = Some (record { path = path; node = Some (Dir names) })
kept_change path there (Some (Link text)) = Some (record { path = path; node = Some (Link text) })

abbrev pub kept_of : Nodes → List Change → List Change
kept_of nodes changes = filter_map (λ (c : Change). kept_change c.path (get nodes c.path) c.node) changes

-- the flag of the file that a change makes
abbrev pub flag_in : Option Node → Option Bool
flag_in None = None
flag_in (Some (File bytes exec)) = Some exec
flag_in (Some (Dir names)) = None
flag_in (Some (Link text)) = None

-- one change more, if the flag is another
abbrev pub KeepsFlag : Bool → List (List ℕ) → Option Node → List Change → List Change → Type 0
KeepsFlag exec path node old new = new ≡ old ++ cons_option (changed_flag path exec node) []

-- one change more, if it is kept
abbrev pub Keeps : Nodes → Change → List Change → List Change → Type 0
Keeps nodes c old new = new ≡ old ++ cons_option (kept_change c.path (get nodes c.path) c.node) []
