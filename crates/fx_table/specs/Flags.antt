-- Which files are executable by changes that stand for the lines of a table.
use Rattle.std.specs.Prelude.{ℕ, Bool, List, Option, Some, None}
use Rattle.std.specs.List.{filter}
use Rattle.fx_store.specs.declared.node.Node.{Node}
use Rattle.fx_store.specs.declared.node.Node.TheVariants.{File, Dir, Link}
use Rattle.fx_store.specs.declared.changes.Change.{Change}
use Rattle.fx_store.specs.Kinds.{is_link, is_executable}
use Rattle.fx_table.specs.Lines.{standing_by}

-- the file at a path is executable by the changes
abbrev pub flagged_at : List Change → List (List ℕ) → Bool
flagged_at lines path = is_executable (standing_by lines path)

abbrev pub with_exec : Bool → Option Node → Option Node
with_exec flag None = None
with_exec flag (Some (File bytes exec)) = Some (File bytes flag)
with_exec flag (Some (Dir names)) = Some (Dir names)
with_exec flag (Some (Link text)) = Some (Link text)

-- a change of a file makes it executable where the lines say so
abbrev pub flag_change : List Change → Change → Change
flag_change lines c = record { path = c.path; node = with_exec (flagged_at lines c.path) c.node }

-- the changes that make links
abbrev pub links_alone : List Change → List Change
links_alone changes = filter (λ (c : Change). is_link c.node) changes
