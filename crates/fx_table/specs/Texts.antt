-- The text of a table, line by line.
use Rattle.std.specs.Prelude.{◌≡◌, ◌||◌, ℕ, Bool, true, false, cond, List, [], ◌∷◌, ◌++◌, Option, Some, None}
use Rattle.fx_store.specs.declared.node.Node.{Node}
use Rattle.fx_store.specs.declared.node.Node.TheVariants.{File, Dir, Link}
use Rattle.fx_store.specs.Kinds.{is_executable}
use Rattle.fx_table.specs.declared.links.TableText.{TableText}
use Rattle.fx_table.specs.Table.{TableLine, Target, Executable, line_of, version_line}

-- a line with its line feed
abbrev pub line_with_feed : TableLine → List ℕ
line_with_feed line = line_of line ++ 10 ∷ []

abbrev pub link_text : List (List ℕ) → List ℕ → List ℕ
link_text path text = line_with_feed (record { path = path; mark = Target text })

abbrev pub flag_text : List (List ℕ) → Bool → List ℕ
flag_text path true = line_with_feed (record { path = path; mark = Executable })
flag_text path false = []

-- the line of what stands at a path, if it has one
abbrev pub line_text_at : List (List ℕ) → Option Node → List ℕ
line_text_at path None = []
line_text_at path (Some (File bytes exec)) = flag_text path exec
line_text_at path (Some (Dir names)) = []
line_text_at path (Some (Link text)) = link_text path text

-- the lines that were added, and whether one of them says that a file is executable
abbrev pub lines_so_far : TableText → List ℕ
lines_so_far text = text.lines.items

abbrev pub flags_so_far : TableText → Bool
flags_so_far text = text.flags

pub record AddsLine (old : TableText) (path : List (List ℕ)) (node : Node) (new : TableText) : Type 0 where
  pub lines : lines_so_far new ≡ lines_so_far old ++ line_text_at path (Some node)
  pub flags : flags_so_far new ≡ (flags_so_far old || is_executable (Some node))

abbrev pub whole_text : TableText → List ℕ
whole_text text = cond text.flags version_line [] ++ text.lines.items
