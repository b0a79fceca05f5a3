-- The filestore of a number: a list of sixteen projects, a link to one of them, and each with a count, a log and eight notes.
use Rattle.std.specs.Prelude.{ℕ, false, ◌+◌, ◌*◌, ◌/◌, ◌%◌, List, [], ◌∷◌, ◌++◌, map, codes, Some, replicate}
use Rattle.std.specs.List.{flat_map, range_with_len}
use Rattle.fx_store.specs.declared.node.Node.{Node}
use Rattle.fx_store.specs.declared.node.Node.TheVariants.{File, Dir, Link}
use Rattle.fx_store.specs.declared.changes.Change.{Change}
use Rattle.fx_store.specs.Whole.{Nodes, over_nodes}
use Rattle.fx_store.specs.Filestore.{root_only}
use Rattle.fx_gen.specs.Draws.{draw}

-- a number below 100 in two digits
abbrev pub two_digits : ℕ → List ℕ
two_digits n = (48 + n / 10) ∷ (48 + n % 10) ∷ []

-- the projects are `p00` to `p15`, the notes of each `n0` to `n7`
abbrev pub project : ℕ → List ℕ
project p = 112 ∷ two_digits p

abbrev pub note_name : ℕ → List ℕ
note_name n = 110 ∷ (48 + n) ∷ []

abbrev pub projects : List (List ℕ)
projects = map project (range_with_len 0 16)

abbrev pub note_names : List (List ℕ)
note_names = map note_name (range_with_len 0 8)

-- what a project has
abbrev pub part_names : List (List ℕ)
part_names = codes "count" ∷ codes "log" ∷ codes "notes" ∷ []

-- the first draw: to which project `current` leads
unfoldable pub linked : ℕ → List ℕ
linked number = project (draw number 0 16)

-- the draws after it, two for each note: its length, from 1 on, and its letter, which it has that many times
unfoldable pub note : ℕ → ℕ → ℕ → List ℕ
note number p n = replicate (1 + draw number (1 + 2 * (8 * p + n)) 64) (97 + draw number (2 + 2 * (8 * p + n)) 26)

-- the names of the projects, each on a line
abbrev pub config : List ℕ
config = flat_map (λ name. name ++ codes "\n") projects

-- what stands at a path
abbrev pub Placed : Type 0
Placed = List (List ℕ) × Node

abbrev pub placed_note : ℕ → ℕ → ℕ → Placed
placed_note number p n = (project p ∷ codes "notes" ∷ note_name n ∷ [], File (note number p n) false)

-- a project's directory, and in it the count and the empty log
abbrev pub placed_parts : List (List ℕ) → List Placed
placed_parts dir = (dir, Dir part_names) ∷ (dir ++ codes "count" ∷ [], File (codes "0") false) ∷ (dir ++ codes "log" ∷ [], Dir []) ∷ []

abbrev pub placed_project : ℕ → ℕ → List Placed
placed_project number p = placed_parts (project p ∷ []) ++ (project p ∷ codes "notes" ∷ [], Dir note_names) ∷ map (placed_note number p) (range_with_len 0 8)

abbrev pub placed_top : ℕ → List Placed
placed_top number =
    ([], Dir (codes "config" ∷ codes "current" ∷ projects)) ∷ (codes "config" ∷ [], File config false) ∷ (codes "current" ∷ [], Link (linked number)) ∷ []

-- what stands in the root, and in the first projects, in order of path
abbrev pub placed_to : ℕ → ℕ → List Placed
placed_to number n = placed_top number ++ flat_map (placed_project number) (range_with_len 0 n)

-- all that stands in the filestore
abbrev pub all_placed : ℕ → List Placed
all_placed number = placed_to number 16

abbrev pub made : Placed → Change
made e = record { path = e.0; node = Some e.1 }

-- the changes that make it
unfoldable pub changes_to : ℕ → ℕ → List Change
changes_to number n = map made (placed_to number n)

unfoldable pub note_changes_to : ℕ → ℕ → ℕ → List Change
note_changes_to number p n = map made (map (placed_note number p) (range_with_len 0 n))

unfoldable pub project_changes : ℕ → ℕ → List Change
project_changes number p = map made (placed_project number p)

-- the filestore
abbrev pub nodes : ℕ → Nodes
nodes number = over_nodes root_only (changes_to number 16)
