-- Parts of the rules of edits, as the code goes through them.
use Rattle.std.specs.Prelude.{◌≡◌, ℕ, ◌+◌, Bool, true, false, List, [], ◌∷◌, ◌++◌, drop, slice_get, length, ◌-◌, ◌<◌, ◌≤◌, Option, Some, None, Ok}
use Rattle.fx_store.specs.declared.node.Node.{Node}
use Rattle.fx_store.specs.declared.node.Node.TheVariants.{File, Dir}
use Rattle.fx_store.specs.declared.changes.Change.{Change}
use Rattle.fx_store.specs.Changes.{changed_paths}
use Rattle.fx_store.specs.Resolve.{◌/ₚ◌, parent, resolve}
use Rattle.fx_store.specs.Rule.{Ask, Answer, Look, look_all, ◌>>=◌}
use Rattle.fx_expr.specs.Sets.{IsAscending, set_of, with_text}
use Rattle.fx_spec.specs.Edit.{set_to, removed, names_of, entry, entries, clear, children, follows_last, store_landed, create_landed, remove_landed}
use Rattle.fx_spec.specs.Move.{Answered}
use Rattle.fx_base.specs.Sets.{without_name}

-- the changes of a rule, after some others
abbrev pub adding : List Change → Ask (List Change) → Ask (List Change)
adding before rule = rule >>= λ changes. Answer (before ++ changes)

-- the changes of a rule, as an edit's answer
abbrev pub edit_answer : Ask (List Change) → Ask (Answered (List Change))
edit_answer rule = rule >>= λ changes. Answer (Ok changes)

-- looks at each path, with nothing to answer
abbrev pub looking : List (List (List ℕ)) → Ask (Unit {0})
looking paths = look_all paths (Answer tt)

-- what a node lists, if there is one
abbrev pub listing : Option Node → Option (List (List ℕ))
listing None = None
listing (Some node) = Some (names_of (Some node))

-- the entry at a path, with these names below it, removed with all below; or nothing is there
abbrev pub cleared_listing : List (List ℕ) → Option (List (List ℕ)) → Ask (List Change)
cleared_listing q None = Answer []
cleared_listing q (Some names) = entries (λ n. clear (q /ₚ n)) names >>= λ below. Answer (removed q ∷ below)

-- what is made before these names: a directory of the first, or else the node
abbrev pub made_node : List (List ℕ) → Node → Node
made_node [] node = node
made_node (m ∷ names) node = Dir (m ∷ [])

-- what is made at each of the names, one below the other: the node at the last one
abbrev pub made_along : List (List ℕ) → List (List ℕ) → Node → List Change
made_along here [] node = []
made_along here (n ∷ names) node = set_to (here /ₚ n) (made_node names node) ∷ made_along (here /ₚ n) names node

-- and the files that the node lists
abbrev pub made_all : List (List ℕ) → List (List ℕ) → Node → List Change
made_all here names node = made_along here names node ++ children (here ++ names) node

-- a directory is looked at, and then each path at which something is made; it lists the first name from then on
abbrev pub made_in : List (List ℕ) → List ℕ → List Change → Ask (List Change)
made_in here n changes =
    Look here (λ found. Answer (names_of found)) >>= λ names. looking (changed_paths changes) >>= λ u. Answer (set_to here (Dir (with_text n names)) ∷ changes)

-- one more is made, at the name of this place
pub record IsNextMade (names : List (List ℕ)) (i : ℕ) (node : Node) (path more : List (List ℕ)) (old new : List Change) : Type 0 where
  pub name : List ℕ
  pub here : slice_get names i ≡ Some name
  pub longer : more ≡ path /ₚ name
  pub added : new ≡ old ++ set_to more (made_node (drop (i + 1) names) node) ∷ []

-- the path has a last name, which is this
pub record HasLast (path : List (List ℕ)) (name : List ℕ) : Type 0 where
  pub some : 0 < length path
  pub last : slice_get path (length path - 1) ≡ Some name

-- the directory above a path lists the last name no more, and what the path has is removed with all below
abbrev pub removing : List (List ℕ) → List ℕ → Ask (List Change)
removing path name =
    Look (parent path) (λ above. Answer (names_of above)) >>= λ names. adding (set_to (parent path) (Dir (without_name name names)) ∷ []) (clear path)

-- the edits at a path, by where it lands
abbrev pub store_there : Bool → List (List ℕ) → Node → Ask (Answered (List Change))
store_there flag path node = resolve path (follows_last node) >>= store_landed flag path node

abbrev pub create_there : List (List ℕ) → Node → Ask (Answered (List Change))
create_there path node = resolve path false >>= create_landed path node

abbrev pub remove_there : List (List ℕ) → Ask (Answered (List Change))
remove_there path = resolve path false >>= remove_landed path

-- an empty file at a new name, where it is looked at before
abbrev pub added_file : List (List ℕ) → Ask (List Change)
added_file q = Look q (λ node. Answer (set_to q (File [] false) ∷ []))

-- the changes of the entries of a directory that lists the new names in place of the old, in ascending order
abbrev pub changed_entries : List (List ℕ) → List (List ℕ) → List (List ℕ) → Ask (List Change)
changed_entries q old new = entries (entry q old new) (set_of (old ++ new))

-- what is done at a name that only the new names have, or only the old ones
abbrev pub changed_name : List (List ℕ) → List ℕ → Bool → Ask (List Change)
changed_name q n true = added_file (q /ₚ n)
changed_name q n false = clear (q /ₚ n)

-- a directory that lists the second names in place of the first has no entry to change
abbrev pub AreAlike : List (List ℕ) → List (List ℕ) → Type 0
AreAlike a b = (q : List (List ℕ)) (before : List Change) → adding before (changed_entries q a b) ≡ Answer before

-- the first of its entries to change is the one of this name, and those of what is left of both sets are the others
pub record IsNextChange (a b : List (List ℕ)) (n : List ℕ) (new : Bool) (c d : List (List ℕ)) : Type 0 where
  pub changes : (q : List (List ℕ)) (before : List Change) → adding before (changed_entries q a b) ≡ (adding before (changed_name q n new) >>= λ now. adding now (changed_entries q c d))
  pub some : new ≡ true → 0 < length b
  pub smaller : length c + length d < length a + length b

-- both lists ascend, and the second has at most as many names as `new`
pub record AreLeft (new a b : List (List ℕ)) : Type 0 where
  pub olds : IsAscending a
  pub news : IsAscending b
  pub few : length b ≤ length new
