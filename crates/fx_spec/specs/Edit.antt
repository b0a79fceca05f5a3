-- What edits change, as rules that consult a filestore: an edit answers its changes in ascending order of path, or the first
-- refusal that applies. It looks at each path that it may change before it answers.
use Rattle.std.specs.Prelude.{ℕ, zero, suc, ◌+◌, ◌-◌, Bool, true, false, cond, ◌&&◌, List, [], ◌∷◌, ◌++◌, map, length, slice_index_or, nat_eq, nat_lt, nat_le, Option, Some, None, Result, Ok, Err}
use Rattle.std.specs.Cmp.Lexicographic.{pointwise}
use Rattle.std.specs.List.{list_all}
use Rattle.fx_store.specs.declared.node.Node.{Node}
use Rattle.fx_store.specs.declared.node.Node.TheVariants.{File, Dir, Link}
use Rattle.fx_store.specs.declared.node.Landing.{Landing}
use Rattle.fx_store.specs.declared.node.Landing.TheVariants.{At, Absent, Blocked, TooManyLinks}
use Rattle.fx_store.specs.declared.changes.Change.{Change}
use Rattle.fx_store.specs.declared.name.PathFault.{PathFault}
use Rattle.fx_store.specs.declared.name.PathFault.TheVariants.{TooDeep}
use Rattle.fx_store.specs.Changes.{changed_paths}
use Rattle.fx_store.specs.Faults.{read_link}
use Rattle.fx_store.specs.Names.{is_name, has}
use Rattle.fx_store.specs.Rule.{Ask, Answer, Look, look_all, ◌>>=◌}
use Rattle.fx_store.specs.Resolve.{resolve, ◌/ₚ◌, parent, is_full}
use Rattle.fx_expr.specs.Sets.{set_of, with_text}
use Rattle.fx_expr.specs.Tree.{Tree}
use Rattle.fx_spec.specs.declared.refusal.Refusal.{Refusal}
use Rattle.fx_spec.specs.SpecTree.{SpecTree}
use Rattle.fx_spec.specs.Move.{Answered, unrefused, needed}
use Rattle.fx_spec.specs.Place.{PlaceTree}
use Rattle.fx_base.specs.Sets.{without_name}

-- the path has this node from now on, or none
abbrev pub set_to : List (List ℕ) → Node → Change
set_to p node = record { path = p; node = Some node }

abbrev pub removed : List (List ℕ) → Change
removed p = record { path = p; node = None }

-- the names that a directory lists
abbrev pub names_of : Option Node → List (List ℕ)
names_of (Some (Dir names)) = names
names_of _ = []

-- what each of the names changes, in order
abbrev pub entries : (List ℕ → Ask (List Change)) → List (List ℕ) → Ask (List Change)
entries change [] = Answer []
entries change (n ∷ names) = change n >>= λ first. entries change names >>= λ rest. Answer (first ++ rest)

-- the entry at a path and all that is below it, removed; so many levels are at most there
abbrev pub cleared : List (List ℕ) → (List (List ℕ) → Ask (List Change)) → Option Node → Ask (List Change)
cleared q clear None = Answer []
cleared q clear (Some node) = entries (λ n. clear (q /ₚ n)) (names_of (Some node)) >>= λ below. Answer (removed q ∷ below)

abbrev pub clear_levels : ℕ → List (List ℕ) → Ask (List Change)
clear_levels zero q = Answer []
clear_levels (suc levels) q = Look q (cleared q (λ p. clear_levels levels p))

-- no path has more than 64 names
unfoldable pub clear : List (List ℕ) → Ask (List Change)
clear q = clear_levels (65 - length q) q

-- an entry of a directory that lists the new names in place of the old: a new name is an empty file, a dropped one is
-- removed with all below, and one that stays is not touched
abbrev pub entry : List (List ℕ) → List (List ℕ) → List (List ℕ) → List ℕ → Ask (List Change)
entry q old new n =
    let added = Look (q /ₚ n) (λ node. Answer (set_to (q /ₚ n) (File [] false) ∷ [])) in
    let dropped = clear (q /ₚ n) in
    cond (has new n) (cond (has old n) (Answer []) added) dropped

-- a directory's names replaced, at a path that has room for names below it
abbrev pub new_names : List (List ℕ) → List (List ℕ) → List (List ℕ) → Ask (Answered (List Change))
new_names q old new =
    entries (entry q old new) (set_of (old ++ new)) >>= λ below. Answer (Ok (set_to q (Dir new) ∷ below))

-- no names are stored below a path of 64 names
abbrev pub lacks_room : List (List ℕ) → Node → Bool
lacks_room q (Dir names) = is_full q && nat_lt 0 (length names)
lacks_room q _ = false

abbrev pub unless_deep : Bool → Ask (Answered (List Change)) → Ask (Answered (List Change))
unless_deep true rule = Answer (Err Refusal.TooDeep)
unless_deep false rule = rule

-- a file of which the flag alone is replaced, or the bytes alone
abbrev pub renewed : Bool → Node → Node → Node
renewed true (File bytes exec) (File old was) = File old exec
renewed false (File bytes exec) (File old was) = File bytes was
renewed flag node old = node

-- the content of the node landed at, replaced by that of the same kind; of a file the flag alone, or the bytes alone
abbrev pub replaced : Bool → List (List ℕ) → Node → Option Node → Ask (Answered (List Change))
replaced flag q (File bytes exec) (Some (File old was)) = Answer (Ok (set_to q (renewed flag (File bytes exec) (File old was)) ∷ []))
replaced flag q (Link text) (Some (Link old)) = Answer (Ok (set_to q (Link text) ∷ []))
replaced flag q (Dir names) (Some (Dir old)) = unless_deep (lacks_room q (Dir names)) (new_names q old names)
replaced flag q node found = Answer (Err (Refusal.Blocked q))

-- the empty files of a new directory
abbrev pub children : List (List ℕ) → Node → List Change
children q (Dir names) = map (λ n. set_to (q /ₚ n) (File [] false)) names
children q _ = []

-- the missing directories on the way, and the node with the files that it lists
abbrev pub made : List (List ℕ) → List ℕ → List (List ℕ) → Node → List Change
made here n [] node = set_to (here /ₚ n) node ∷ children (here /ₚ n) node
made here n (m ∷ names) node = set_to (here /ₚ n) (Dir (m ∷ [])) ∷ made (here /ₚ n) m names node

-- the node is made at the missing names of a directory
abbrev pub make : List (List ℕ) → List (List ℕ) → Node → Ask (Answered (List Change))
make here [] node = Answer (Err (Refusal.Blocked here))
make here (n ∷ names) node =
    Look here λ found.
    let changes = made here n names node in
    look_all (changed_paths changes) (Answer (Ok (set_to here (Dir (with_text n (names_of found))) ∷ changes)))

abbrev pub is_too_deep : List (List ℕ) → List (List ℕ) → Node → Bool
is_too_deep here names node = cond (nat_lt 64 (length here + length names)) true (lacks_room (here ++ names) node)

-- a store by where the path lands; `p` is the place's path
abbrev pub store_landed : Bool → List (List ℕ) → Node → Landing → Ask (Answered (List Change))
store_landed flag p node (At q) = Look q (replaced flag q node)
store_landed flag p node (Absent here names) = unless_deep (is_too_deep here names node) (make here names node)
store_landed flag p node (Blocked q) = Answer (Err (Refusal.Blocked q))
store_landed flag p node TooManyLinks = Answer (Err (Refusal.Blocked p))

-- the node that a value makes at a form
abbrev pub names_node : List (List ℕ) → Answered Node
names_node names = cond (list_all is_name names) (Ok (Dir names)) (Err Refusal.BadName)

abbrev pub link_node : Result (List ℕ) PathFault → Answered Node
link_node (Ok text) = Ok (Link text)
link_node (Err TooDeep) = Err Refusal.TooDeep
link_node (Err _) = Err Refusal.BadName

abbrev pub form_node : SpecTree → Tree → Answered Node
form_node SpecTree.file (Tree.str bytes) = Ok (File bytes false)
form_node SpecTree.file (Tree.bool exec) = Ok (File [] exec)
form_node SpecTree.dir (Tree.names names) = names_node names
form_node SpecTree.link (Tree.str text) = link_node (read_link text)
form_node _ v = Err Refusal.WrongForm

-- a text that a file can hold, and a set in order; each text and set of the program is one
abbrev pub is_content : List ℕ → Bool
is_content bytes = nat_le (length bytes) 1048576 && list_all (λ b. nat_lt b 256) bytes

abbrev pub is_storable : Tree → Bool
is_storable (Tree.str bytes) = is_content bytes
is_storable (Tree.names names) = pointwise (pointwise nat_eq) (set_of names) names
is_storable _ = true

abbrev pub stored_node : SpecTree → Tree → Answered Node
stored_node form v = cond (is_storable v) (form_node form v) (Err Refusal.WrongForm)

-- the last link is followed for a file or directory
abbrev pub follows_last : Node → Bool
follows_last (Link text) = false
follows_last _ = true

-- whether a value is a file's flag
abbrev pub is_flag : Tree → Bool
is_flag (Tree.bool exec) = true
is_flag _ = false

-- `store`: the value becomes the content of the node where the place's path lands
abbrev pub store_at : Tree → PlaceTree → Ask (Answered (List Change))
store_at v at = unrefused (λ node. resolve at.path (follows_last node) >>= store_landed (is_flag v) at.path node) (stored_node at.spec v)

-- the empty node of a description's bare form: that of an option's part, of a pair's first part, of a file or a directory
abbrev pub bare_node : SpecTree → Option Node
bare_node SpecTree.file = Some (File [] false)
bare_node SpecTree.dir = Some (Dir [])
bare_node (SpecTree.pair x a b) = bare_node a
bare_node (SpecTree.opt s) = bare_node s
bare_node _ = None

abbrev pub create_landed : List (List ℕ) → Node → Landing → Ask (Answered (List Change))
create_landed p node (At q) = Answer (Err Refusal.Exists)
create_landed p node (Absent here names) = unless_deep (is_too_deep here names node) (make here names node)
create_landed p node (Blocked q) = Answer (Err (Refusal.Blocked q))
create_landed p node TooManyLinks = Answer (Err (Refusal.Blocked p))

-- `create`: an empty file or directory, where nothing is yet
abbrev pub create_at : PlaceTree → Ask (Answered (List Change))
create_at at = unrefused (λ node. resolve at.path false >>= create_landed at.path node) (needed Refusal.NoDefault (bare_node at.spec))

-- the last name of a path
abbrev pub last_name : List (List ℕ) → List ℕ
last_name q = slice_index_or q (length q - 1) []

-- the entry and all below it go, and its name goes from the directory above; the root stays
abbrev pub remove_entry : List (List ℕ) → Ask (Answered (List Change))
remove_entry [] = Answer (Err (Refusal.Blocked []))
remove_entry (n ∷ names) =
    let q = n ∷ names in
    Look (parent q) λ above. clear q >>= λ below. Answer (Ok (set_to (parent q) (Dir (without_name (last_name q) (names_of above))) ∷ below))

abbrev pub remove_landed : List (List ℕ) → Landing → Ask (Answered (List Change))
remove_landed p (At q) = remove_entry q
remove_landed p (Absent here names) = Answer (Err Refusal.Absent)
remove_landed p (Blocked q) = Answer (Err (Refusal.Blocked q))
remove_landed p TooManyLinks = Answer (Err (Refusal.Blocked p))

-- `remove`: the entry at the place's own path goes, the last link not followed
abbrev pub remove_at : PlaceTree → Ask (Answered (List Change))
remove_at at = resolve at.path false >>= remove_landed at.path
