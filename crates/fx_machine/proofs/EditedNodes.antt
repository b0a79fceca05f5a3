-- Nodes that an edit sets are within their limits where they are set.
use Rattle.std.proofs.Common.{◌≡◌, ℕ, suc, ◌+◌, ◌≤◌, ◌<◌, Bool, true, false, refl, subst, sym, ◌∙◌, List, [], ◌∷◌, ◌++◌, map, length, Option, Some, None, nat_lt, arith, append_assoc}
use Rattle.std.proofs.lemmas.Bool.{ltb-true, ltb-false}
use Rattle.std.proofs.lemmas.List.Elements.{All-nil, All-cons, All-append, All-head, All-tail}
use Rattle.std.proofs.lemmas.Map.Views.{All-from_any}
use Rattle.std.specs.Cmp.{eq_by_cmp_equiv}
use Rattle.std.specs.List.{All}
use Rattle.fx_store.specs.declared.node.Node.{Node}
use Rattle.fx_store.specs.declared.node.Node.TheVariants.{File, Dir, Link}
use Rattle.fx_store.specs.declared.changes.Change.{Change}
use Rattle.fx_store.specs.Names.{IsName, IsPath, IsNameSet}
use Rattle.fx_store.specs.Orders.{name_total}
use Rattle.fx_store.specs.Resolve.{◌/ₚ◌}
use Rattle.fx_store.specs.Whole.{IsNode}
use Rattle.fx_store.proofs.Relisted.{has-all}
use Rattle.fx_store.proofs.PathLists.{length_below, path_below}
use Rattle.fx_expr.specs.Sets.{set_of}
use Rattle.fx_spec.specs.Edit.{set_to, names_of, lacks_room, children, made}
use Rattle.fx_spec.proofs.EditsClear.{has-set_of}
use Rattle.fx_spec.proofs.EditsKeep.{empty_file, empty_dir}
use Rattle.fx_spec.proofs.EditsMake.{IsNameSet-with}
use Rattle.fx_spec.proofs.EditLaws.{NodeOk, has_room}
use Rattle.fx_machine.specs.Asks.{MayStand, MaySet}

-- -------------------------------------------------------------------------------------------------------------- changes

abbrev IsSet : Change → Type 0
IsSet c = IsPath c.path × MayStand c.path c.node

pub sets_none : MaySet []
sets_none = All-nil IsSet

pub sets_more : (c : Change) (cs : List Change) → IsPath c.path → MayStand c.path c.node → MaySet cs → MaySet (c ∷ cs)
sets_more c cs path may rest = All-cons IsSet c cs (path, may) rest

pub sets_both : (a b : List Change) → MaySet a → MaySet b → MaySet (a ++ b)
sets_both a b first rest = All-append IsSet a b first rest

-- --------------------------------------------------------------------------------------------------------- sets of names

pub no_names : IsNameSet []
no_names = (empty_dir []).limits.0

-- what a node within its limits lists
pub names_found : (q : List (List ℕ)) (found : Option Node) → MayStand q found → IsNameSet (names_of found)
names_found q None may = no_names
names_found q (Some (File bytes exec)) may = no_names
names_found q (Some (Dir names)) may = may.0
names_found q (Some (Link text)) may = no_names

-- the set of some names has names alone
pub set_of_names : (names : List (List ℕ)) → All IsName names → All IsName (set_of names)
set_of_names names are = All-from_any (eq_by_cmp_equiv name_total) IsName (set_of names) (λ n h. has-all IsName names n are (sym (has-set_of names n) ∙ h))

-- ---------------------------------------------------------------------------------------------------------------- nodes

-- a directory at a path of fewer than 64 names has room for any
pub dir_fits : (q names : List (List ℕ)) → IsNameSet names → length q < 64 → IsNode q (Dir names)
dir_fits q names set room = (set, λ full. absurd (omega (arith, room, full)))

-- a directory that lists a name is at a path of fewer than 64
pub has_room_below : (q : List (List ℕ)) (n : List ℕ) (names : List (List ℕ)) → IsPath q → IsNode q (Dir (n ∷ names)) → length q < 64
has_room_below q n names path fits = at (nat_lt (length q) 64) refl
  where
    lists_none : n ∷ names ≡ [] → ⊥
    lists_none e = cc

    at : (b : Bool) → nat_lt (length q) 64 ≡ b → length q < 64
    at true e = ltb-true (length q) 64 e
    at false e = absurd (lists_none (fits.1 (omega (arith, path.short, ltb-false (length q) 64 e))))

-- a node that does not lack room
pub roomy_fits : (q : List (List ℕ)) (node : Node) → NodeOk node → lacks_room q node ≡ false → IsNode q node
roomy_fits q (File bytes exec) ok e = ok
roomy_fits q (Dir names) ok e = (ok, λ full. has_room q names e full)
roomy_fits q (Link text) ok e = ok

-- ------------------------------------------------------------------------------------------------------ nodes that are made

-- empty files at names below a path that has room
files_may : (q names : List (List ℕ)) → IsPath q → All IsName names → length q < 64 → MaySet (map (λ n. set_to (q /ₚ n) (File [] false)) names)
files_may q [] path are room = sets_none
files_may q (n ∷ names) path are room =
    let below : IsPath (q /ₚ n) = path_below q n path (All-head IsName n names are) room in
    sets_more (set_to (q /ₚ n) (File [] false)) (map (λ n. set_to (q /ₚ n) (File [] false)) names) below (empty_file (q /ₚ n)).limits (files_may q names path (All-tail IsName n names are) room)

-- the empty files of a new directory
children_may : (q : List (List ℕ)) (node : Node) → IsPath q → IsNode q node → MaySet (children q node)
children_may q (File bytes exec) path fits = sets_none
children_may q (Dir []) path fits = sets_none
children_may q (Dir (n ∷ names)) path fits = files_may q (n ∷ names) path fits.0.names (has_room_below q n names path fits)
children_may q (Link text) path fits = sets_none

-- the missing directories on the way, and the node with the files that it lists
pub made_may : (names here : List (List ℕ)) (n : List ℕ) (node : Node) → IsPath here → IsName n → All IsName names → length here + suc (length names) ≤ 64 → IsNode (here ++ n ∷ names) node → MaySet (made here n names node)
made_may [] here n node path name are short fits =
    let below : IsPath (here /ₚ n) = path_below here n path name (omega (arith, short)) in
    sets_more (set_to (here /ₚ n) node) (children (here /ₚ n) node) below fits (children_may (here /ₚ n) node below fits)
made_may (m ∷ names) here n node path name are short fits =
    let below : IsPath (here /ₚ n) = path_below here n path name (omega (arith, short)) in
    let next : IsName m = All-head IsName m names are in
    let room : length (here /ₚ n) < 64 = omega (arith, short, length_below here n) in
    let rest : IsNode ((here /ₚ n) ++ m ∷ names) node = subst (λ q. IsNode q node) (sym (append_assoc here (n ∷ []) (m ∷ names))) fits in
    sets_more (set_to (here /ₚ n) (Dir (m ∷ []))) (made (here /ₚ n) m names node) below (dir_fits (here /ₚ n) (m ∷ []) (IsNameSet-with m [] no_names next) room) (
    made_may names (here /ₚ n) m node below next (All-tail IsName m names are) (omega (arith, short, length_below here n)) rest)
