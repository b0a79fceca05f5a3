-- An edit asks paths alone, and sets what may stand there.
use Rattle.std.proofs.Common.{◌≡◌, ℕ, zero, suc, ◌+◌, ◌-◌, ◌≤◌, ◌<◌, Bool, true, false, cond, refl, ap, sym, ◌∙◌, List, [], ◌∷◌, ◌++◌, length, Option, Some, None, Ok, Err, nat_lt, arith}
use Rattle.std.proofs.lemmas.Bool.{ltb-true, ltb-false}
use Rattle.std.proofs.lemmas.List.Elements.{All-head, All-tail, All-push, All-append, All-map, All-weaker}
use Rattle.std.specs.List.{All}
use Rattle.fx_store.specs.declared.node.Node.{Node}
use Rattle.fx_store.specs.declared.node.Node.TheVariants.{File, Dir, Link}
use Rattle.fx_store.specs.declared.node.Landing.{Landing}
use Rattle.fx_store.specs.declared.node.Landing.TheVariants.{At, Absent, Blocked, TooManyLinks}
use Rattle.fx_store.specs.declared.changes.Change.{Change}
use Rattle.fx_store.specs.Changes.{changed_paths}
use Rattle.fx_store.specs.Names.{IsName, IsPath, has}
use Rattle.fx_store.specs.Resolve.{resolve, ◌/ₚ◌, parent}
use Rattle.fx_store.specs.Rule.{Ask, Answer, Look, look_all, ◌>>=◌}
use Rattle.fx_store.specs.Whole.{IsNode}
use Rattle.fx_store.proofs.PathLists.{length_below, path_below}
use Rattle.fx_store.proofs.Placing.{IsNameSet-without}
use Rattle.fx_expr.specs.Sets.{set_of, with_text}
use Rattle.fx_expr.specs.Tree.{Tree}
use Rattle.fx_spec.specs.declared.refusal.Refusal.{Refusal}
use Rattle.fx_spec.specs.Edit.{renewed, is_flag, set_to, removed, names_of, cleared, clear_levels, clear, entry, entries, new_names, lacks_room, unless_deep, replaced, made, make, is_too_deep, store_landed, stored_node, follows_last, store_at, bare_node, create_landed, create_at, last_name, remove_entry, remove_landed, remove_at}
use Rattle.fx_spec.specs.Move.{Answered, unrefused, needed}
use Rattle.fx_spec.specs.Place.{PlaceTree}
use Rattle.fx_spec.proofs.EditsKeep.{empty_file, ends_in}
use Rattle.fx_spec.proofs.EditsMake.{IsNameSet-with}
use Rattle.fx_spec.proofs.EditLaws.{NodeOk, has_room, stored_node_ok, renewed_node, not_too_deep, bare_node_ok}
use Rattle.fx_machine.specs.Asks.{MayStand, AsksPaths, MaySet}
use Rattle.fx_machine.proofs.Asking.{asks_then, IsLanding}
use Rattle.fx_machine.proofs.Resolving.{IsPath-parent, resolve_asks}
use Rattle.fx_machine.proofs.EditedNodes.{sets_none, sets_more, sets_both, names_found, set_of_names, dir_fits, roomy_fits, made_may}
use Rattle.fx_base.specs.Sets.{without_name}

-- the changes of an edit that is not refused
abbrev pub edit_sets : Answered (List Change) → Type 0
edit_sets (Ok changes) = MaySet changes
edit_sets (Err refusal) = Unit {0}

-- ------------------------------------------------------------------------------------------------------------- removals

clears_all : (clear : List (List ℕ) → Ask (List Change)) (q names : List (List ℕ)) → ((n : List ℕ) → IsName n → AsksPaths MaySet (clear (q /ₚ n))) → All IsName names → AsksPaths MaySet (entries (λ n. clear (q /ₚ n)) names)
clears_all clear q [] each are = sets_none
clears_all clear q (n ∷ names) each are =
    asks_then MaySet MaySet (clear (q /ₚ n)) (λ first. entries (λ n. clear (q /ₚ n)) names >>= λ rest. Answer (first ++ rest)) (each n (All-head IsName n names are)) (λ first may.
    asks_then MaySet MaySet (entries (λ n. clear (q /ₚ n)) names) (λ rest. Answer (first ++ rest)) (clears_all clear q names each (All-tail IsName n names are)) (λ rest more. sets_both first rest may more))

cleared_asks : (clear : List (List ℕ) → Ask (List Change)) (q : List (List ℕ)) (found : Option Node) → IsPath q → MayStand q found → ((n : List ℕ) → IsName n → AsksPaths MaySet (clear (q /ₚ n))) → AsksPaths MaySet (cleared q clear found)
cleared_asks clear q None path may each = sets_none
cleared_asks clear q (Some node) path may each =
    asks_then MaySet MaySet (entries (λ n. clear (q /ₚ n)) (names_of (Some node))) (λ below. Answer (removed q ∷ below)) (clears_all clear q (names_of (Some node)) each (names_found q (Some node) may).names) (λ below more. sets_more (removed q) below path tt more)

-- so many levels from a path on have paths of at most 64 names
clears : (levels : ℕ) (q : List (List ℕ)) → All IsName q → length q + levels ≤ 65 → AsksPaths MaySet (clear_levels levels q)
clears zero q names short = sets_none
clears (suc levels) q names short =
    let path : IsPath q = record { names = names; short = omega (arith, short) } in
    (path, λ found may. cleared_asks (λ p. clear_levels levels p) q found path may (λ n name. clears levels (q /ₚ n) (All-push IsName q n names name) (omega (arith, short, length_below q n))))

clear_asks : (q : List (List ℕ)) → IsPath q → AsksPaths MaySet (clear q)
unfolding clear
clear_asks q path = clears (65 - length q) q path.names (omega (arith, path.short))

-- ---------------------------------------------------------------------------------------------- a directory's new names

entry_asks : (q old new : List (List ℕ)) (n : List ℕ) → IsPath (q /ₚ n) → AsksPaths MaySet (entry q old new n)
entry_asks q old new n path = by (has new n) (has old n)
  where
    by : (a b : Bool) → AsksPaths MaySet (cond a (cond b (Answer []) (Look (q /ₚ n) (λ node. Answer (set_to (q /ₚ n) (File [] false) ∷ [])))) (clear (q /ₚ n)))
    by true true = sets_none
    by true false = (path, λ node may. sets_more (set_to (q /ₚ n) (File [] false)) [] path (empty_file (q /ₚ n)).limits sets_none)
    by false b = clear_asks (q /ₚ n) path

entries_ask : (change : List ℕ → Ask (List Change)) (names : List (List ℕ)) → ((n : List ℕ) → IsName n → AsksPaths MaySet (change n)) → All IsName names → AsksPaths MaySet (entries change names)
entries_ask change [] each are = sets_none
entries_ask change (n ∷ names) each are =
    asks_then MaySet MaySet (change n) (λ first. entries change names >>= λ rest. Answer (first ++ rest)) (each n (All-head IsName n names are)) (λ first may.
    asks_then MaySet MaySet (entries change names) (λ rest. Answer (first ++ rest)) (entries_ask change names each (All-tail IsName n names are)) (λ rest more. sets_both first rest may more))

-- at a path of 64 names there are none, old or new
all_entries_ask : (q old new : List (List ℕ)) → IsPath q → IsNode q (Dir old) → IsNode q (Dir new) → AsksPaths MaySet (entries (entry q old new) (set_of (old ++ new)))
all_entries_ask q old new path before after = at (nat_lt (length q) 64) refl
  where
    none : (old new : List (List ℕ)) → old ≡ [] → new ≡ [] → AsksPaths MaySet (entries (entry q old new) (set_of (old ++ new)))
    none old new e f = rw (e, f) sets_none

    at : (b : Bool) → nat_lt (length q) 64 ≡ b → AsksPaths MaySet (entries (entry q old new) (set_of (old ++ new)))
    at true e =
        entries_ask (entry q old new) (set_of (old ++ new)) (λ n name. entry_asks q old new n (path_below q n path name (ltb-true (length q) 64 e))) (set_of_names (old ++ new) (All-append IsName old new before.0.names after.0.names))
    at false e =
        let full : length q ≡ 64 = omega (arith, path.short, ltb-false (length q) 64 e) in
        none old new (before.1 full) (after.1 full)

new_names_ask : (q old new : List (List ℕ)) → IsPath q → IsNode q (Dir old) → IsNode q (Dir new) → AsksPaths edit_sets (new_names q old new)
new_names_ask q old new path before after =
    asks_then MaySet edit_sets (entries (entry q old new) (set_of (old ++ new))) (λ below. Answer (Ok (set_to q (Dir new) ∷ below))) (all_entries_ask q old new path before after) (λ below more. sets_more (set_to q (Dir new)) below path after more)

unless_deep_asks : (b : Bool) (rule : Ask (Answered (List Change))) → (b ≡ false → AsksPaths edit_sets rule) → AsksPaths edit_sets (unless_deep b rule)
unless_deep_asks true rule given = tt
unless_deep_asks false rule given = given refl

-- --------------------------------------------------------------------------------------------------------------- stores

replaced_asks : (flag : Bool) (q : List (List ℕ)) (node : Node) (found : Option Node) → IsPath q → NodeOk node → MayStand q found → AsksPaths edit_sets (replaced flag q node found)
replaced_asks flag q (File bytes exec) (Some (File old was)) path ok may = sets_more (set_to q (renewed flag (File bytes exec) (File old was))) [] path (renewed_node flag q bytes old exec was ok may) sets_none
replaced_asks flag q (Link text) (Some (Link old)) path ok may = sets_more (set_to q (Link text)) [] path ok sets_none
replaced_asks flag q (Dir names) (Some (Dir old)) path ok may =
    unless_deep_asks (lacks_room q (Dir names)) (new_names q old names) (λ room. new_names_ask q old names path may (ok, λ full. has_room q names room full))
replaced_asks flag q node found path ok may = tt

look_all_asks : {A : Type 0} (P : A → Type 0) (ps : List (List (List ℕ))) (rule : Ask A) → All IsPath ps → AsksPaths P rule → AsksPaths P (look_all ps rule)
look_all_asks P [] rule paths is = is
look_all_asks P (p ∷ ps) rule paths is = (All-head IsPath p ps paths, λ found may. look_all_asks P ps rule (All-tail IsPath p ps paths) is)

set_paths : (cs : List Change) → MaySet cs → All IsPath (changed_paths cs)
set_paths cs may = All-map IsPath (λ (c : Change). c.path) cs (All-weaker (λ (c : Change). IsPath c.path × MayStand c.path c.node) (λ (c : Change). IsPath c.path) (λ c h. h.0) cs may)

make_asks : (here names : List (List ℕ)) (node : Node) → IsPath here → All IsName names → length here + length names ≤ 64 → IsNode (here ++ names) node → AsksPaths edit_sets (make here names node)
make_asks here [] node path are short fits = tt
make_asks here (n ∷ names) node path are short fits =
    let name : IsName n = All-head IsName n names are in
    let may_change : MaySet (made here n names node) = made_may names here n node path name (All-tail IsName n names are) (omega (arith, short)) fits in (
      path,
      λ found may.
          look_all_asks edit_sets (changed_paths (made here n names node)) (Answer (Ok (set_to here (Dir (with_text n (names_of found))) ∷ made here n names node))) (set_paths (made here n names node) may_change) (
          sets_more (set_to here (Dir (with_text n (names_of found)))) (made here n names node) path (dir_fits here (with_text n (names_of found)) (IsNameSet-with n (names_of found) (names_found here found may) name) (omega (arith, short))) may_change),
    )

-- the node made at an absent landing
absent_asks : (here names : List (List ℕ)) (node : Node) → NodeOk node → IsLanding (Absent here names) → AsksPaths edit_sets (unless_deep (is_too_deep here names node) (make here names node))
absent_asks here names node ok is =
    unless_deep_asks (is_too_deep here names node) (make here names node) (λ e.
    let room : (length here + length names ≤ 64) × (lacks_room (here ++ names) node ≡ false) = not_too_deep here names node e in
    make_asks here names node is.0 is.1 room.0 (roomy_fits (here ++ names) node ok room.1))

store_landed_asks : (flag : Bool) (p : List (List ℕ)) (node : Node) (landing : Landing) → NodeOk node → IsLanding landing → AsksPaths edit_sets (store_landed flag p node landing)
store_landed_asks flag p node (At q) ok is = (is, λ found may. replaced_asks flag q node found is ok may)
store_landed_asks flag p node (Absent here names) ok is = absent_asks here names node ok is
store_landed_asks flag p node (Blocked q) ok is = tt
store_landed_asks flag p node TooManyLinks ok is = tt

create_landed_asks : (p : List (List ℕ)) (node : Node) (landing : Landing) → NodeOk node → IsLanding landing → AsksPaths edit_sets (create_landed p node landing)
create_landed_asks p node (At q) ok is = tt
create_landed_asks p node (Absent here names) ok is = absent_asks here names node ok is
create_landed_asks p node (Blocked q) ok is = tt
create_landed_asks p node TooManyLinks ok is = tt

-- ----------------------------------------------------------------------------------------------------- a removed entry

remove_entry_asks : (q : List (List ℕ)) → IsPath q → AsksPaths edit_sets (remove_entry q)
remove_entry_asks [] path = tt
remove_entry_asks (n ∷ names) path =
    let one_less : suc (length (parent (n ∷ names))) ≡ length (n ∷ names) = sym (length_below (parent (n ∷ names)) (last_name (n ∷ names))) ∙ sym (ap length (ends_in (n ∷ names) (omega arith))) in
    let short : length (parent (n ∷ names)) < 64 = omega (arith, path.short, one_less) in
    let above_path : IsPath (parent (n ∷ names)) = IsPath-parent (n ∷ names) path in (
      above_path,
      λ above may.
          asks_then MaySet edit_sets (clear (n ∷ names)) (λ below. Answer (Ok (set_to (parent (n ∷ names)) (Dir (without_name (last_name (n ∷ names)) (names_of above))) ∷ below))) (clear_asks (n ∷ names) path) (λ below more.
          sets_more (set_to (parent (n ∷ names)) (Dir (without_name (last_name (n ∷ names)) (names_of above)))) below above_path (dir_fits (parent (n ∷ names)) (without_name (last_name (n ∷ names)) (names_of above)) (IsNameSet-without (last_name (n ∷ names)) (names_of above) (names_found (parent (n ∷ names)) above may)) short) more),
    )

remove_landed_asks : (p : List (List ℕ)) (landing : Landing) → IsLanding landing → AsksPaths edit_sets (remove_landed p landing)
remove_landed_asks p (At q) is = remove_entry_asks q is
remove_landed_asks p (Absent here names) is = tt
remove_landed_asks p (Blocked q) is = tt
remove_landed_asks p TooManyLinks is = tt

-- -------------------------------------------------------------------------------------------------------------- the edits

unrefused_asks : {A : Type 0} (next : A → Ask (Answered (List Change))) (found : Answered A) → ((a : A) → found ≡ Ok a → AsksPaths edit_sets (next a)) → AsksPaths edit_sets (unrefused next found)
unrefused_asks next (Ok a) each = each a refl
unrefused_asks next (Err refusal) each = tt

-- each edit at a path asks paths alone, and sets what may stand there
pub store_asks : (v : Tree) (at : PlaceTree) → IsPath at.path → AsksPaths edit_sets (store_at v at)
store_asks v at path =
    unrefused_asks (λ node. resolve at.path (follows_last node) >>= store_landed (is_flag v) at.path node) (stored_node at.spec v) (λ node e.
    asks_then IsLanding edit_sets (resolve at.path (follows_last node)) (store_landed (is_flag v) at.path node) (resolve_asks at.path (follows_last node) path) (λ landing is. store_landed_asks (is_flag v) at.path node landing (stored_node_ok at.spec v node e) is))

pub create_asks : (at : PlaceTree) → IsPath at.path → AsksPaths edit_sets (create_at at)
create_asks at path =
    unrefused_asks (λ node. resolve at.path false >>= create_landed at.path node) (needed Refusal.NoDefault (bare_node at.spec)) (λ node e.
    asks_then IsLanding edit_sets (resolve at.path false) (create_landed at.path node) (resolve_asks at.path false path) (λ landing is. create_landed_asks at.path node landing (bare_node_ok at.spec node e) is))

pub remove_asks : (at : PlaceTree) → IsPath at.path → AsksPaths edit_sets (remove_at at)
remove_asks at path = asks_then IsLanding edit_sets (resolve at.path false) (remove_landed at.path) (resolve_asks at.path false path) (λ landing is. remove_landed_asks at.path landing is)
