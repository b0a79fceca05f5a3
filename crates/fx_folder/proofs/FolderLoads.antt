-- A folder loads as a filestore exactly if it is the folder of that filestore.
use Rattle.fx_folder.proofs.Prelude.{HasFolderOf, Held, all_below, all_bytes, as_nodes, deep_loads, first_refused, folder_entry, is_table_place, linked, table_entry, table_in, table_lines, unless_refused, unlisted, walked, with_table, IsWithinLimits, Loads, MAX_BYTES, MAX_NODES, parts_same, parts_total, Parts, is_fit, parts, parts_cmp, Entry, Tree, file, folder, is_folder_at, is_folder_kind, rest_append, path_eq_same, Nodes, Store, found, rest_of, table_name, lines_of, Bool, List, None, Ok, Option, Some, [], ap, arith, cond, false, inl, inr, length, not, refl, subst, sym, true, ℕ, ◌++◌, ◌+◌, ◌-◌, ◌∙◌, ◌∷◌, ◌≡◌, ◌≤◌, cases_Bool, false≢true, nat_tests, bytes_eq-Decides, tied_itself, find, get, same_entries, option_map_or, eq_by_cmp, is_eq, bytes_eq, nat_lt}
use Rattle.std.specs.FinMap.{remove, get-remove}
use Rattle.fx_outside.specs.Tree as host
use Rattle.fx_store.specs.Whole.{IsWhole}
use Rattle.fx_folder.specs.HasFolder.{StandsFor, HasFolder}
use Rattle.fx_folder.proofs.Branches.{find_below}
use Rattle.fx_folder.proofs.Counted.{none_behind}
use Rattle.fx_folder.proofs.Loaded.{have_room, was_loaded}
use Rattle.fx_folder.proofs.RoundTrip.{no_place, folders_are_loaded}
use Rattle.fx_folder.proofs.Standing.{bare, of_folder, stays}
use Rattle.fx_folder.proofs.Walked.{below_sorted, below_root, find_walked_below}
use Rattle.fx_folder.proofs.Within.{within_limits}

abbrev Paths : Type 0
Paths = List (List ℕ)

-- ---- a folder stands at the path

fit_some : (b : Bool) (o : Option Entry) → option_map_or (λ e. is_folder_kind e.kind) (cond b o None) false ≡ true → (e : Entry) × (o ≡ Some e) × (is_folder_kind e.kind ≡ true)
fit_some true None h = absurd (false≢true h)
fit_some true (Some e) h = (e, refl, h)
fit_some false o h = absurd (false≢true h)

pub folder_there : (tree : Tree) → host.IsWhole tree → (path : List ℕ) → is_folder_at tree path ≡ true → get tree (parts path) ≡ Some folder
folder_there tree whole path is =
    let here = fit_some (is_fit path) (get tree (parts path)) is in
    here.1 ∙ ap Some (of_folder here.0.kind here.0.bytes here.2 (bare tree whole (parts path) here.0 here.1))

-- ---- a table without bytes is as none

-- a tree without what stands at the table's place in a folder
abbrev untabled : Tree → Parts → Tree
untabled tree P = remove tree (P ++ table_name ∷ [])

untabled_at : (tree : Tree) (P q : Parts) → get (untabled tree P) q ≡ cond (eq_by_cmp parts_cmp q (P ++ table_name ∷ [])) None (get tree q)
untabled_at tree P q = get-remove parts_total tree (P ++ table_name ∷ []) q

untabled_there : (tree : Tree) (P : Parts) → get (untabled tree P) (P ++ table_name ∷ []) ≡ None
untabled_there tree P = untabled_at tree P (P ++ table_name ∷ []) ∙ ap (λ b. cond b None (get tree (P ++ table_name ∷ []))) (ap is_eq (tied_itself parts_total (P ++ table_name ∷ [])))

-- another place of the folder is not the table's
other_place : (P names : Parts) → is_table_place names ≡ false → eq_by_cmp parts_cmp (P ++ names) (P ++ table_name ∷ []) ≡ false
other_place P names other = elim (cases_Bool (eq_by_cmp parts_cmp (P ++ names) (P ++ table_name ∷ []))) [
  | inl same ↦
      let both : Some names ≡ Some (table_name ∷ []) = sym (rest_append P names) ∙ ap (rest_of P) (path_eq_same (P ++ names) (P ++ table_name ∷ []) same) ∙ rest_append P (table_name ∷ []) in
      let it : names ≡ table_name ∷ [] = cc in
      absurd (false≢true (sym other ∙ ap is_table_place it))
  | inr apart ↦ apart
]

same_walked : (tree : Tree) (P : Parts) → walked (all_below (untabled tree P) P) ≡ walked (all_below tree P)
same_walked tree P = same_entries parts_cmp parts_total parts_same _ _ (below_sorted (untabled tree P) P) (below_sorted tree P) each
  where
    each : (q : Paths) → find parts_cmp q (walked (all_below (untabled tree P) P)) ≡ find parts_cmp q (walked (all_below tree P))
    each [] = none_behind [] (walked (all_below (untabled tree P) P)) (below_root (untabled tree P) P) ∙ sym (none_behind [] (walked (all_below tree P)) (below_root tree P))
    each (n ∷ r) = find_walked_below (untabled tree P) P n r ∙ elim (cases_Bool (bytes_eq n table_name)) [
      | inl same ↦
          ap (λ b. cond (not b) (get (untabled tree P) (P ++ n ∷ r)) None) same ∙ sym (ap (λ b. cond (not b) (get tree (P ++ n ∷ r)) None) same) ∙ sym (find_walked_below tree P n r)
      | inr other ↦
          ap (λ o. cond (not (bytes_eq n table_name)) o None) (untabled_at tree P (P ++ n ∷ r) ∙ ap (λ b. cond b None (get tree (P ++ n ∷ r))) (other_place P (n ∷ r) (no_place n r other)))
          ∙ sym (find_walked_below tree P n r)
    ]

few_enough : (nodes left : ℕ) (S : Store) → nodes ≤ MAX_NODES → table_lines nodes left S (Some (file [])) ≡ Ok []
few_enough nodes left S few =
    let none : nat_lt MAX_NODES (nodes + 0) ≡ false = grind (arith, nat_tests) in
    let bytes : nat_lt left 0 ≡ false = grind (arith, nat_tests) in
    rw (none, bytes) refl

no_table : (hs : List Held) (nodes : Nodes) → as_nodes (unless_refused (first_refused 1 MAX_BYTES hs) (with_table hs None)) ≡ Ok nodes → as_nodes (unless_refused (first_refused 1 MAX_BYTES hs) (with_table hs (Some (file [])))) ≡ Ok nodes
no_table hs nodes is =
    let made = was_loaded hs None nodes is in
    let room = (have_room 1 MAX_BYTES hs (omega arith) made.none).few in
    ap (λ r. as_nodes (unless_refused (first_refused 1 MAX_BYTES hs) (linked (unlisted hs) r))) (few_enough (length hs + 1) (MAX_BYTES - all_bytes hs) (found (unlisted hs)) (omega arith)) ∙ is

empty_loads : (tree : Tree) (P : Parts) (nodes : Nodes) → get tree (P ++ table_name ∷ []) ≡ Some (file []) → deep_loads (untabled tree P) P ≡ Ok nodes → deep_loads tree P ≡ Ok nodes
empty_loads tree P nodes empty loads =
    let hs = walked (all_below tree P) in
    let none : table_in (all_below (untabled tree P) P) ≡ None = find_below (untabled tree P) P table_name [] ∙ untabled_there tree P in
    let table : table_in (all_below tree P) ≡ Some (file []) = find_below tree P table_name [] ∙ empty in
    let without : as_nodes (unless_refused (first_refused 1 MAX_BYTES hs) (with_table hs None)) ≡ Ok nodes =
    ap (λ l. as_nodes (unless_refused (first_refused 1 MAX_BYTES l) (with_table l None))) (sym (same_walked tree P))
    ∙ ap (λ o. as_nodes (unless_refused (first_refused 1 MAX_BYTES (walked (all_below (untabled tree P) P))) (with_table (walked (all_below (untabled tree P) P)) o))) (sym none)
    ∙ loads in
    ap (λ o. as_nodes (unless_refused (first_refused 1 MAX_BYTES hs) (with_table hs o))) table ∙ no_table hs nodes without

-- ---- the two are the same

module _ (tree : Tree) (P : Parts) (nodes : Nodes) (stands : (names : Parts) → StandsFor nodes names (get tree (P ++ names))) where
  -- at another place than the table's
  elsewhere : (names : Parts) → is_table_place names ≡ false → get tree (P ++ names) ≡ folder_entry nodes names
  elsewhere names other = elim (stands names) [
    | inl same ↦ same
    | inr empty ↦ absurd (false≢true (sym other ∙ ap is_table_place empty.0.place))
  ]

  at_table : (names : Parts) → is_table_place names ≡ true → names ≡ table_name ∷ []
  at_table [] is = absurd (false≢true is)
  at_table (n ∷ []) is = ap (λ m. m ∷ []) ((bytes_eq-Decides n table_name).0 is)
  at_table (n ∷ a ∷ r) is = absurd (false≢true is)

  folder_of : get tree (P ++ table_name ∷ []) ≡ folder_entry nodes (table_name ∷ []) → HasFolderOf tree P nodes
  folder_of table names = elim (cases_Bool (is_table_place names)) [
    | inl same ↦ subst (λ q. get tree (P ++ q) ≡ folder_entry nodes q) (sym (at_table names same)) table
    | inr other ↦ elsewhere names other
  ]

  untabled_of : lines_of nodes ≡ [] → HasFolderOf (untabled tree P) P nodes
  untabled_of none names = elim (cases_Bool (is_table_place names)) [
    | inl same ↦ subst (λ q. get (untabled tree P) (P ++ q) ≡ folder_entry nodes q) (sym (at_table names same)) (untabled_there tree P ∙ sym (ap table_entry none))
    | inr other ↦ untabled_at tree P (P ++ names) ∙ ap (λ b. cond b None (get tree (P ++ names))) (other_place P names other) ∙ elsewhere names other
  ]

  pub loads_as : IsWhole (get nodes) → IsWithinLimits nodes → deep_loads tree P ≡ Ok nodes
  loads_as whole limits = elim (stands (table_name ∷ [])) [
    | inl same ↦ folders_are_loaded tree P nodes whole limits (folder_of same)
    | inr empty ↦ empty_loads tree P nodes empty.0.empty (folders_are_loaded (untabled tree P) P nodes whole limits (untabled_of empty.1))
  ]

-- what stands in the folder of a filestore is loaded as this filestore
pub folder_loads : (tree : Tree) (path : List ℕ) (nodes : Nodes) → HasFolder tree path nodes → Loads tree path nodes
folder_loads tree path nodes has = (has.there, loads_as tree (parts path) nodes has.stands has.whole has.limits)

-- and a whole filestore that is loaded is such a one
pub loads_folder : (tree : Tree) → host.IsWhole tree → (path : List ℕ) (nodes : Nodes) → IsWhole (get nodes) → Loads tree path nodes → HasFolder tree path nodes
loads_folder tree whole path nodes store loads =
    let there = folder_there tree whole path loads.0 in
    record { there = loads.0; whole = store; limits = within_limits tree whole (parts path) nodes there loads.1 store; stands = stays tree whole (parts path) nodes there loads.1 }

-- two filestores whose folder stands there are one
pub one_folder : (tree : Tree) (path : List ℕ) (a b : Nodes) → HasFolder tree path a → HasFolder tree path b → a ≡ b
one_folder tree path a b first then =
    let both : Ok a ≡ Ok b = sym (folder_loads tree path a first).1 ∙ (folder_loads tree path b then).1 in
    cc
