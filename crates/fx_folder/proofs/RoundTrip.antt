-- The folder of a whole filestore is loaded as this filestore.
use Rattle.fx_folder.proofs.Prelude.{none_if_never, HasFolderOf, Held, all_below, all_bytes, as_nodes, deep_loads, first_refused, is_table_place, lacking, last_name, lines_or_cause, linked, refused_entry, refused_kind, table_entry, table_in, table_lines, unless_refused, unlisted, walked, with_table, FoldersAreLoaded, IsWithinLimits, host_entry, sorted_test, strictly_sorted, parts_cmp, Entry, Tree, file, folder, HostKind, IsName, has, is_name, path_cmp, path_same, path_total, parent, IsNode, Nodes, Store, lists, Node, Dir, File, Link, sorted_flags, find_listed, found, has_below, names_ascend, relisted, AreFound, all_found, lines_are_tables, body_read, lacks_none, Mapped, listed, names_below, with_flags, with_lines, with_links, place_of, table_name, IsTable, TableLink, can_mark, is_dir, is_file, lines_of, links_among, over, read_body, table_text, but_no_link, unlinked, FolderCause, BadTable, TooLarge, Mark, Executable, Target, TableLine, Bool, Err, IfSome, List, None, Ok, Option, Some, T, [], ap, arith, cond, false, inl, inr, is_none, is_some, length, map, not, option_map, refl, subst, sym, true, ℕ, ◌&&◌, ◌++◌, ◌+◌, ◌-◌, ◌<◌, ◌||◌, ◌∙◌, ◌∷◌, ◌≡◌, ◌≤◌, cases_Bool, false≢true, nat_tests, All-head, bytes_eq-Decides, entries, entries_sorted, find, from_entries, get, get-entries, get-from_entries, is_sorted, len-entries, put, same_map, is_sorted-put, same_entries, AllByRecursion, slice_index_or, IsStrictlySortedBy, keys_of, option_or, eq_by_cmp, bytes_eq, nat_le, nat_lt, MAX_BYTES, MAX_NODES, MAX_TABLE, MAX_FILE_BYTES, link_bytes}
use Rattle.std.proofs.lemmas.Bool.{or_from}
use Rattle.fx_outside.specs.declared.kind.HostKind.TheVariants as kind
use Rattle.fx_store.specs.Names.{name_cmp}
use Rattle.fx_store.specs.Orders.{name_total, name_same}
use Rattle.fx_store.specs.Whole.{IsWhole}
use Rattle.fx_folder.proofs.Walked.{below_sorted, below_root, find_walked_below}
use Rattle.fx_folder.proofs.Loaded.{IsAccepted, node_of, find_unlisted, unlisted_sorted}
use Rattle.fx_folder.proofs.Counted.{HasRoot, has_root, held_of, more_bytes, counted, summed}
use Rattle.fx_folder.proofs.Items.{reserved}
use Rattle.fx_folder.proofs.Entries.{same_held}
use Rattle.fx_folder.proofs.Branches.{find_below}
use Rattle.fx_folder.proofs.Marking.{node_mark, set_by, find_marks, unlisted_plain, set_at}

abbrev Paths : Type 0
Paths = List (List ℕ)

-- ---- entries that pass are not refused

not_refused : (named short room large over : Bool) (k : Option FolderCause) (c d e : FolderCause) → named ≡ true → short ≡ true → room ≡ true → k ≡ None → large ≡ false → over ≡ false → cond named (cond (short && room) (option_or k (cond (large || over) (Some c) None)) (Some d)) (Some e) ≡ None
not_refused named short room large over k c d e p1 p2 p3 p4 p5 p6 = rw (p1, p2, p3, p4, p5, p6) refl

passes : (nodes left : ℕ) (names : Paths) (e : Entry) → IsAccepted names e → nodes < MAX_NODES → length e.bytes ≤ left → refused_entry nodes left (names, e) ≡ None
passes nodes left names e ok room fits =
    let few = ok.short in
    let small = ok.small in
    let named : is_name (last_name names) ≡ true = ok.named in
    let p2 : nat_le (length names) 64 ≡ true = grind (arith, nat_tests) in
    let p3 : nat_lt nodes MAX_NODES ≡ true = grind (arith, nat_tests) in
    let p5 : nat_lt MAX_FILE_BYTES (length e.bytes) ≡ false = grind (arith, nat_tests) in
    let p6 : nat_lt left (length e.bytes) ≡ false = grind (arith, nat_tests) in
    not_refused _ _ _ _ _ (refused_kind names e.kind) _ _ _ named p2 p3 (of_kind e.kind refl) p5 p6
  where
    of_kind : (k : HostKind) → e.kind ≡ k → refused_kind names k ≡ None
    of_kind kind.File is = refl
    of_kind kind.Folder is = refl
    of_kind kind.Other is = absurd (ok.known is)

abbrev AreAccepted : List Held → Type 0
AreAccepted hs = AllByRecursion (λ (h : Held). IsAccepted h.0 h.1) hs

all_pass : (nodes left : ℕ) (hs : List Held) → AreAccepted hs → nodes + length hs ≤ MAX_NODES → all_bytes hs ≤ left → first_refused nodes left hs ≡ None
all_pass nodes left [] ok few fits = refl
all_pass nodes left ((names, e) ∷ hs) ok few fits =
    let all = more_bytes (names, e) hs in
    ap (λ o. option_or o (first_refused (nodes + 1) (left - length e.bytes) hs)) (passes nodes left names e ok.0 (omega arith) (omega arith))
    ∙ all_pass (nodes + 1) (left - length e.bytes) hs ok.1 (omega arith) (omega arith)

-- ---- names in order are told apart by which there are

abbrev units : List (List ℕ) → List (List ℕ × ℕ)
units names = map (λ (n : List ℕ). (n, 0)) names

keys_units : (names : List (List ℕ)) → keys_of (units names) ≡ names
keys_units [] = refl
keys_units (n ∷ names) = ap (λ l. n ∷ l) (keys_units names)

or_zero : (a b : Bool) (o : Option ℕ) → o ≡ cond b (Some 0) None → cond a (Some 0) o ≡ cond (a || b) (Some 0) None
or_zero true b o e = refl
or_zero false b o e = e

find_units : (names : List (List ℕ)) (n : List ℕ) → find name_cmp n (units names) ≡ cond (has names n) (Some 0) None
find_units [] n = refl
find_units (m ∷ names) n = or_zero (eq_by_cmp name_cmp n m) (has names n) _ (find_units names n)

pub same_names : (ms ns : List (List ℕ)) → IsStrictlySortedBy name_cmp ms → IsStrictlySortedBy name_cmp ns → ((n : List ℕ) → has ms n ≡ has ns n) → ms ≡ ns
same_names ms ns up up' same =
    let sorted : (l : List (List ℕ)) → IsStrictlySortedBy name_cmp l → T (is_sorted name_cmp (units l)) = λ l h. sorted_test name_cmp (units l) (subst (IsStrictlySortedBy name_cmp) (sym (keys_units l)) h) in
    sym (keys_units ms)
    ∙ ap keys_of (same_entries name_cmp name_total name_same (units ms) (units ns) (sorted ms up) (sorted ns up') (λ n. find_units ms n ∙ (ap (λ b. cond b (Some 0) None) (same n) ∙ sym (find_units ns n))))
    ∙ keys_units ns

-- ---- a table is read

reads : (nodes left : ℕ) (S : Store) (lines : List TableLine) → IsTable S lines → length (table_text lines) ≤ MAX_TABLE → nodes + length (links_among lines) ≤ MAX_NODES → link_bytes (links_among lines) ≤ left → table_lines nodes left S (table_entry lines) ≡ Ok lines
reads nodes left S [] table small few fits = refl
reads nodes left S (l ∷ ls) table small few fits =
    let lines = l ∷ ls in
    let links = links_among lines in
    let text = table_text lines in
    let fit : nat_lt MAX_TABLE (length text) ≡ false = grind (arith, nat_tests) in
    let room : nat_lt MAX_NODES (nodes + length links) ≡ false = grind (arith, nat_tests) in
    let bytes : nat_lt left (link_bytes links) ≡ false = grind (arith, nat_tests) in
    ap (λ b. cond b (Err (TooLarge (place_of (table_name ∷ [])))) (lines_or_cause nodes left S text (read_body S text))) fit
    ∙ ap (lines_or_cause nodes left S text) (body_read S lines table)
    ∙ ap (λ b. cond b (Err (TooLarge (place_of (table_name ∷ [])))) (unless_refused (lacking text lines) (Ok lines))) (or_from _ _ room bytes)
    ∙ ap (λ b. unless_refused (cond b (Some (BadTable 1)) None) (Ok lines)) (lacks_none lines)

-- ---- links are set in their places

with_sorted : (links : List TableLink) (ms : List Mapped) → T (is_sorted path_cmp ms) → T (is_sorted path_cmp (with_links ms links))
with_sorted [] ms up = up
with_sorted (link ∷ links) ms up = with_sorted links (put path_cmp link.path (Link link.text) ms) (is_sorted-put path_cmp path_total link.path (Link link.text) ms up)

-- ---- nodes whose names are not listed yet

erased : Node → Node
erased (File bytes exec) = File bytes exec
erased (Dir names) = Dir []
erased (Link text) = Link text

erased_dir : (o : Option Node) → is_dir (option_map erased o) ≡ is_dir o
unfolding erased
erased_dir None = refl
erased_dir (Some (File bytes exec)) = refl
erased_dir (Some (Dir names)) = refl
erased_dir (Some (Link text)) = refl

erased_none : (o : Option Node) → is_none (option_map erased o) ≡ is_none o
erased_none None = refl
erased_none (Some node) = refl

erased_some : (o : Option Node) → is_some (option_map erased o) ≡ is_some o
erased_some None = refl
erased_some (Some node) = refl

entry_erased : (o : Option Node) → option_map node_of (host_entry o) ≡ option_map erased (but_no_link o)
unfolding erased
entry_erased None = refl
entry_erased (Some (File bytes exec)) = refl
entry_erased (Some (Dir names)) = refl
entry_erased (Some (Link text)) = refl

erased_file : (o : Option Node) → is_file (option_map erased o) ≡ is_file o
unfolding erased
erased_file None = refl
erased_file (Some (File bytes exec)) = refl
erased_file (Some (Dir names)) = refl
erased_file (Some (Link text)) = refl

with_erased : (o : Option Node) → set_by (node_mark o) (option_map erased (but_no_link o)) ≡ option_map erased o
unfolding erased
with_erased None = refl
with_erased (Some (File bytes true)) = refl
with_erased (Some (File bytes false)) = refl
with_erased (Some (Dir names)) = refl
with_erased (Some (Link text)) = refl

pub no_place : (n : List ℕ) (r : Paths) → bytes_eq n table_name ≡ false → is_table_place (n ∷ r) ≡ false
no_place n [] e = e
no_place n (a ∷ r) e = refl

module _ (tree : Tree) (P : Paths) (nodes : Nodes) (whole : IsWhole (get nodes)) (limits : IsWithinLimits nodes) (stands : HasFolderOf tree P nodes) where
  abbrev hs : List Held
  hs = walked (all_below tree P)

  abbrev lines : List TableLine
  lines = lines_of nodes

  abbrev links : List TableLink
  links = links_among lines

  nothing_there : (n : List ℕ) (r : Paths) → bytes_eq n table_name ≡ true → get nodes (n ∷ r) ≡ None
  nothing_there n r same = none_if_never _ λ node e.
      let path = whole.paths (n ∷ r) (ap is_some e) in
      let valid : is_name n ≡ true = All-head IsName n r path.names in
      false≢true (sym reserved ∙ (ap is_name (sym ((bytes_eq-Decides n table_name).0 same)) ∙ valid))

  below_is : (n : List ℕ) (r : Paths) → find parts_cmp (n ∷ r) hs ≡ host_entry (get nodes (n ∷ r))
  below_is n r = find_walked_below tree P n r ∙ elim (cases_Bool (bytes_eq n table_name)) [
    | inl same ↦ ap (λ b. cond (not b) (get tree (P ++ n ∷ r)) None) same ∙ sym (ap host_entry (nothing_there n r same))
    | inr other ↦ ap (λ b. cond (not b) (get tree (P ++ n ∷ r)) None) other ∙ (stands (n ∷ r) ∙ ap (λ b. cond b (table_entry lines) (host_entry (get nodes (n ∷ r)))) (no_place n r other))
  ]

  -- the entries of the folder are those of the filestore
  held_are : hs ≡ held_of (entries nodes)
  held_are = same_held tree P nodes below_is

  unlisted_is : (q : Paths) → found (unlisted hs) q ≡ option_map erased (unlinked (get nodes) q)
  unfolding erased
  unlisted_is [] = sym (ap (λ o. option_map erased (but_no_link o)) whole.root.1)
  unlisted_is (n ∷ r) = find_unlisted hs n r ∙ (ap (option_map node_of) (below_is n r) ∙ entry_erased (get nodes (n ∷ r)))

  can_same : (p : Paths) (mark : Mark) → can_mark (over (found (unlisted hs)) true) p mark ≡ can_mark (over (unlinked (get nodes)) true) p mark
  can_same p (Target text) =
      (λ i. is_dir (unlisted_is (parent p) i) && is_none (unlisted_is p i))
      ∙ (λ i. erased_dir (unlinked (get nodes) (parent p)) i && erased_none (unlinked (get nodes) p) i)
  can_same p Executable = ap is_file (unlisted_is p) ∙ erased_file (unlinked (get nodes) p)

  table_of : IsTable (found (unlisted hs)) lines
  table_of =
      let table = lines_are_tables nodes whole in
      record { valid = table.valid; stand = λ k d lt. can_same (slice_index_or lines k d).path (slice_index_or lines k d).mark ∙ table.stand k d lt; ascending = table.ascending }

  ws : List Mapped
  ws = with_lines (unlisted hs) lines

  ws_sorted : T (is_sorted path_cmp ws)
  unfolding ws
  ws_sorted = with_sorted links (with_flags (unlisted hs) lines) (sorted_flags (unlisted hs) lines (unlisted_sorted hs (below_root tree P) (below_sorted tree P)))

  ws_at : (q : Paths) → found ws q ≡ option_map erased (get nodes q)
  unfolding ws
  ws_at q =
      set_at (unlisted hs) (unlisted_plain hs) lines table_of q
      ∙ ap (λ m. set_by m (found (unlisted hs) q)) (find_marks (entries nodes) (entries_sorted nodes) q ∙ ap node_mark (sym (get-entries nodes q)))
      ∙ ap (set_by (node_mark (get nodes q))) (unlisted_is q)
      ∙ with_erased (get nodes q)

  relist : (q : Paths) (o : Option Node) → get nodes q ≡ o → option_map (relisted ws q) (option_map erased o) ≡ o
  unfolding erased
  relist q None is = refl
  relist q (Some (File bytes exec)) is = refl
  relist q (Some (Link text)) is = refl
  relist q (Some (Dir names)) is =
      let node : IsNode q (Dir names) = subst (λ o. IfSome o (IsNode q)) is (whole.nodes q) in
      ap (λ l. Some (Dir l)) (same_names (names_below ws q) names (names_ascend q ws (strictly_sorted path_cmp ws ws_sorted)) node.0.ascending (λ n.
      has_below ws q n ∙ (ap is_some (ws_at (q ++ n ∷ [])) ∙ (erased_some (get nodes (q ++ n ∷ [])) ∙ (whole.listed q n ∙ ap (λ o. lists o n) is)))))

  back : from_entries (listed ws) ≡ nodes
  back = same_map path_total path_same (from_entries (listed ws)) nodes (λ q.
      get-from_entries path_total (listed ws) q ∙ (find_listed ws ws q ∙ (ap (option_map (relisted ws q)) (ws_at q) ∙ relist q (get nodes q) refl)))

  -- ---- nothing is refused

  accepted : (p : Paths) (node : Node) (e : Entry) → get nodes p ≡ Some node → host_entry (Some node) ≡ Some e → 0 < length p → IsAccepted p e
  accepted p (File bytes exec) e is shows some =
      let path = whole.paths p (ap is_some is) in
      let node : IsNode p (File bytes exec) = subst (λ o. IfSome o (IsNode p)) is (whole.nodes p) in
      let same : file bytes ≡ e = cc in
      subst (IsAccepted p) same (record { named = path.names (length p - 1) [] (omega arith); short = path.short; known = λ k. cc; small = node.short })
  accepted p (Dir names) e is shows some =
      let path = whole.paths p (ap is_some is) in
      let same : folder ≡ e = cc in
      subst (IsAccepted p) same (record { named = path.names (length p - 1) [] (omega arith); short = path.short; known = λ k. cc; small = omega arith })
  accepted p (Link text) e is shows some = cc

  all_accepted : (es : List Mapped) → AreFound path_cmp es (entries nodes) → AreAccepted (held_of es)
  all_accepted [] there = tt
  all_accepted (([], node) ∷ es) there = all_accepted es there.1
  all_accepted ((n ∷ r, File bytes exec) ∷ es) there = (accepted (n ∷ r) (File bytes exec) (file bytes) (get-entries nodes (n ∷ r) ∙ there.0) refl (omega arith), all_accepted es there.1)
  all_accepted ((n ∷ r, Dir names) ∷ es) there = (accepted (n ∷ r) (Dir names) folder (get-entries nodes (n ∷ r) ∙ there.0) refl (omega arith), all_accepted es there.1)
  all_accepted ((n ∷ r, Link text) ∷ es) there = all_accepted es there.1

  root : HasRoot (entries nodes) (Dir whole.root.0)
  root = has_root (entries nodes) (Dir whole.root.0) (entries_sorted nodes) (sym (get-entries nodes []) ∙ whole.root.1)

  few : length (held_of (entries nodes)) + length links + 1 ≤ MAX_NODES
  few =
      let within = limits.count in
      let all = counted (entries nodes) whole.root.0 root.rest root.is (entries_sorted nodes) in
      omega (arith, len-entries nodes)

  bytes : all_bytes (held_of (entries nodes)) + link_bytes links ≤ MAX_BYTES
  bytes = let within = limits.bytes in let all = summed (entries nodes) whole.root.0 root.rest root.is (entries_sorted nodes) in omega arith

  none_refused : first_refused 1 MAX_BYTES hs ≡ None
  none_refused =
      let room = few in
      let fit = bytes in
      ap (first_refused 1 MAX_BYTES) held_are
      ∙ all_pass 1 MAX_BYTES (held_of (entries nodes)) (all_accepted (entries nodes) (all_found path_total (entries nodes) (strictly_sorted path_cmp (entries nodes) (entries_sorted nodes)))) (omega arith) (omega arith)

  table_is : table_in (all_below tree P) ≡ table_entry lines
  table_is = find_below tree P table_name [] ∙ stands (table_name ∷ [])

  lines_read : table_lines (length hs + 1) (MAX_BYTES - all_bytes hs) (found (unlisted hs)) (table_in (all_below tree P)) ≡ Ok lines
  lines_read =
      let n : length hs ≡ length (held_of (entries nodes)) = ap length held_are in
      let b : all_bytes hs ≡ all_bytes (held_of (entries nodes)) = ap all_bytes held_are in
      let room = few in
      let fit = bytes in
      ap (table_lines (length hs + 1) (MAX_BYTES - all_bytes hs) (found (unlisted hs))) table_is
      ∙ reads (length hs + 1) (MAX_BYTES - all_bytes hs) (found (unlisted hs)) lines table_of limits.table (omega arith) (omega arith)

  is_loaded : deep_loads tree P ≡ Ok nodes
  unfolding ws
  is_loaded =
      ap (λ o. as_nodes (unless_refused o (with_table hs (table_in (all_below tree P))))) none_refused
      ∙ (ap (λ r. as_nodes (linked (unlisted hs) r)) lines_read ∙ ap (λ m. Ok m) back)

pub folders_are_loaded : FoldersAreLoaded
folders_are_loaded tree P nodes whole limits stands = is_loaded tree P nodes whole limits stands
