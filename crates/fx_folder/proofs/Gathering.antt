-- What was walked, with the links of the table, is what the definition of loading gives.
use Rattle.fx_folder.proofs.Prelude.{some_of, Held, all_below, all_bytes, lacking, lines_or_cause, linked, loaded, node_of_kind, table_file_lines, table_in, unless_refused, unlisted, walked, with_table, AreFoundChanges, HasDir, IsFoundChange, IsFoundNode, IsReadAt, path_below, HasBadLine, IsLineCause, exceed_limits, AnswersFound, AnswersText, HasTable, IsJoined, items_in, room_behind, table_text_or_cause, AnswersWalk, found_as, Loader, sorted_test, strictly_sorted, Names, Parts, parts, Entry, Lists, Tree, bytes_at, entry_at, is_file_at, is_file_kind, is_folder_at, HostKind, IsChanges, change_at, changed_paths, IsPath, path_cmp, path_eq_same, Store, Change, Node, Dir, File, Link, bytes_flags, lines_made, lines_merge, IsLinked, set_at, mapped_changes, bytes_linked, found, body_read, lacks_none, AreLines, LinesCause, ReadsAll, is_over, lines_in, link_bytes, standing_by, Mapped, listed, with_flag, with_flags, with_lines, mapped_of, node_or_dir, CanMerge, place_of, table_name, AreOfBytes, AreShaped, IsNodeBounded, IsOfBytes, IsTreeShaped, change_of, changes_of, IsTable, TableLink, lacks_flags, links_among, over, read_body, BeginsWith, IsFirstBadLine, FolderCause, BadName, BadTable, Strange, TooLarge, LoadFault, NoMemory, ReadFault, Refused, Bool, Err, IfErr, IfOk, IfSome, List, None, Ok, Option, Result, Some, [], ap, arith, cond, false, inl, inr, length, map, option_map, refl, subst, sym, true, ℕ, ◌++◌, ◌+◌, ◌-◌, ◌<◌, ◌||◌, ◌∙◌, ◌∷◌, ◌≡◌, ◌≤◌, nat_tests, find, get, Global, AllByRecursion, IsStrictlySortedBy, keys_of, option_map_or, eq_by_cmp, Vec, nat_lt, unwrap_or, MAX_BYTES, MAX_NODES, MAX_TABLE}
use Rattle.std.proofs.lemmas.List.{length-map}
use Rattle.std.proofs.lemmas.Option.{IfSome_then}
use Rattle.fx_base.proofs.Lists.{same_heads}
use Rattle.fx_outside.specs.declared.kind.HostKind.TheVariants as kind
use Rattle.fx_folder.proofs.Below.{folder_fit}
use Rattle.fx_folder.proofs.Texts.{parts_table, fit_table}
use Rattle.fx_folder.proofs.Branches.{find_below}
use Rattle.fx_folder.proofs.Counted.{not_above, is_below}
use Rattle.fx_folder.proofs.Loaded.{HaveRoom, have_room}
use Rattle.fx_folder.proofs.TableRefusals.{lines_refused, same_many}

-- ---- what was found has a shape

found_set : (cs : List Change) (es : List Mapped) → AllByRecursion (IsFoundChange es) cs → cs ≡ changes_of (mapped_of cs)
found_set [] es all = refl
found_set (c ∷ cs) es all = λ i. first c all.0 i ∷ found_set cs es all.1 i
  where
    by : (p : Parts) (o : Option Node) → IsFoundNode o → ◌≡◌ {A = Change} (record { path = p; node = o }) (change_of (p, node_or_dir o))
    by p None is = absurd is
    by p (Some node) is = refl

    first : (c : Change) → IsFoundChange es c → c ≡ change_of (c.path, node_or_dir c.node)
    first c is = by c.path c.node is.node

-- what holds of each change holds where one is found
each_at : (P : Parts → Option Node → Type 0) (cs : List Change) (q : Parts) (node : Node) → AllByRecursion (λ (c : Change). P c.path c.node) cs → cs ≡ changes_of (mapped_of cs) → found (mapped_of cs) q ≡ Some node → P q (Some node)
each_at P [] q node all set is = cc
each_at P (c ∷ cs) q node all set is = let tail : cs ≡ changes_of (mapped_of cs) = cc in by (eq_by_cmp path_cmp q c.path) refl is (each_at P cs q node all.1 tail)
  where
    by : (b : Bool) → eq_by_cmp path_cmp q c.path ≡ b → cond b (Some (node_or_dir c.node)) (found (mapped_of cs) q) ≡ Some node → (found (mapped_of cs) q ≡ Some node → P q (Some node)) → P q (Some node)
    by true same is further =
        let here : c.node ≡ Some node = ap (λ (x : Change). x.node) (same_heads c (change_of (c.path, node_or_dir c.node)) cs (changes_of (mapped_of cs)) set) ∙ is in
        subst (λ p. P p (Some node)) (sym (path_eq_same q c.path same)) (subst (P c.path) here all.0)
    by false other is further = further is

module _ (cs : List Change) (are : AreFoundChanges cs) where
  abbrev es : List Mapped
  es = mapped_of cs

  set : cs ≡ changes_of (mapped_of cs)
  set = found_set cs es are.each

  weaker : (P : Parts → Option Node → Type 0) → ((c : Change) → IsFoundChange es c → P c.path c.node) → (ds : List Change) → AllByRecursion (IsFoundChange es) ds → AllByRecursion (λ (c : Change). P c.path c.node) ds
  weaker P f [] all = tt
  weaker P f (d ∷ ds) all = (f d all.0, weaker P f ds all.1)

  at_path : (P : Parts → Option Node → Type 0) → ((c : Change) → IsFoundChange es c → P c.path c.node) → (q : Parts) (node : Node) → found es q ≡ Some node → P q (Some node)
  at_path P f q node is = each_at P cs q node (weaker P f cs are.each) set is

  leaf_of : (o : Option Node) → IsFoundNode o → IfSome o IsNodeBounded
  leaf_of None is = tt
  leaf_of (Some (File bytes exec)) is = is.short
  leaf_of (Some (Dir names)) is = tt
  leaf_of (Some (Link text)) is = absurd is

  bytes_of : (o : Option Node) → IsFoundNode o → IfSome o IsOfBytes
  bytes_of None is = tt
  bytes_of (Some (File bytes exec)) is = is.bytes
  bytes_of (Some (Dir names)) is = tt
  bytes_of (Some (Link text)) is = tt

  if_found : (P : Node → Type 0) → ((c : Change) → IsFoundChange es c → IfSome c.node P) → (q : Parts) → IfSome (found es q) P
  if_found P f q = by (found es q) refl
    where
      by : (o : Option Node) → found es q ≡ o → IfSome o P
      by None is = tt
      by (Some node) is = at_path (λ p o. IfSome o P) f q node is

  shape : IsTreeShaped (found es)
  shape = record {
    root = are.root;
    above = λ path name some.
        let there = some_of (found es (path ++ name ∷ [])) some in
        at_path (λ p o. (q : Parts) (n : List ℕ) → p ≡ q ++ n ∷ [] → HasDir es q) (λ c is q n e. is.above q n e) (path ++ name ∷ []) there.0 there.1 path name refl;
    paths = λ path some. let there = some_of (found es path) some in at_path (λ p o. IsPath p) (λ c is. is.path) path there.0 there.1;
    leaves = if_found IsNodeBounded (λ c is. leaf_of c.node is.node);
  }

  pub found_shaped : AreShaped cs
  found_shaped = record { set = set; ascending = are.ascending; shape = shape; bytes = if_found IsOfBytes (λ c is. bytes_of c.node is.node) }

  keys_paths : (ds : List Change) → keys_of (mapped_of ds) ≡ changed_paths ds
  keys_paths [] = refl
  keys_paths (d ∷ ds) = ap (λ l. d.path ∷ l) (keys_paths ds)

  pub found_changes : IsChanges cs
  found_changes = subst (IsStrictlySortedBy path_cmp) (keys_paths cs) are.ascending

  -- what stands by the changes
  pub stands : (q : Parts) → standing_by cs q ≡ found es q
  stands q = ap (λ l. unwrap_or (change_at l q) None) set ∙ (ap (λ o. unwrap_or o None) (set_at es q) ∙ by (found es q))
    where
      by : (o : Option Node) → unwrap_or (option_map Some o) None ≡ o
      by None = refl
      by (Some node) = refl

  is_linked : IsLinked (found es) es
  is_linked = record { sorted = sorted_test path_cmp es are.ascending; shape = shape; dirs = λ q. refl }

-- ---- lines that are a table can be merged

module _ (cs : List Change) (are : AreFoundChanges cs) (lines : List Change) (linked : AreLines (over (standing_by cs) true) lines) where
  abbrev S : Store
  S = standing_by cs

  same_store : S ≡ found (mapped_of cs)
  same_store = λ i q. stands cs are q i

  lines_table : IsTable (found (mapped_of cs)) (lines_in lines)
  lines_table = subst (λ F. IsTable F (lines_in lines)) same_store linked.table

  pub can_merge : CanMerge (mapped_of cs) (links_among (lines_in lines))
  can_merge = lines_merge (found (mapped_of cs)) true (lines_in lines) lines_table (mapped_of cs) (λ q. refl)

  joined_lines : IsLinked (found (mapped_of cs)) (with_lines (mapped_of cs) (lines_in lines))
  joined_lines = lines_made (found (mapped_of cs)) true (lines_in lines) lines_table (mapped_of cs) (is_linked cs are)

  pub joined_shaped : (all : List Change) → all ≡ changes_of (with_lines (mapped_of cs) (lines_in lines)) → AreShaped all
  joined_shaped all is =
      let fs = with_lines (mapped_of cs) (lines_in lines) in
      let same : mapped_of (changes_of fs) ≡ fs = mapped_changes fs in
      subst AreShaped (sym is) (record {
        set = ap changes_of (sym same);
        ascending = subst (λ l. IsStrictlySortedBy path_cmp (keys_of l)) (sym same) (strictly_sorted path_cmp fs joined_lines.sorted);
        shape = subst (λ l. IsTreeShaped (found l)) (sym same) joined_lines.shape;
        bytes = subst (λ l. AreOfBytes (found l)) (sym same) (bytes_linked (with_flags (mapped_of cs) (lines_in lines)) (links_among (lines_in lines)) (bytes_flags (mapped_of cs) (lines_in lines) (found_shaped cs are).bytes));
      })

-- ---- what was walked is what is unlisted

mapped_walked : (hs : List Held) → mapped_of (map found_as hs) ≡ map (λ (h : Held). (h.0, node_of_kind h.1.kind h.1.bytes)) hs
mapped_walked [] = refl
mapped_walked (h ∷ hs) = ap (λ l. (h.0, node_of_kind h.1.kind h.1.bytes) ∷ l) (mapped_walked hs)

-- without lines no file is executable, as none was found to be
unflagged : (p : Parts) (k : HostKind) (bytes : List ℕ) → with_flag [] (p, node_of_kind k bytes) ≡ (p, node_of_kind k bytes)
unflagged p kind.File bytes = refl
unflagged p kind.Folder bytes = refl
unflagged p kind.Other bytes = refl

all_unflagged : (hs : List Held) → with_flags (map (λ (h : Held). (h.0, node_of_kind h.1.kind h.1.bytes)) hs) [] ≡ map (λ (h : Held). (h.0, node_of_kind h.1.kind h.1.bytes)) hs
all_unflagged [] = refl
all_unflagged (h ∷ hs) = λ i. unflagged h.0 h.1.kind h.1.bytes i ∷ all_unflagged hs i

no_lines : (hs : List Held) → with_lines (unlisted hs) [] ≡ unlisted hs
no_lines hs = ap (λ l. ([], Dir []) ∷ l) (all_unflagged hs)

module _ (t : Tree) (at : Parts) (w : Loader) (are : AreFoundChanges w.found.items) (walk : AnswersWalk t at (Ok w)) where
  abbrev hs : List Held
  hs = walked (all_below t at)

  abbrev cs : List Change
  cs = w.found.items

  pub unlisted_is : mapped_of cs ≡ unlisted hs
  unlisted_is = ap mapped_of walk.1 ∙ ap (λ l. ([], Dir []) ∷ l) (mapped_walked hs)

  count : length cs ≡ length hs + 1
  count = ap length walk.1 ∙ (let n = length-map hs found_as in omega (arith, n))

  room : HaveRoom 1 MAX_BYTES hs
  room = have_room 1 MAX_BYTES hs (omega arith) walk.0

  abbrev ground : Store
  ground = standing_by cs

  abbrev U : Store
  U = λ path. find path_cmp path (unlisted hs)

  same_ground : ground ≡ U
  same_ground = λ i q. (stands cs are q ∙ ap (λ l. found l q) unlisted_is) i

  over_count : (n k : ℕ) → n ≤ MAX_NODES → nat_lt (MAX_NODES - n) k ≡ nat_lt MAX_NODES (n + k)
  over_count n k le = grind (arith, nat_tests)

  over_is : (ls : List TableLink) → is_over (room_behind cs w.left) ls ≡ exceed_limits hs ls
  over_is ls =
      ap (λ b. b || nat_lt w.left (link_bytes ls)) (ap (λ n. nat_lt (MAX_NODES - n) (length ls)) count ∙ over_count (length hs + 1) (length ls) (omega (arith, room.few)))
      ∙ (ap (λ n. nat_lt MAX_NODES (length hs + 1 + length ls) || nat_lt n (link_bytes ls)) walk.2 ∙ same_many hs room.fit ls)

  -- the table's text is read
  lines_read : (text : List ℕ) (lines : List Change) → ReadsAll ground (room_behind cs w.left) text lines → lines_or_cause (length hs + 1) (MAX_BYTES - all_bytes hs) U text (read_body U text) ≡ Ok (lines_in lines)
  lines_read text lines reads =
      let said = lines_in lines in
      let read : read_body U text ≡ Ok said = ap (read_body U) reads.whole ∙ body_read U said (subst (λ F. IsTable F said) same_ground reads.are.table) in
      let lacks : lacks_flags text said ≡ false = ap (λ t. lacks_flags t said) reads.whole ∙ lacks_none said in
      ap (lines_or_cause (length hs + 1) (MAX_BYTES - all_bytes hs) U text) read
      ∙ (ap (λ b. cond b (Err (TooLarge (place_of (table_name ∷ [])))) (unless_refused (lacking text said) (Ok said))) (same_many hs room.fit (links_among said) ∙ (sym (over_is (links_among said)) ∙ reads.few))
      ∙ ap (λ l. unless_refused (cond l (Some (BadTable 1)) None) (Ok said)) lacks)

  cause_of : (text : List ℕ) (cause : FolderCause) → LinesCause ground (room_behind cs w.left) text (Refused cause) → IsLineCause U hs text cause
  cause_of text (BadName place) why = absurd why
  cause_of text (Strange place) why = absurd why
  cause_of text (TooLarge place) why = inl (
    ap TooLarge why.0,
    record {
      lines = why.1.lines;
      front = subst (λ F. BeginsWith F text why.1.lines) same_ground why.1.front;
      many = sym (over_is (links_among why.1.lines)) ∙ why.1.many;
    },
  )
  cause_of text (BadTable n) why = inr (n, refl, few_in same_ground why.first (sym (over_is (links_among why.first.lines)) ∙ why.few))
    where
      few_in : {F G : Store} (same : F ≡ G) (first : IsFirstBadLine F text n) → exceed_limits hs (links_among first.lines) ≡ false → HasBadLine G hs text n
      few_in same first few = subst (λ F. HasBadLine F hs text n) same (record { first = first; few = few })

  abbrev table : Option Entry
  table = table_in (all_below t at)

  table_is : table ≡ get t (at ++ table_name ∷ [])
  table_is = find_below t at table_name []

  loaded_is : (o : Option Entry) → table ≡ o → loaded (all_below t at) ≡ with_table hs o
  loaded_is o is = ap (λ c. unless_refused c (with_table hs table)) walk.0 ∙ ap (with_table hs) is

  -- ---- the folder has no table

  pub answers_bare : get t (at ++ table_name ∷ []) ≡ None → loaded (all_below t at) ≡ Ok (listed (mapped_of cs))
  answers_bare none = loaded_is None (table_is ∙ none) ∙ (ap (λ l. Ok (listed l)) (no_lines hs) ∙ ap (λ l. Ok (listed l)) (sym unlisted_is))

  -- ---- the folder has a table

  module _ (e : Entry) (there : get t (at ++ table_name ∷ []) ≡ Some e) where
    abbrev nodes : ℕ
    nodes = length hs + 1

    abbrev left : ℕ
    left = MAX_BYTES - all_bytes hs

    whole_is : loaded (all_below t at) ≡ linked (unlisted hs) (table_file_lines nodes left U e.kind e.bytes)
    whole_is = loaded_is (Some e) (table_is ∙ there)

    text_lines : (k : HostKind) (contents text : List ℕ) → table_text_or_cause k contents ≡ Ok text → table_file_lines nodes left U k contents ≡ lines_or_cause nodes left U text (read_body U text)
    text_lines kind.File contents text is = by (nat_lt MAX_TABLE (length contents)) is
      where
        by : (b : Bool) → cond b (Err (TooLarge (place_of (table_name ∷ [])))) (Ok contents) ≡ Ok text → cond b (Err (TooLarge (place_of (table_name ∷ [])))) (lines_or_cause nodes left U contents (read_body U contents)) ≡ lines_or_cause nodes left U text (read_body U text)
        by true is = cc
        by false is = let same : contents ≡ text = cc in ap (λ c. lines_or_cause nodes left U c (read_body U c)) same
    text_lines kind.Folder contents text is = cc
    text_lines kind.Other contents text is = cc

    text_cause : (k : HostKind) (contents : List ℕ) (cause : FolderCause) → table_text_or_cause k contents ≡ Err cause → table_file_lines nodes left U k contents ≡ Err cause
    text_cause kind.File contents cause is = by (nat_lt MAX_TABLE (length contents)) is
      where
        by : (b : Bool) → cond b (Err (TooLarge (place_of (table_name ∷ [])))) (Ok contents) ≡ Err cause → cond b (Err (TooLarge (place_of (table_name ∷ [])))) (lines_or_cause nodes left U contents (read_body U contents)) ≡ Err cause
        by true is = cc
        by false is = cc
    text_cause kind.Folder contents cause is = cc
    text_cause kind.Other contents cause is = cc

    pub answers_unread : (cause : FolderCause) → table_text_or_cause e.kind e.bytes ≡ Err cause → loaded (all_below t at) ≡ Err cause
    answers_unread cause is = whole_is ∙ ap (linked (unlisted hs)) (text_cause e.kind e.bytes cause is)

    pub answers_joined : (text : List ℕ) (all : List Change) → table_text_or_cause e.kind e.bytes ≡ Ok text → IsJoined cs w.left text all → loaded (all_below t at) ≡ Ok (listed (mapped_of all))
    answers_joined text all is joined =
        whole_is ∙ ap (linked (unlisted hs)) (text_lines e.kind e.bytes text is ∙ lines_read text joined.lines joined.read)
        ∙ ap (λ l. Ok (listed l)) (ap (λ l. with_lines l (lines_in joined.lines)) (sym unlisted_is) ∙ sym (ap mapped_of joined.all ∙ mapped_changes (with_lines (mapped_of cs) (lines_in joined.lines))))

    pub answers_stopped : (text : List ℕ) (cause : FolderCause) → table_text_or_cause e.kind e.bytes ≡ Ok text → LinesCause ground (room_behind cs w.left) text (Refused cause) → loaded (all_below t at) ≡ Err cause
    answers_stopped text cause is why =
        whole_is ∙ ap (linked (unlisted hs)) (text_lines e.kind e.bytes text is ∙ lines_refused hs room.fit U text cause (cause_of text cause why))

-- ---- for a host that may tell its tree

entry_table : (t : Tree) (folder : List ℕ) → is_folder_at t folder ≡ true → entry_at t (path_below folder table_name) ≡ get t (parts folder ++ table_name ∷ [])
entry_table t folder here =
    ap (λ b. cond b (get t (parts (path_below folder table_name))) None) (fit_table folder (folder_fit t folder here))
    ∙ ap (get t) (parts_table folder)

record HasEntry (t : Tree) (folder : List ℕ) (k : HostKind) : Type 0 where
  entry : Entry
  there : get t (parts folder ++ table_name ∷ []) ≡ Some entry
  kind : entry.kind ≡ k
  bytes : bytes_at t (path_below folder table_name) ≡ entry.bytes

has_entry : (t : Tree) (folder : List ℕ) (k : HostKind) → is_folder_at t folder ≡ true → HasTable t (parts folder) k → HasEntry t folder k
has_entry t folder k here has = by (get t (parts folder ++ table_name ∷ [])) refl has
  where
    by : (o : Option Entry) → get t (parts folder ++ table_name ∷ []) ≡ o → option_map (λ e. e.kind) o ≡ Some k → HasEntry t folder k
    by None is e = cc
    by (Some x) is e = record {
      entry = x;
      there = is;
      kind = cc;
      bytes = ap (λ o. option_map_or (λ (e : Entry). e.bytes) o []) (entry_table t folder here ∙ is);
    }

pub table_file : (told : Option Tree) (folder : List ℕ) (k : HostKind) → IfSome told (λ t. is_folder_at t folder ≡ true) → IfSome told (λ t. HasTable t (parts folder) k) → k ≡ kind.File → IfSome told (λ t. is_file_at t (path_below folder table_name) ≡ true)
table_file None folder k here has is = tt
table_file (Some t) folder k here has is =
    let e = has_entry t folder k here has in
    ap (λ o. option_map_or (λ (x : Entry). is_file_kind x.kind) o false) (entry_table t folder here ∙ e.there) ∙ ap is_file_kind (e.kind ∙ is)

text_here : (t : Tree) (folder : List ℕ) (k : HostKind) (e : HasEntry t folder k) (answer : Result (List ℕ) FolderCause) → table_text_or_cause k (bytes_at t (path_below folder table_name)) ≡ answer → table_text_or_cause e.entry.kind e.entry.bytes ≡ answer
text_here t folder k e answer is = ap (λ x. table_text_or_cause x e.entry.bytes) e.kind ∙ (ap (table_text_or_cause k) (sym e.bytes) ∙ is)

pub joined_told : (told : Option Tree) (folder : List ℕ) (k : HostKind) (w : Loader) (text : List ℕ) (r : Result (Vec Change Global) LoadFault) → AreFoundChanges w.found.items → IfSome told (λ t. is_folder_at t folder ≡ true) → IfSome told (λ t. HasTable t (parts folder) k) → IfSome told (λ t. AnswersWalk t (parts folder) (Ok w)) → IfSome told (λ t. AnswersText (table_text_or_cause k (bytes_at t (path_below folder table_name))) (Ok text))
    → IfOk r (λ all. IsJoined w.found.items w.left text all.items) → IfErr r (LinesCause (standing_by w.found.items) (room_behind w.found.items w.left) text) → IfSome told (λ t. AnswersFound t (parts folder) (items_in r))
joined_told None folder k w text r are here has walk answer joined cause = tt
joined_told (Some t) folder k w text (Ok all) are here has walk answer joined cause =
    let e = has_entry t folder k here has in
    answers_joined t (parts folder) w are walk e.entry e.there text all.items (text_here t folder k e (Ok text) answer) joined
joined_told (Some t) folder k w text (Err (Refused why)) are here has walk answer joined cause =
    let e = has_entry t folder k here has in
    answers_stopped t (parts folder) w are walk e.entry e.there text why (text_here t folder k e (Ok text) answer) cause
joined_told (Some t) folder k w text (Err ReadFault) are here has walk answer joined cause = tt
joined_told (Some t) folder k w text (Err NoMemory) are here has walk answer joined cause = tt

pub unread_told : (told : Option Tree) (folder : List ℕ) (k : HostKind) (w : Loader) (fault : LoadFault) → AreFoundChanges w.found.items → IfSome told (λ t. is_folder_at t folder ≡ true) → IfSome told (λ t. HasTable t (parts folder) k) → IfSome told (λ t. AnswersWalk t (parts folder) (Ok w)) → IfSome told (λ t. AnswersText (table_text_or_cause k (bytes_at t (path_below folder table_name))) (Err fault))
    → IfSome told (λ t. AnswersFound t (parts folder) (Err fault))
unread_told None folder k w fault are here has walk answer = tt
unread_told (Some t) folder k w (Refused cause) are here has walk answer =
    let e = has_entry t folder k here has in
    answers_unread t (parts folder) w are walk e.entry e.there cause (text_here t folder k e (Err cause) answer)
unread_told (Some t) folder k w ReadFault are here has walk answer = tt
unread_told (Some t) folder k w NoMemory are here has walk answer = tt

pub bare_told : (told : Option Tree) (at : Parts) (w : Loader) (names : Names) (all : List Change) → AreFoundChanges w.found.items → IfSome told (λ t. Lists t at names) → IfSome told (λ t. AnswersWalk t at (Ok w)) → None ≡ get names table_name → all ≡ w.found.items → IfSome told (λ t. AnswersFound t at (Ok all))
bare_told None at w names all are lists walk none is = tt
bare_told (Some t) at w names all are lists walk none is =
    answers_bare t at w are walk (by (get t (at ++ table_name ∷ [])) (sym (lists table_name) ∙ sym none)) ∙ ap (λ l. Ok (listed (mapped_of l))) (sym is)
  where
    by : (o : Option Entry) → option_map (λ e. e.kind) o ≡ None → o ≡ None
    by None e = refl
    by (Some x) e = cc

pub text_read : (told : Option Tree) (p q : List ℕ) (text : List ℕ) → q ≡ p → length text ≤ MAX_TABLE → IfSome told (λ t. IsReadAt t q MAX_TABLE text) → IfSome told (λ t. AnswersText (table_text_or_cause kind.File (bytes_at t p)) (Ok text))
text_read told p q text same short reads =
    IfSome_then told reads (λ t read.
    subst (λ r. table_text_or_cause kind.File (bytes_at t r) ≡ Ok text) same
    (ap (table_text_or_cause kind.File) (sym (read.whole short)) ∙ ap (λ b. cond b (Err (TooLarge (place_of (table_name ∷ [])))) (Ok text)) (not_above (length text) MAX_TABLE short)))

pub text_large : (told : Option Tree) (p q : List ℕ) (text : List ℕ) → q ≡ p → MAX_TABLE < length text → IfSome told (λ t. IsReadAt t q MAX_TABLE text) → IfSome told (λ t. table_text_or_cause kind.File (bytes_at t p) ≡ Err (TooLarge (place_of (table_name ∷ []))))
text_large told p q text same large reads =
    IfSome_then told reads (λ t read.
    subst (λ r. table_text_or_cause kind.File (bytes_at t r) ≡ Err (TooLarge (place_of (table_name ∷ [])))) same
    (ap (λ b. cond b (Err (TooLarge (place_of (table_name ∷ [])))) (Ok (bytes_at t q))) (is_below MAX_TABLE (length (bytes_at t q)) (omega (arith, large, read.within)))))

pub text_of_file : (told : Option Tree) (p : List ℕ) (k : HostKind) (r : Result (List ℕ) LoadFault) → k ≡ kind.File → IfSome told (λ t. AnswersText (table_text_or_cause kind.File (bytes_at t p)) r) → IfSome told (λ t. AnswersText (table_text_or_cause k (bytes_at t p)) r)
text_of_file told p k r is answer = subst (λ x. IfSome told (λ t. AnswersText (table_text_or_cause x (bytes_at t p)) r)) (sym is) answer

pub lists_told : (told : Option Tree) (folder : List ℕ) (names : Names) → IfSome told (λ t. (is_folder_at t folder ≡ true) × Lists t (parts folder) names) → IfSome told (λ t. Lists t (parts folder) names)
lists_told told folder names lists = IfSome_then told lists (λ t is. is.1)
