-- Changes that make the links of a table among what a filestore holds.
use Rattle.fx_table.proofs.Prelude.{◌≡◌, ◌⊎◌, inl, inr, ℕ, ◌+◌, ◌<◌, ◌≤◌, drop, Bool, true, false, cond, ◌||◌, List, [], ◌∷◌, ◌++◌, map, length, Option, Some, None, IfSome, option_map, refl, sym, ◌∙◌, ap, subst, arith, length-append, length-drop, nat_lt, unwrap_or, codes, ◌/◌, ◌%◌, Less, Equal, Greater, eq_by_cmp, AllByRecursion, cons_option, IsStrictlySortedBy, keys_of, get, find, put, entries, entries_sorted, get-entries, get-from_entries, by_order, nat_tests, filter_map-append, same_Some, Parts, strictly_sorted, Node, File, Dir, Link, Change, IsChanges, changed_paths, change_at, path_cmp, path_text, IsNameSet, path_total, path_eq_same, Nodes, IsWhole, IsNode, lists, over_nodes, get-over_nodes, same_nodes, Mapped, listed, with_links, with_flags, with_lines, IsOfBytes, AreOfBytes, IsNodeBounded, IsTreeShaped, changes_of, HaveNameSets, lines_in, AreLines, link_bytes, ReadsAll, LinesCause, mapped_of, Mark, Target, Executable, TableLine, TableLink, is_dir, mark_text, line_of, lines_text, links_among, link_in_line, flag_at, is_second, body_of, read_table, is_plain_byte, spelled, spelling, digit_glyph, sum_by-cons, Ordering, over-change_at, none_above, BadName, Strange, TooLarge, BadTable, LoadFault, Refused, ReadFault, NoMemory, Room, Level, with_exec, linked_nodes, MakesTable, TableCause, emptied_node, differs, changed_flag, kept_change, kept_of, Keeps, CanMerge, left_of, AreLevels}
use Rattle.fx_store.specs.Whole.{over}
use Rattle.fx_table.specs.Linked.{bare}
use Rattle.fx_table.specs.Table.{over as setting}
use Rattle.fx_table.proofs.Bodies.{bad_read}
use Rattle.fx_table.proofs.Flagging.{find_flags, keys_flags, bytes_flags, lines_made, lines_merge}
use Rattle.fx_table.proofs.Linking.{IsLinked, find_linked}
use Rattle.fx_table.proofs.Making.{set_at, paths_of}
use Rattle.fx_table.proofs.Naming.{mapped_changes, same_names}
use Rattle.fx_table.proofs.Shapes.{found, is_set, find_listed, find_mapped, keys_mapped, keys_with, relisted}
use Rattle.fx_table.proofs.Versions.{tables_are_read}

-- ---- the bare nodes of a filestore

pub record IsBaring (nodes : Nodes) (all : List Change) (levels : List Level) : Type 0 where
  pub are : AreLevels nodes levels
  pub baring : all ++ changes_of (map bare (left_of nodes levels)) ≡ changes_of (map bare (entries nodes))

-- ---- keys

keys_bare : (es : List Mapped) → keys_of (map bare es) ≡ keys_of es
keys_bare es = keys_mapped bare (λ p. emptied_node) (λ p node. refl) es

find_bare : (es : List Mapped) (q : Parts) → found (map bare es) q ≡ option_map emptied_node (found es q)
find_bare es q = find_mapped bare (λ p. emptied_node) (λ p node. refl) es q

-- the keys of entries with one link more go by the keys alone
key_put : Parts → List Parts → List Parts
key_put k [] = k ∷ []
key_put k (p ∷ ps) = by_order (path_cmp k p) (k ∷ p ∷ ps) (p ∷ ps) (p ∷ key_put k ps)

keys_put : (l : TableLink) (es : List Mapped) → keys_of (put path_cmp l.path (Link l.text) es) ≡ key_put l.path (keys_of es)
unfolding key_put
keys_put l [] = refl
keys_put l (e ∷ es) = by (path_cmp l.path e.0) (keys_put l es)
  where
    by : (o : Ordering) → keys_of (put path_cmp l.path (Link l.text) es) ≡ key_put l.path (keys_of es) → keys_of (by_order o ((l.path, Link l.text) ∷ e ∷ es) ((e.0, Link l.text) ∷ es) (e ∷ put path_cmp l.path (Link l.text) es)) ≡ by_order o (l.path ∷ e.0 ∷ keys_of es) (e.0 ∷ keys_of es) (e.0 ∷ key_put l.path (keys_of es))
    by Less rest = refl
    by Equal rest = refl
    by Greater rest = ap (λ ks. e.0 ∷ ks) rest

keys_linked : (es fs : List Mapped) (ls : List TableLink) → keys_of es ≡ keys_of fs → keys_of (with_links es ls) ≡ keys_of (with_links fs ls)
keys_linked es fs [] same = same
keys_linked es fs (l ∷ ls) same = keys_linked (put path_cmp l.path (Link l.text) es) (put path_cmp l.path (Link l.text) fs) ls (keys_put l es ∙ (ap (key_put l.path) same ∙ sym (keys_put l fs)))

-- ---- what stands at a path once links are made

abbrev link_over : Parts → List TableLink → Option Node → Option Node
link_over q [] o = o
link_over q (l ∷ ls) o = link_over q ls (cond (eq_by_cmp path_cmp q l.path) (Some (Link l.text)) o)

find_over : (es : List Mapped) (ls : List TableLink) (q : Parts) → found (with_links es ls) q ≡ link_over q ls (found es q)
find_over es [] q = refl
find_over es (l ∷ ls) q = find_over (put path_cmp l.path (Link l.text) es) ls q ∙ ap (link_over q ls) (find_linked es l q)

-- a link, whatever stood there, or what stood there
abbrev IsOver : Parts → List TableLink → Type 0
IsOver q ls = ((text : List ℕ) × ((o : Option Node) → link_over q ls o ≡ Some (Link text))) ⊎ ((o : Option Node) → link_over q ls o ≡ o)

over_cases : (q : Parts) (ls : List TableLink) → IsOver q ls
over_cases q [] = inr (λ o. refl)
over_cases q (l ∷ ls) = by (eq_by_cmp path_cmp q l.path) refl (over_cases q ls)
  where
    by : (b : Bool) → eq_by_cmp path_cmp q l.path ≡ b → IsOver q ls → IsOver q (l ∷ ls)
    by b is (inl over) = inl (over.0, λ o. over.1 (cond (eq_by_cmp path_cmp q l.path) (Some (Link l.text)) o))
    by true is (inr same) = inl (l.text, λ o. same (cond (eq_by_cmp path_cmp q l.path) (Some (Link l.text)) o) ∙ ap (λ t. cond t (Some (Link l.text)) o) is)
    by false is (inr same) = inr (λ o. same (cond (eq_by_cmp path_cmp q l.path) (Some (Link l.text)) o) ∙ ap (λ t. cond t (Some (Link l.text)) o) is)

-- ---- changes that are kept

keep : Parts → Option Node → Option (Option Node) → Option (Option Node)
keep q there None = None
keep q there (Some node) = option_map (λ (c : Change). c.node) (kept_change q there node)

-- what is kept stands at the same path
flag_path : (p : Parts) (exec : Bool) (there : Option Node) (d : Change) → changed_flag p exec there ≡ Some d → d.path ≡ p
flag_path p exec None d e = cc
flag_path p exec (Some (File bytes was)) d e = by (differs exec was) e
  where
    by : (b : Bool) → ◌≡◌ {A = Option Change} (cond b (Some (record { path = p; node = Some (File bytes exec) })) None) (Some d) → d.path ≡ p
    by true e = ap (λ (c : Change). c.path) (sym (same_Some (record { path = p; node = Some (File bytes exec) }) d e))
    by false e = cc
flag_path p exec (Some (Dir names)) d e = cc
flag_path p exec (Some (Link text)) d e = cc

kept_path : (p : Parts) (there node : Option Node) (d : Change) → kept_change p there node ≡ Some d → d.path ≡ p
kept_path p there None d e = ap (λ (c : Change). c.path) (sym (same_Some (record { path = p; node = None }) d e))
kept_path p there (Some (File bytes exec)) d e = flag_path p exec there d e
kept_path p there (Some (Dir names)) d e = ap (λ (c : Change). c.path) (sym (same_Some (record { path = p; node = Some (Dir names) }) d e))
kept_path p there (Some (Link text)) d e = ap (λ (c : Change). c.path) (sym (same_Some (record { path = p; node = Some (Link text) }) d e))

module _ (nodes : Nodes) where
  kept_at : (cs : List Change) (q : Parts) → IsChanges cs → change_at (kept_of nodes cs) q ≡ keep q (get nodes q) (change_at cs q)
  unfolding IsStrictlySortedBy keep
  kept_at [] q up = refl
  kept_at (c ∷ cs) q up = by (kept_change c.path (get nodes c.path) c.node) refl (eq_by_cmp path_cmp q c.path) refl (kept_at cs q up.1)
    where
      none : eq_by_cmp path_cmp q c.path ≡ true → change_at cs q ≡ None
      none same = ap (change_at cs) (path_eq_same q c.path same) ∙ none_above cs c.path up.0

      here : eq_by_cmp path_cmp q c.path ≡ true → keep q (get nodes q) (Some c.node) ≡ option_map (λ (d : Change). d.node) (kept_change c.path (get nodes c.path) c.node)
      here same = ap (λ p. option_map (λ (d : Change). d.node) (kept_change p (get nodes p) c.node)) (path_eq_same q c.path same)

      by : (o : Option Change) → kept_change c.path (get nodes c.path) c.node ≡ o → (b : Bool) → eq_by_cmp path_cmp q c.path ≡ b → change_at (kept_of nodes cs) q ≡ keep q (get nodes q) (change_at cs q) → change_at (cons_option o (kept_of nodes cs)) q ≡ keep q (get nodes q) (cond b (Some c.node) (change_at cs q))
      by None kept true same rest = rest ∙ (ap (keep q (get nodes q)) (none same) ∙ sym (here same ∙ ap (option_map (λ (d : Change). d.node)) kept))
      by None kept false other rest = rest
      by (Some d) kept true same rest =
          ap (λ p. cond (eq_by_cmp path_cmp q p) (Some d.node) (change_at (kept_of nodes cs) q)) (kept_path c.path (get nodes c.path) c.node d kept)
          ∙ (ap (λ b. cond b (Some d.node) (change_at (kept_of nodes cs) q)) same ∙ sym (here same ∙ ap (option_map (λ (d : Change). d.node)) kept))
      by (Some d) kept false other rest =
          ap (λ p. cond (eq_by_cmp path_cmp q p) (Some d.node) (change_at (kept_of nodes cs) q)) (kept_path c.path (get nodes c.path) c.node d kept)
          ∙ (ap (λ b. cond b (Some d.node) (change_at (kept_of nodes cs) q)) other ∙ rest)

  all_kept : (p : Parts) (cs : List Change) → AllByRecursion (λ q. path_cmp p q ≡ Less) (changed_paths cs) → AllByRecursion (λ q. path_cmp p q ≡ Less) (changed_paths (kept_of nodes cs))
  all_kept p [] all = tt
  all_kept p (c ∷ cs) all = by (kept_change c.path (get nodes c.path) c.node) refl (all_kept p cs all.1)
    where
      by : (o : Option Change) → kept_change c.path (get nodes c.path) c.node ≡ o → AllByRecursion (λ q. path_cmp p q ≡ Less) (changed_paths (kept_of nodes cs)) → AllByRecursion (λ q. path_cmp p q ≡ Less) (changed_paths (cons_option o (kept_of nodes cs)))
      by None kept rest = rest
      by (Some d) kept rest = (ap (path_cmp p) (kept_path c.path (get nodes c.path) c.node d kept) ∙ all.0, rest)

  kept_ascends : (cs : List Change) → IsChanges cs → IsChanges (kept_of nodes cs)
  unfolding IsStrictlySortedBy
  kept_ascends [] up = tt
  kept_ascends (c ∷ cs) up = by (kept_change c.path (get nodes c.path) c.node) refl (all_kept c.path cs up.0) (kept_ascends cs up.1)
    where
      by : (o : Option Change) → kept_change c.path (get nodes c.path) c.node ≡ o → AllByRecursion (λ q. path_cmp c.path q ≡ Less) (changed_paths (kept_of nodes cs)) → IsChanges (kept_of nodes cs) → IsChanges (cons_option o (kept_of nodes cs))
      by None kept above rest = rest
      by (Some d) kept above rest = (subst (λ p. AllByRecursion (λ q. path_cmp p q ≡ Less) (changed_paths (kept_of nodes cs))) (sym (kept_path c.path (get nodes c.path) c.node d kept)) above, rest)

pub kept_push : (nodes : Nodes) (cs kept new : List Change) (c : Change) → kept ≡ kept_of nodes cs → Keeps nodes c kept new → new ≡ kept_of nodes (cs ++ c ∷ [])
kept_push nodes cs kept new c is keeps =
    keeps ∙ (ap (λ l. l ++ cons_option (kept_change c.path (get nodes c.path) c.node) []) is ∙ sym (filter_map-append (λ (d : Change). kept_change d.path (get nodes d.path) d.node) cs (c ∷ [])))

-- ---- a whole filestore has a shape

pub bytes_linked : (fs : List Mapped) (links : List TableLink) → AreOfBytes (found fs) → AreOfBytes (found (with_links fs links))
bytes_linked fs [] held = held
bytes_linked fs (k ∷ links) held = bytes_linked (put path_cmp k.path (Link k.text) fs) links (λ q. subst (λ o. IfSome o IsOfBytes) (sym (find_linked fs k q)) (by (eq_by_cmp path_cmp q k.path) q))
  where
    by : (b : Bool) (q : Parts) → IfSome (cond b (Some (Link k.text)) (found fs q)) IsOfBytes
    by true q = tt
    by false q = held q

module _ (nodes : Nodes) (whole : IsWhole (get nodes)) where
  abbrev es : List Mapped
  es = entries nodes

  at : (q : Parts) → get nodes q ≡ found es q
  at q = get-entries nodes q

  store_is : get nodes ≡ found es
  store_is = λ i q. at q i

  dir_lists : (o : Option Node) (name : List ℕ) → lists o name ≡ true → is_dir o ≡ true
  dir_lists None name e = e
  dir_lists (Some (File bytes exec)) name e = e
  dir_lists (Some (Dir names)) name e = refl
  dir_lists (Some (Link text)) name e = e

  leaf_of : (p : Parts) (o : Option Node) → IfSome o (IsNode p) → IfSome o IsNodeBounded
  leaf_of p None is = tt
  leaf_of p (Some (File bytes exec)) is = is.short
  leaf_of p (Some (Dir names)) is = tt
  leaf_of p (Some (Link text)) is = is

  bytes_of : (p : Parts) (o : Option Node) → IfSome o (IsNode p) → IfSome o IsOfBytes
  bytes_of p None is = tt
  bytes_of p (Some (File bytes exec)) is = is.bytes
  bytes_of p (Some (Dir names)) is = tt
  bytes_of p (Some (Link text)) is = tt

  shape : IsTreeShaped (get nodes)
  shape = record {
    root = ap is_dir whole.root.1;
    above = λ path name some. dir_lists (get nodes path) name (sym (whole.listed path name) ∙ some);
    paths = whole.paths;
    leaves = λ path. leaf_of path (get nodes path) (whole.nodes path);
  }

  linked : IsLinked (get nodes) es
  linked = record { sorted = entries_sorted nodes; shape = subst IsTreeShaped store_is shape; dirs = λ q. ap is_dir (sym (at q)) }

  module _ (lines : List Change) (are : AreLines (setting (get nodes) true) lines) where
    abbrev ls : List TableLine
    ls = lines_in lines

    abbrev ks : List TableLink
    ks = links_among ls

    abbrev E : List Mapped
    E = with_lines es ls

    abbrev B : List Mapped
    B = with_lines (map bare es) ls

    made : IsLinked (get nodes) E
    made = lines_made (get nodes) true ls are.table es linked

    bytes : AreOfBytes (found E)
    bytes = bytes_linked (with_flags es ls) ks (bytes_flags es ls (λ q. subst (λ o. IfSome o IsOfBytes) (at q) (bytes_of q (get nodes q) (whole.nodes q))))

    up : IsStrictlySortedBy path_cmp (keys_of E)
    up = strictly_sorted path_cmp E made.sorted

    keys : keys_of B ≡ keys_of E
    keys = keys_linked (with_flags (map bare es) ls) (with_flags es ls) ks (keys_flags (map bare es) ls ∙ (keys_bare es ∙ sym (keys_flags es ls)))

    pub bare_set : (cs : List Change) → cs ≡ changes_of (map bare es) → cs ≡ changes_of (mapped_of cs)
    bare_set cs is = is ∙ ap changes_of (sym (ap mapped_of is ∙ mapped_changes (map bare es)))

    free_bare : (q : Parts) → found es q ≡ None → found (map bare es) q ≡ None
    free_bare q none = find_bare es q ∙ ap (option_map emptied_node) none

    apart : (links : List TableLink) → AllByRecursion (λ (l : TableLink). find path_cmp l.path es ≡ None) links → AllByRecursion (λ (l : TableLink). find path_cmp l.path (map bare es) ≡ None) links
    apart [] all = tt
    apart (k ∷ links) all = (free_bare k.path all.0, apart links all.1)

    pub bare_merge : (cs : List Change) → cs ≡ changes_of (map bare es) → CanMerge (mapped_of cs) (links_among (lines_in lines))
    bare_merge cs is =
        let can = lines_merge (get nodes) true ls are.table es at in
        subst (λ l. CanMerge l (links_among (lines_in lines))) (sym (ap mapped_of is ∙ mapped_changes (map bare es))) (record {
          apart = apart (links_among (lines_in lines)) can.apart;
          ascending = can.ascending;
        })

    pub bare_sets : (all : List Change) → all ≡ changes_of B → HaveNameSets (mapped_of all)
    bare_sets all is = subst HaveNameSets (sym (ap mapped_of is ∙ mapped_changes B)) (record {
      ascending = subst (IsStrictlySortedBy path_cmp) (sym keys) up;
      sets = λ path. subst IsNameSet (sym (same_names B E path keys)) (is_set E up made.shape bytes path).0;
    })

    pub all_is : (cs all : List Change) → cs ≡ changes_of (map bare es) → all ≡ changes_of (with_lines (mapped_of cs) (lines_in lines)) → all ≡ changes_of B
    all_is cs all is more = more ∙ ap (λ l. changes_of (with_lines l (lines_in lines))) (ap mapped_of is ∙ mapped_changes (map bare es))

    pub all_set : (cs all : List Change) → cs ≡ changes_of (map bare es) → all ≡ changes_of (with_lines (mapped_of cs) (lines_in lines)) → all ≡ changes_of (mapped_of all)
    all_set cs all is more = let so = all_is cs all is more in so ∙ ap changes_of (sym (ap mapped_of so ∙ mapped_changes B))

    pub all_listed : (cs all new : List Change) → cs ≡ changes_of (map bare es) → all ≡ changes_of (with_lines (mapped_of cs) (lines_in lines)) → new ≡ changes_of (listed (mapped_of all)) → new ≡ changes_of (listed B)
    all_listed cs all new is more lists = let so = all_is cs all is more in lists ∙ ap (λ l. changes_of (listed l)) (ap mapped_of so ∙ mapped_changes B)

    all_ascend : IsChanges (changes_of (listed B))
    all_ascend = subst (IsStrictlySortedBy path_cmp) (sym (paths_of (listed B) ∙ (keys_with B B ∙ keys))) up

    pub kept_ascend : (all kept : List Change) → all ≡ changes_of (listed B) → kept ≡ kept_of nodes all → IsChanges kept
    kept_ascend all kept is filtered = subst IsChanges (sym (filtered ∙ ap (kept_of nodes) is)) (kept_ascends nodes (changes_of (listed B)) all_ascend)

    -- what the bare entries hold at a path once the lines are set
    bare_at : (q : Parts) → found B q ≡ link_over q ks (with_exec (flag_at ls q) (option_map emptied_node (found es q)))
    bare_at q = find_over (with_flags (map bare es) ls) ks q ∙ ap (link_over q ks) (find_flags (map bare es) ls q ∙ ap (with_exec (flag_at ls q)) (find_bare es q))

    full_at : (q : Parts) → found E q ≡ link_over q ks (with_exec (flag_at ls q) (found es q))
    full_at q = find_over (with_flags es ls) ks q ∙ ap (link_over q ks) (find_flags es ls q)

    -- what the changes make at a path
    abbrev made_over : Parts → Option Node → Option (Option Node)
    made_over q o = keep q o (option_map Some (option_map (relisted B q) (link_over q ks (with_exec (flag_at ls q) (option_map emptied_node o)))))

    made_at : (q : Parts) → change_at (kept_of nodes (changes_of (listed B))) q ≡ made_over q (found es q)
    made_at q =
        kept_at nodes (changes_of (listed B)) q all_ascend
        ∙ (ap (keep q (get nodes q)) (set_at (listed B) q ∙ ap (option_map Some) (find_listed B B q ∙ ap (option_map (relisted B q)) (bare_at q)))
        ∙ ap (λ o. keep q o (option_map Some (option_map (relisted B q) (link_over q ks (with_exec (flag_at ls q) (option_map emptied_node (found es q))))))) (at q))

    flagged : (q : Parts) (content : List ℕ) (exec was : Bool) → unwrap_or (option_map (λ (c : Change). c.node) (cond (differs exec was) (Some (record { path = q; node = Some (File content exec) })) None)) (Some (File content was)) ≡ Some (File content exec)
    flagged q content true true = refl
    flagged q content true false = refl
    flagged q content false true = refl
    flagged q content false false = refl

    plain : (q : Parts) (exec : Bool) (o : Option Node) → unwrap_or (keep q o (option_map Some (option_map (relisted B q) (with_exec exec (option_map emptied_node o))))) o ≡ option_map (relisted E q) (with_exec exec o)
    unfolding keep
    plain q exec None = refl
    plain q exec (Some (File content was)) = flagged q content exec was
    plain q exec (Some (Dir names)) = ap (λ ns. Some (Dir ns)) (same_names B E q keys)
    plain q exec (Some (Link text)) = refl

    linked_at : (q : Parts) (o : Option Node) → IsOver q ks → unwrap_or (made_over q o) o ≡ option_map (relisted E q) (link_over q ks (with_exec (flag_at ls q) o))
    unfolding keep
    linked_at q o (inl over) =
        ap (λ x. unwrap_or (keep q o (option_map Some (option_map (relisted B q) x))) o) (over.1 (with_exec (flag_at ls q) (option_map emptied_node o)))
        ∙ sym (ap (option_map (relisted E q)) (over.1 (with_exec (flag_at ls q) o)))
    linked_at q o (inr same) =
        ap (λ x. unwrap_or (keep q o (option_map Some (option_map (relisted B q) x))) o) (same (with_exec (flag_at ls q) (option_map emptied_node o)))
        ∙ (plain q (flag_at ls q) o ∙ sym (ap (option_map (relisted E q)) (same (with_exec (flag_at ls q) o))))

    pub makes_lines : (all kept : List Change) → all ≡ changes_of (listed B) → kept ≡ kept_of nodes all → over_nodes nodes kept ≡ linked_nodes nodes (lines_in lines)
    makes_lines all kept is filtered =
        ap (over_nodes nodes) (filtered ∙ ap (kept_of nodes) is)
        ∙ same_nodes (over_nodes nodes (kept_of nodes (changes_of (listed B)))) (linked_nodes nodes ls) (λ q.
        get-over_nodes nodes (kept_of nodes (changes_of (listed B))) q
        ∙ (over-change_at (get nodes) (kept_of nodes (changes_of (listed B))) (kept_ascends nodes (changes_of (listed B)) all_ascend) q
        ∙ (ap (λ o. unwrap_or o (get nodes q)) (made_at q)
        ∙ (ap (λ o. unwrap_or (made_over q (found es q)) o) (at q)
        ∙ (linked_at q (found es q) (over_cases q ks)
        ∙ (ap (option_map (relisted E q)) (sym (full_at q)) ∙ (sym (find_listed E E q) ∙ sym (get-from_entries path_total (listed E) q))))))))

-- ---- there is always room

spelled_some : (b : ℕ) → 1 ≤ length (spelled b)
spelled_some b = by (is_plain_byte b) (digit_glyph true (b / 16)) (digit_glyph true (b % 16))
  where
    by : (t : Bool) (x y : ℕ) → 1 ≤ length (cond t (b ∷ []) (37 ∷ x ∷ y ∷ []))
    by true x y = omega arith
    by false x y = omega arith

spelling_long : (bs : List ℕ) → length bs ≤ length (spelling bs)
spelling_long [] = omega arith
spelling_long (b ∷ bs) = omega (arith, length-append (spelled b) (spelling bs), spelled_some b, spelling_long bs)

-- a text has room for as many links as it has bytes, and for what their texts hold
record HasRoom (n : ℕ) (links : List TableLink) : Type 0 where
  count : length links ≤ n
  texts : link_bytes links ≤ n

lines_room : (ls : List TableLine) → HasRoom (length (lines_text ls)) (links_among ls)
lines_room [] = record { count = omega arith; texts = omega arith }
lines_room (l ∷ ls) =
    by l.path l.mark (lines_room ls) (omega (arith, length-append (line_of l ++ 10 ∷ []) (lines_text ls), length-append (line_of l) (10 ∷ []), length-append (spelling (path_text l.path)) (mark_text l.mark)))
  where
    by : (p : Parts) (mark : Mark) → HasRoom (length (lines_text ls)) (links_among ls) → length (mark_text mark) + length (lines_text ls) < length (lines_text (l ∷ ls)) → HasRoom (length (lines_text (l ∷ ls))) (cons_option (link_in_line p mark) (links_among ls))
    by p (Target text) room long = record {
      count = omega (arith, room.count, long);
      texts = omega (arith, room.texts, long, length-append (codes " -> ") (spelling text), spelling_long text, sum_by-cons (λ (k : TableLink). length k.text) (record { path = p; text = text }) (links_among ls));
    }
    by p Executable room long = record { count = omega (arith, room.count, long); texts = omega (arith, room.texts, long) }

never_over : (n a b : ℕ) → a ≤ n → b ≤ n → (nat_lt n a || nat_lt n b) ≡ true → ⊥
never_over n a b p q e = grind (arith, nat_tests)

body_short : (text : List ℕ) → length (body_of text) ≤ length text
body_short text = by (is_second text)
  where
    by : (b : Bool) → length (cond b (drop 10 text) text) ≤ length text
    by true = omega (arith, length-drop 10 text)
    by false = omega arith

pub table_caused : (nodes : Nodes) (text : List ℕ) (room : Room) (fault : LoadFault) → room.links ≡ length text → room.bytes ≡ length text → LinesCause (get nodes) room text fault → TableCause nodes text fault
table_caused nodes text room (Refused (BadName place)) a b why = why
table_caused nodes text room (Refused (Strange place)) a b why = why
table_caused nodes text room (Refused (TooLarge place)) a b why =
    let ls = why.1.lines in
    let ks = links_among ls in
    let long : length (body_of text) ≡ length (lines_text ls) + length why.1.front.rest = ap length why.1.front.parts ∙ length-append (lines_text ls) why.1.front.rest in
    let fits = lines_room ls in
    never_over (length text) (length ks) (link_bytes ks) (omega (arith, long, body_short text, fits.count)) (omega (arith, long, body_short text, fits.texts))
    (ap (λ n. nat_lt n (length ks) || nat_lt (length text) (link_bytes ks)) (sym a) ∙ (ap (λ n. nat_lt room.links (length ks) || nat_lt n (link_bytes ks)) (sym b) ∙ why.1.many))
table_caused nodes text room (Refused (BadTable n)) a b why = bad_read (get nodes) text n why.first
table_caused nodes text room ReadFault a b why = why
table_caused nodes text room NoMemory a b why = tt

pub table_made : (nodes : Nodes) (text : List ℕ) (room : Room) (lines changes : List Change) → ReadsAll (get nodes) room text lines → over_nodes nodes changes ≡ linked_nodes nodes (lines_in lines) → MakesTable nodes text changes
table_made nodes text room lines changes reads made = record {
  lines = lines_in lines;
  read = ap (read_table (get nodes)) reads.whole ∙ tables_are_read (get nodes) (lines_in lines) reads.are.table;
  made = made;
}
