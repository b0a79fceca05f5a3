-- The first of a filestore's nodes in a host's tree: one after another, and what stands there once the writing ends.
use Rattle.fx_folder.proofs.Prelude.{◌≡◌, ◌⊎◌, inl, inr, ℕ, Bool, true, false, cond, ◌&&◌, ◌||◌, T, List, [], ◌∷◌, ◌++◌, is_none, is_some, Option, Some, None, IsSome, IsTrue, refl, sym, ◌∙◌, ap, subst, append_assoc, append-nil, Less, is_eq, is_lt, eq_by_cmp, tied_itself, texts_ties, option_map_or, option_or, entries, entries_sorted, get, get-entries, get-insert, insert, find, is_sorted, below_all, find-append, cases_Bool, false≢true, All-head, same_Some, then_greater, then_equal_ties, not_before_itself, above_pushed, same_front, path_is, Node, Dir, path_cmp, is_name, IsName, Nodes, listing_is_dir, rest_is, Parts, parts, parts_cmp, above, is_fit, Tree, Entry, folder, has_folder, is_folder_kind, is_free, is_free_at, both, first, second, is_less, less_test, parts_total, host_entry, rest_of, table_name, lines_of, folder_entry, is_table_place, table_entry, IsReady, IsSaved, IsPartOf, IsPartlySaved, IsFrontOf, entry_or, is_written_before, with_folder, MadePart, IsOpen, with_entry, WrotePart, HasEntries, WroteFront, no_rest, not_at, find_append, root_first, none_if_never, Out}
use Rattle.fx_store.specs.Names.{name_cmp}
use Rattle.fx_store.specs.Whole.{IsWhole}
use Rattle.fx_outside.specs.Tree as tree
use Rattle.fx_folder.proofs.Filled.{beside_folder, opens}
use Rattle.fx_folder.proofs.Items.{reserved}
use Rattle.fx_folder.proofs.Ordered.{none_behind, sorted_end, or_none, last_of}

abbrev Path : Type 0
Path = List (List ℕ)

abbrev Mapped : Type 0
Mapped = Path × Node

-- lists in order

below_less : (x y : Path) (es : List Mapped) → path_cmp x y ≡ Less → T (below_all path_cmp y es) → T (below_all path_cmp x es)
below_less x y [] less h = tt
below_less x y (e ∷ es) less h =
    both (is_lt (path_cmp x e.0)) _ (less_test _ (parts_total.trans x y e.0 less (is_less _ (first (is_lt (path_cmp y e.0)) _ h))))
    (below_less x y es less (second (is_lt (path_cmp y e.0)) _ h))

below_later : (x : Path) (es fs : List Mapped) → T (below_all path_cmp x (es ++ fs)) → T (below_all path_cmp x fs)
below_later x [] fs h = h
below_later x (e ∷ es) fs h = below_later x es fs (second (is_lt (path_cmp x e.0)) _ h)

before_later : (es fs : List Mapped) (q : Path) (x : Node) → T (is_sorted path_cmp (es ++ fs)) → find path_cmp q es ≡ Some x → T (below_all path_cmp q fs)
before_later [] fs q x h found = cc
before_later (e ∷ es) fs q x h found = elim (cases_Bool (eq_by_cmp path_cmp q e.0)) [
  | inl same ↦
      subst (λ y. T (below_all path_cmp y fs)) (sym (path_is q e.0 same)) (below_later e.0 es fs (first (below_all path_cmp e.0 (es ++ fs)) _ h))
  | inr apart ↦
      before_later es fs q x (second (below_all path_cmp e.0 (es ++ fs)) _ h) (ap (λ b. cond b (Some e.1) (find path_cmp q es)) (sym apart) ∙ found)
]

module _ (nodes : Nodes) (done left : List Mapped) (split : entries nodes ≡ done ++ left) where
  in_order : T (is_sorted path_cmp (done ++ left))
  in_order = subst (λ es. T (is_sorted path_cmp es)) split (entries_sorted nodes)

  in_either : (q : Path) → get nodes q ≡ option_or (find path_cmp q done) (find path_cmp q left)
  in_either q = get-entries nodes q ∙ ap (find path_cmp q) split ∙ find_append q done left

  -- a node of the front is one of the filestore
  pub in_front : (q : Path) (x : Node) → find path_cmp q done ≡ Some x → get nodes q ≡ Some x
  in_front q x found = in_either q ∙ ap (λ o. option_or o (find path_cmp q left)) found

  before_left : (q : Path) (x : Node) → get nodes q ≡ Some x → T (below_all path_cmp q left) → find path_cmp q done ≡ Some x
  before_left q x is below =
      sym (or_none (find path_cmp q done)) ∙ ap (option_or (find path_cmp q done)) (sym (none_behind q left below)) ∙ sym (in_either q) ∙ is

  -- a node before one of the front is of the front
  pub before_front : (b q : Path) (x y : Node) → find path_cmp q done ≡ Some x → path_cmp b q ≡ Less → get nodes b ≡ Some y → find path_cmp b done ≡ Some y
  before_front b q x y found less is = before_left b y is (below_less b q left less (before_later done left q x in_order found))

module _ (nodes : Nodes) (done rest : List Mapped) (path : Path) (node : Node) (split : entries nodes ≡ done ++ (path, node) ∷ rest) where
  -- the next node is not among them
  pub fresh : find path_cmp path done ≡ None
  fresh = none_if_never _ λ x e.
      let below = before_later done ((path, node) ∷ rest) path x (in_order nodes done ((path, node) ∷ rest) split) e in
      not_before_itself path (is_less _ (first (is_lt (path_cmp path path)) _ below))

  -- a node before it is
  pub before_next : (b : Path) (y : Node) → path_cmp b path ≡ Less → get nodes b ≡ Some y → find path_cmp b done ≡ Some y
  before_next b y less is =
      let sorted = sorted_end done ((path, node) ∷ rest) (in_order nodes done ((path, node) ∷ rest) split) in
      before_left nodes done ((path, node) ∷ rest) split b y is
      (both (is_lt (path_cmp b path)) _ (less_test _ less) (below_less b path rest less (first (below_all path_cmp path rest) _ sorted)))

  pub the_next : get nodes path ≡ Some node
  the_next =
      in_either nodes done ((path, node) ∷ rest) split path ∙ ap (λ o. option_or o (find path_cmp path ((path, node) ∷ rest))) fresh
      ∙ ap (λ b. cond b (Some node) (find path_cmp path rest)) (ap is_eq (tied_itself parts_total path))

-- entries of the tree

same_place : (at p q : Parts) → eq_by_cmp parts_cmp (at ++ p) (at ++ q) ≡ eq_by_cmp path_cmp p q
same_place at p q = ap is_eq (same_front at p q)

-- a tree with an entry more
get_with : (t : Tree) (k : Parts) (o : Option Entry) (q : Parts) → get (with_entry t k o) q ≡ cond (eq_by_cmp parts_cmp q k) (option_or o (get t q)) (get t q)
get_with t k None q = elim (eq_by_cmp parts_cmp q k) as (λ b. get t q ≡ cond b (get t q) (get t q)) [ true ↦ refl | false ↦ refl ]
get_with t k (Some e) q = get-insert parts_total t k e q

get_apart : (t : Tree) (k : Parts) (o : Option Entry) (q : Parts) → eq_by_cmp parts_cmp q k ≡ false → get (with_entry t k o) q ≡ get t q
get_apart t k o q apart = get_with t k o q ∙ ap (λ b. cond b (option_or o (get t q)) (get t q)) apart

begins_inside : (t : Tree) (path : List ℕ) (names : List (List ℕ)) → IsOpen t path → (p : Parts) → get t (parts path ++ p) ≡ host_entry (find path_cmp p (([], Dir names) ∷ []))
begins_inside t path names is [] = ap (get t) (append-nil (parts path)) ∙ is.folder
begins_inside t path names is (a ∷ r) = is.empty a r

-- the folder alone
pub begins : (t : Tree) (path : List ℕ) (names : List (List ℕ)) → IsOpen t path → HasEntries t t (parts path) (([], Dir names) ∷ [])
begins t path names is = record { outside = λ q none. refl; inside = begins_inside t path names is }

-- one node more
pub adds : (t u v : Tree) (at : Parts) (done : List Mapped) (path : Path) (node : Node) → HasEntries t u at done → find path_cmp path done ≡ None → v ≡ with_entry u (at ++ path) (host_entry (Some node)) → HasEntries t v at (done ++ (path, node) ∷ [])
adds t u v at done path node has none added = record {
  outside = λ q miss. ap (λ x. get x q) added ∙ get_apart u (at ++ path) (host_entry (Some node)) q (no_rest at q path miss) ∙ has.outside q miss;
  inside = λ p.
      ap (λ x. get x (at ++ p)) added ∙ get_with u (at ++ path) (host_entry (Some node)) (at ++ p)
      ∙ ap (λ o. cond (eq_by_cmp parts_cmp (at ++ p) (at ++ path)) (option_or (host_entry (Some node)) o) o) (has.inside p)
      ∙ ap (λ b. cond b (option_or (host_entry (Some node)) (host_entry (find path_cmp p done))) (host_entry (find path_cmp p done))) (same_place at p path)
      ∙ one_more p ∙ sym (ap host_entry (find-append path_cmp parts_total done path node p none));
}
  where
    one_more : (p : Path) → cond (eq_by_cmp path_cmp p path) (option_or (host_entry (Some node)) (host_entry (find path_cmp p done))) (host_entry (find path_cmp p done)) ≡ host_entry (cond (eq_by_cmp path_cmp p path) (Some node) (find path_cmp p done))
    one_more p = elim (cases_Bool (eq_by_cmp path_cmp p path)) [
      | inl same ↦
          let gone : find path_cmp p done ≡ None = ap (λ q. find path_cmp q done) (path_is p path same) ∙ none in
          ap (λ b. cond b (option_or (host_entry (Some node)) (host_entry (find path_cmp p done))) (host_entry (find path_cmp p done))) same
          ∙ ap (λ o. option_or (host_entry (Some node)) (host_entry o)) gone ∙ or_none (host_entry (Some node))
          ∙ sym (ap (λ b. host_entry (cond b (Some node) (find path_cmp p done))) same)
      | inr apart ↦
          ap (λ b. cond b (option_or (host_entry (Some node)) (host_entry (find path_cmp p done))) (host_entry (find path_cmp p done))) apart
          ∙ sym (ap (λ b. host_entry (cond b (Some node) (find path_cmp p done))) apart)
    ]

-- what was there before the folder was made
pub from_old : (t0 t u : Tree) (at : Parts) (there : Out) (es : List Mapped) → t ≡ with_folder t0 at there → HasEntries t u at es → HasEntries t0 u at es
from_old t0 t u at there es made has = record {
  outside = λ q miss. has.outside q miss ∙ ap (λ x. get x q) made ∙ beside_folder t0 at there q (not_at at q miss);
  inside = has.inside;
}

-- the place of the table

pub no_table : (nodes : Nodes) → IsWhole (get nodes) → get nodes (table_name ∷ []) ≡ None
no_table nodes whole = none_if_never _ λ node e.
    let path = whole.paths (table_name ∷ []) (ap is_some e) in
    let valid : is_name table_name ≡ true = All-head IsName table_name [] path.names in
    false≢true (sym reserved ∙ valid)

table_place : (p : Parts) → eq_by_cmp path_cmp p (table_name ∷ []) ≡ is_table_place p
table_place [] = refl
table_place (n ∷ []) = then_equal_ties (name_cmp n table_name) ∙ sym (texts_ties n table_name)
table_place (n ∷ m ∷ p) = then_greater (name_cmp n table_name)

-- a place with a node is not that of the table
node_place : (nodes : Nodes) → IsWhole (get nodes) → (p : Parts) (node : Node) → get nodes p ≡ Some node → is_table_place p ≡ false
node_place nodes whole p node here = elim (cases_Bool (is_table_place p)) [
  | inl table ↦
      let it : p ≡ table_name ∷ [] = path_is p (table_name ∷ []) (table_place p ∙ table) in
      let none : get nodes p ≡ None = ap (get nodes) it ∙ no_table nodes whole in
      cc
  | inr other ↦ other
]

-- what stands for a node of the filestore
node_entry : (nodes : Nodes) → IsWhole (get nodes) → (p : Parts) (node : Node) → get nodes p ≡ Some node → folder_entry nodes p ≡ host_entry (Some node)
node_entry nodes whole p node here =
    ap (λ b. cond b (table_entry (lines_of nodes)) (host_entry (get nodes p))) (node_place nodes whole p node here) ∙ ap host_entry here

pub some_of : (o : Option Node) (e : Entry) → host_entry o ≡ Some e → (node : Node) × (o ≡ Some node)
some_of None e is = cc
some_of (Some node) e is = (node, refl)

not_table : (p q : Parts) → IsTrue (is_written_before p q) → is_table_place p ≡ false
not_table p q h = go (is_table_place p) refl
  where
    go : (b : Bool) → is_table_place p ≡ b → b ≡ false
    go false e = refl
    go true e = let miss : is_written_before p q ≡ false = ap (λ b. cond b false (is_table_place q || is_lt (parts_cmp p q))) e in absurd (false≢true (sym miss ∙ h))

in_path_order : (p q : Parts) → is_table_place q ≡ false → IsTrue (is_written_before p q) → path_cmp p q ≡ Less
in_path_order p q other h =
    let test : is_written_before p q ≡ is_lt (parts_cmp p q) =
    ap (λ b. cond b false (is_table_place q || is_lt (parts_cmp p q))) (not_table p q h) ∙ ap (λ b. b || is_lt (parts_cmp p q)) other in
    is_less _ (subst T (sym h ∙ test) tt)

-- a front of the nodes is a part of the folder

module _ (nodes : Nodes) (whole : IsWhole (get nodes)) (t u : Tree) (at : Parts) where
  inside_front : (done left : List Mapped) → entries nodes ≡ done ++ left → HasEntries t u at done → (p : Parts) (e : Entry) → get u (at ++ p) ≡ Some e → (node : Node) × (find path_cmp p done ≡ Some node) × (folder_entry nodes p ≡ Some e)
  inside_front done left split has p e here =
      let stands : host_entry (find path_cmp p done) ≡ Some e = sym (has.inside p) ∙ here in
      let some = some_of (find path_cmp p done) e stands in
      (some.0, some.1, node_entry nodes whole p some.0 (in_front nodes done left split p some.0 some.1) ∙ ap host_entry (sym some.1) ∙ stands)

  -- what stands for a node is a node's, where it is not the table
  node_of : (b : Parts) (w : Entry) → is_table_place b ≡ false → folder_entry nodes b ≡ Some w → (y : Node) × (get nodes b ≡ Some y) × (host_entry (Some y) ≡ Some w)
  node_of b w other has_w =
      let entry : host_entry (get nodes b) ≡ Some w = sym (ap (λ c. cond c (table_entry (lines_of nodes)) (host_entry (get nodes b))) other) ∙ has_w in
      let some = some_of (get nodes b) w entry in
      (some.0, some.1, ap host_entry (sym some.1) ∙ entry)

  -- what is written before a node of the front stands there
  front_before : (done left : List Mapped) → entries nodes ≡ done ++ left → HasEntries t u at done → (p b : Parts) (node : Node) (w : Entry) → find path_cmp p done ≡ Some node → IsTrue (is_written_before b p) → folder_entry nodes b ≡ Some w → (y : Node) × (find path_cmp b done ≡ Some y) × (get u (at ++ b) ≡ Some w)
  front_before done left split has p b node w found before has_w =
      let y = node_of b w (not_table b p before) has_w in
      let other = node_place nodes whole p node (in_front nodes done left split p node found) in
      let there = before_front nodes done left split b p node y.0 found (in_path_order b p other before) y.1 in
      (y.0, there, has.inside b ∙ ap host_entry there ∙ y.2)

  pub front_part : (done left : List Mapped) → entries nodes ≡ done ++ left → HasEntries t u at done → (last : Parts) → IsPartOf t u at nodes last
  front_part done left split has last = record {
    outside = has.outside;
    inside = λ p e here. let is = inside_front done left split has p e here in (e, is.2, inl refl);
    ordered = λ p b e w here before has_w. (front_before done left split has p b (inside_front done left split has p e here).0 w (inside_front done left split has p e here).1 before has_w).2;
  }

  -- an entry more, or a front of it, where all that is written before it stands there
  put_part : (last : Parts) (v : Tree) (e whole_e : Entry) → folder_entry nodes last ≡ Some whole_e → (e ≡ whole_e) ⊎ IsFrontOf e whole_e → v ≡ insert u (at ++ last) e → ((q : Parts) → rest_of at q ≡ None → get u q ≡ get t q)
      → ((p : Parts) (d : Entry) → eq_by_cmp path_cmp p last ≡ false → get u (at ++ p) ≡ Some d → folder_entry nodes p ≡ Some d)
      → ((p b : Parts) (d w : Entry) → (eq_by_cmp path_cmp p last ≡ true) ⊎ (get u (at ++ p) ≡ Some d) → IsTrue (is_written_before b p) → folder_entry nodes b ≡ Some w → (eq_by_cmp path_cmp b last ≡ false) × (get u (at ++ b) ≡ Some w)) → IsPartOf t v at nodes last
  put_part last v e whole_e is front added out others before = record {
    outside = λ q miss. apart q (no_rest at q last miss) ∙ out q miss;
    inside = λ p d here. elim (cases_Bool (eq_by_cmp path_cmp p last)) [
      | inl same ↦ (whole_e, ap (folder_entry nodes) (path_is p last same) ∙ is, at_last p d same here)
      | inr other ↦ (d, others p d other (sym (apart (at ++ p) (same_place at p last ∙ other)) ∙ here), inl refl)
    ];
    ordered = λ p b d w here sooner has_w.
        let there = before p b d w (either p d here) sooner has_w in
        apart (at ++ b) (same_place at b last ∙ there.0) ∙ there.1;
  }
    where
      apart : (q : Parts) → eq_by_cmp parts_cmp q (at ++ last) ≡ false → get v q ≡ get u q
      apart q other = ap (λ x. get x q) added ∙ get_apart u (at ++ last) (Some e) q other

      either : (p : Parts) (d : Entry) → get v (at ++ p) ≡ Some d → (eq_by_cmp path_cmp p last ≡ true) ⊎ (get u (at ++ p) ≡ Some d)
      either p d here = elim (cases_Bool (eq_by_cmp path_cmp p last)) [
        | inl same ↦ inl same
        | inr other ↦ inr (sym (apart (at ++ p) (same_place at p last ∙ other)) ∙ here)
      ]

      at_last : (p : Parts) (d : Entry) → eq_by_cmp path_cmp p last ≡ true → get v (at ++ p) ≡ Some d → (d ≡ whole_e) ⊎ ((p ≡ last) × IsFrontOf d whole_e)
      at_last p d same here =
          let new : get v (at ++ p) ≡ Some e =
          ap (λ x. get x (at ++ p)) added ∙ get-insert parts_total u (at ++ last) e (at ++ p)
          ∙ ap (λ b. cond b (Some e) (get u (at ++ p))) (same_place at p last ∙ same) in
          let it : d ≡ e = same_Some d e (sym here ∙ new) in
          elim front [
            | inl full ↦ inl (it ∙ full)
            | inr part ↦ inr (path_is p last same, subst (λ x. IsFrontOf x whole_e) (sym it) part)
          ]

  -- the next node, or a front of its file
  pub begun_part : (done rest : List Mapped) (path : Parts) (node : Node) → entries nodes ≡ done ++ (path, node) ∷ rest → HasEntries t u at done → (v : Tree) (e whole_e : Entry) → host_entry (Some node) ≡ Some whole_e → (e ≡ whole_e) ⊎ IsFrontOf e whole_e → v ≡ insert u (at ++ path) e → IsPartOf t v at nodes path
  begun_part done rest path node split has v e whole_e is front added =
      put_part path v e whole_e (node_entry nodes whole path node (the_next nodes done rest path node split) ∙ is) front added has.outside
      (λ p d other here. (inside_front done ((path, node) ∷ rest) split has p d here).2)
      (λ p b d w there before has_w. let y = earlier p b d w there before has_w in (beside b y.0 y.1, y.2))
    where
      earlier : (p b : Parts) (d w : Entry) → (eq_by_cmp path_cmp p path ≡ true) ⊎ (get u (at ++ p) ≡ Some d) → IsTrue (is_written_before b p) → folder_entry nodes b ≡ Some w → (y : Node) × (find path_cmp b done ≡ Some y) × (get u (at ++ b) ≡ Some w)
      earlier p b d w (inl same) before has_w =
          let y = node_of b w (not_table b p before) has_w in
          let other = node_place nodes whole path node (the_next nodes done rest path node split) in
          let less : path_cmp b path ≡ Less = in_path_order b path other (subst (λ x. IsTrue (is_written_before b x)) (path_is p path same) before) in
          let there = before_next nodes done rest path node split b y.0 less y.1 in
          (y.0, there, has.inside b ∙ ap host_entry there ∙ y.2)
      earlier p b d w (inr here) before has_w =
          let is = inside_front done ((path, node) ∷ rest) split has p d here in
          front_before done ((path, node) ∷ rest) split has p b is.0 w is.1 before has_w

      beside : (b : Parts) (y : Node) → find path_cmp b done ≡ Some y → eq_by_cmp path_cmp b path ≡ false
      beside b y found = elim (cases_Bool (eq_by_cmp path_cmp b path)) [
        | inl same ↦
            let none : find path_cmp b done ≡ None = ap (λ x. find path_cmp x done) (path_is b path same) ∙ fresh nodes done rest path node split in
            cc
        | inr other ↦ other
      ]

  all_inside : HasEntries t u at (entries nodes) → (p : Parts) → get u (at ++ p) ≡ host_entry (get nodes p)
  all_inside has p = has.inside p ∙ ap host_entry (sym (get-entries nodes p))

  -- all nodes and the table are the folder
  pub all_saved : HasEntries t u at (entries nodes) → (v : Tree) → v ≡ with_entry u (at ++ table_name ∷ []) (table_entry (lines_of nodes)) → IsSaved t v at nodes
  all_saved has v added q = go (rest_of at q) refl
    where
      at_table : (p : Parts) → cond (is_table_place p) (option_or (table_entry (lines_of nodes)) (host_entry (get nodes p))) (host_entry (get nodes p)) ≡ folder_entry nodes p
      at_table p = elim (cases_Bool (is_table_place p)) [
        | inl hit ↦
            let none : get nodes p ≡ None = ap (get nodes) (path_is p (table_name ∷ []) (table_place p ∙ hit)) ∙ no_table nodes whole in
            ap (λ o. cond (is_table_place p) (option_or (table_entry (lines_of nodes)) (host_entry o)) (host_entry (get nodes p))) none
            ∙ ap (λ h. cond (is_table_place p) h (host_entry (get nodes p))) (or_none (table_entry (lines_of nodes)))
        | inr miss ↦
            ap (λ b. cond b (option_or (table_entry (lines_of nodes)) (host_entry (get nodes p))) (host_entry (get nodes p))) miss
            ∙ sym (ap (λ b. cond b (table_entry (lines_of nodes)) (host_entry (get nodes p))) miss)
      ]

      inside : (p : Parts) → get v (at ++ p) ≡ folder_entry nodes p
      inside p =
          ap (λ x. get x (at ++ p)) added ∙ get_with u (at ++ table_name ∷ []) (table_entry (lines_of nodes)) (at ++ p)
          ∙ ap (λ o. cond (eq_by_cmp parts_cmp (at ++ p) (at ++ table_name ∷ [])) (option_or (table_entry (lines_of nodes)) o) o) (all_inside has p)
          ∙ ap (λ b. cond b (option_or (table_entry (lines_of nodes)) (host_entry (get nodes p))) (host_entry (get nodes p))) (same_place at p (table_name ∷ []) ∙ table_place p)
          ∙ at_table p

      go : (o : Option Parts) → rest_of at q ≡ o → get v q ≡ entry_or (get t q) nodes o
      go None none = ap (λ x. get x q) added ∙ get_apart u (at ++ table_name ∷ []) (table_entry (lines_of nodes)) q (no_rest at q (table_name ∷ []) none) ∙ has.outside q none
      go (Some p) some = ap (get v) (rest_is at q p some) ∙ inside p

  -- all nodes, and the table or a front of it
  pub table_part : HasEntries t u at (entries nodes) → (v : Tree) (e whole_e : Entry) → table_entry (lines_of nodes) ≡ Some whole_e → (e ≡ whole_e) ⊎ IsFrontOf e whole_e → v ≡ insert u (at ++ table_name ∷ []) e → IsPartOf t v at nodes (table_name ∷ [])
  table_part has v e whole_e is front added =
      put_part (table_name ∷ []) v e whole_e is front added has.outside
      (λ p d other here. ap (λ b. cond b (table_entry (lines_of nodes)) (host_entry (get nodes p))) (sym (table_place p) ∙ other) ∙ sym (all_inside has p) ∙ here)
      (λ p b d w there before has_w. let y = node_of b w (not_table b p before) has_w in (table_place b ∙ not_table b p before, all_inside has b ∙ ap host_entry y.1 ∙ y.2))

-- after a refusal a part of the folder stands

pub refused_front : (nodes : Nodes) → IsWhole (get nodes) → (t0 t v : Tree) (at : Parts) (there : Out) → t ≡ with_folder t0 at there → WroteFront t v at nodes → IsPartlySaved t0 v at nodes
refused_front nodes whole t0 t v at there made was = go was.begun
  where
    stays : v ≡ was.before → IsPartlySaved t0 v at nodes
    stays same = inr ([], subst (λ x. IsPartOf t0 x at nodes []) (sym same) (front_part nodes whole t0 was.before at was.done was.left was.split (from_old t0 t was.before at there was.done made was.written) []))

    go : (v ≡ was.before) ⊎ ((path : Parts) × (node : Node) × (rest : List Mapped) × (was.left ≡ (path, node) ∷ rest) × WrotePart was.before v (at ++ path) (host_entry (Some node))) → IsPartlySaved t0 v at nodes
    go (inl same) = stays same
    go (inr next) = elim next.4 [
      | inl same ↦ stays same
      | inr some ↦
          let split : entries nodes ≡ was.done ++ (next.0, next.1) ∷ next.2 = was.split ∙ ap (λ l. was.done ++ l) next.3 in
          inr (next.0, begun_part nodes whole t0 was.before at was.done next.2 next.0 next.1 split (from_old t0 t was.before at there was.done made was.written) v some.0 some.1 some.2 some.3 some.4)
    ]

pub refused_table : (nodes : Nodes) → IsWhole (get nodes) → (t u v : Tree) (at : Parts) → HasEntries t u at (entries nodes) → WrotePart u v (at ++ table_name ∷ []) (table_entry (lines_of nodes)) → IsPartlySaved t v at nodes
refused_table nodes whole t u v at has (inl same) =
    inr ([], subst (λ x. IsPartOf t x at nodes []) (sym same) (front_part nodes whole t u at (entries nodes) [] (sym (append-nil (entries nodes))) has []))
refused_table nodes whole t u v at has (inr some) = inr (table_name ∷ [], table_part nodes whole t u at has v some.0 some.1 some.2 some.3 some.4)

pub refused_folder : (nodes : Nodes) → IsWhole (get nodes) → (t u : Tree) (path : List ℕ) (there : Out) → tree.IsWhole t → IsReady t path there → MadePart t u (parts path) there → IsPartlySaved t u (parts path) nodes
refused_folder nodes whole t u path there is can (inl same) = inl same
refused_folder nodes whole t u path there is can (inr made) =
    let root = root_first nodes whole in
    let at = parts path in
    let has : HasEntries t (with_folder t at there) at (([], Dir root.0) ∷ []) = from_old t (with_folder t at there) (with_folder t at there) at there (([], Dir root.0) ∷ []) refl (begins (with_folder t at there) path root.0 (opens t path there is can)) in
    inr ([], subst (λ x. IsPartOf t x at nodes []) (sym made) (front_part nodes whole t (with_folder t at there) at (([], Dir root.0) ∷ []) root.1 root.2 has []))

-- the next place is free

pub has_it : (t : Tree) (at : Parts) → get t at ≡ Some folder → has_folder t at ≡ true
has_it t [] e = refl
has_it t (a ∷ at) e = ap (λ o. option_map_or (λ x. is_folder_kind x.kind) o false) e

pub free_place : (u : Tree) (text : List ℕ) (p : Parts) → is_fit text ≡ true → parts text ≡ p → get u p ≡ None → has_folder u (above p) ≡ true → is_free_at u text ≡ true
free_place u text p fit is none around =
    ap (λ b. b && is_free u (parts text)) fit ∙ ap (is_free u) is ∙ ap (λ o. is_none o && has_folder u (above p)) none ∙ around

pub next_free : (nodes : Nodes) → IsWhole (get nodes) → (t u : Tree) (at : Parts) (done rest : List Mapped) (path : Path) (node : Node) → entries nodes ≡ done ++ (path, node) ∷ rest → HasEntries t u at done → IsSome (find path_cmp [] done) → (text : List ℕ) → is_fit text ≡ true → parts text ≡ at ++ path → is_free_at u text ≡ true
next_free nodes whole t u at done rest [] node split has some text fit is =
    let none : find path_cmp [] done ≡ None = fresh nodes done rest [] node split in
    absurd (false≢true (sym (ap is_some none) ∙ some))
next_free nodes whole t u at done rest (x ∷ xs) node split has some text fit is =
    let l = last_of x xs in
    let r = l.0 in
    let n = l.1 in
    let mapped : get nodes (r ++ n ∷ []) ≡ Some node = ap (get nodes) (sym l.2) ∙ the_next nodes done rest (x ∷ xs) node split in
    let dir = listing_is_dir (get nodes r) n (sym (whole.listed r n) ∙ ap is_some mapped) in
    let less : path_cmp r (x ∷ xs) ≡ Less = ap (path_cmp r) l.2 ∙ ap (λ z. path_cmp z (r ++ n ∷ [])) (sym (append-nil r)) ∙ same_front r [] (n ∷ []) in
    let there = before_next nodes done rest (x ∷ xs) node split r (Dir dir.0) less dir.1 in
    let made : get u (at ++ r) ≡ Some folder = has.inside r ∙ ap host_entry there in
    let none : get u (at ++ (x ∷ xs)) ≡ None = has.inside (x ∷ xs) ∙ ap host_entry (fresh nodes done rest (x ∷ xs) node split) in
    let up : above (at ++ (x ∷ xs)) ≡ at ++ r = ap (λ q. above (at ++ q)) l.2 ∙ ap above (sym (append_assoc at r (n ∷ []))) ∙ above_pushed (at ++ r) n in
    free_place u text (at ++ (x ∷ xs)) fit is none (ap (has_folder u) up ∙ has_it u (at ++ r) made)

pub table_free : (nodes : Nodes) → IsWhole (get nodes) → (t u : Tree) (at : Parts) → HasEntries t u at (entries nodes) → (text : List ℕ) → is_fit text ≡ true → parts text ≡ at ++ table_name ∷ [] → is_free_at u text ≡ true
table_free nodes whole t u at has text fit is =
    let root = whole.root in
    let made : get u at ≡ Some folder = ap (get u) (sym (append-nil at)) ∙ all_inside nodes whole t u at has [] ∙ ap host_entry root.1 in
    let none : get u (at ++ table_name ∷ []) ≡ None = all_inside nodes whole t u at has (table_name ∷ []) ∙ ap host_entry (no_table nodes whole) in
    free_place u text (at ++ table_name ∷ []) fit is none (ap (has_folder u) (above_pushed at table_name) ∙ has_it u at made)
