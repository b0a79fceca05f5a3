-- A walk over a filestore in the order of paths: what stands at a path and below, and what each step leaves.
use Rattle.fx_table.proofs.Prelude.{◌≡◌, inl, inr, ℕ, zero, suc, ◌+◌, ◌<◌, Bool, true, false, cond, ◌||◌, T, List, [], ◌∷◌, ◌++◌, length, length-append, drop, is_some, Option, Some, None, IsSome, refl, sym, ◌∙◌, ap, subst, arith, append_assoc, append-nil, Less, is_eq, is_lt, eq_by_cmp, ordering_then, AllByRecursion, filter, list_any, slice_get, IsStrictlySortedBy, entries, entries_sorted, get, get-entries, find, is_sorted, below_all, find-where_key, is_sorted-where_key, same_entries, cases_Bool, or_right, same_Some, all_both, same_front, none_of, some_of, Node, File, Dir, Link, name_cmp, path_cmp, has, Store, Nodes, IsWhole, IsNode, lists, node_at, rest_is, both, first, second, less_test, name_total, parts_total, parts_same, rest_of, eq_by_cmp_equiv, tied_itself, option_and_then, option_or, Level, from_path, from_names, names_in, left_of, IsLevel, IsNextPath, EntersDirectory, TakesPath, IsLeftBelow, Parts, Mapped}
use Rattle.fx_table.specs.Places.{StandsIn}
use Rattle.fx_table.proofs.Rests.{longer, not_at}

-- lists of nodes in the order of their paths

below_append : (x : Parts) (es fs : List Mapped) → T (below_all path_cmp x es) → T (below_all path_cmp x fs) → T (below_all path_cmp x (es ++ fs))
below_append x [] fs g h = h
below_append x (e ∷ es) fs g h = both (is_lt (path_cmp x e.0)) _ (first (is_lt (path_cmp x e.0)) _ g) (below_append x es fs (second (is_lt (path_cmp x e.0)) _ g) h)

abbrev AreBefore : List Mapped → List Mapped → Type 0
AreBefore [] fs = Unit {0}
AreBefore (e ∷ es) fs = T (below_all path_cmp e.0 fs) × AreBefore es fs

sorted_append : (es fs : List Mapped) → T (is_sorted path_cmp es) → T (is_sorted path_cmp fs) → AreBefore es fs → T (is_sorted path_cmp (es ++ fs))
sorted_append [] fs g h b = h
sorted_append (e ∷ es) fs g h b =
    both (below_all path_cmp e.0 (es ++ fs)) _ (below_append e.0 es fs (first (below_all path_cmp e.0 es) _ g) b.0)
    (sorted_append es fs (second (below_all path_cmp e.0 es) _ g) h b.1)

-- all paths are such
abbrev AllAt : (Parts → Type 0) → List Mapped → Type 0
AllAt P es = AllByRecursion (λ (e : Mapped). P e.0) es

kept_path : (p : Parts → Bool) (es : List Mapped) → AllAt (λ q. p q ≡ true) (filter (λ (e : Mapped). p e.0) es)
kept_path p [] = tt
kept_path p (e ∷ es) =
    let rest = filter (λ (f : Mapped). p f.0) es in
    elim (cases_Bool (p e.0)) [
      | inl hit ↦ subst (λ b. AllAt (λ q. p q ≡ true) (cond b (e ∷ rest) rest)) (sym hit) (hit, kept_path p es)
      | inr miss ↦ subst (λ b. AllAt (λ q. p q ≡ true) (cond b (e ∷ rest) rest)) (sym miss) (kept_path p es)
    ]

all_below : (x : Parts) (es : List Mapped) → AllAt (λ q. path_cmp x q ≡ Less) es → T (below_all path_cmp x es)
all_below x [] h = tt
all_below x (e ∷ es) h = both (is_lt (path_cmp x e.0)) _ (less_test _ h.0) (all_below x es h.1)

all_append : (P : Parts → Type 0) (es fs : List Mapped) → AllAt P es → AllAt P fs → AllAt P (es ++ fs)
all_append P es fs g h = all_both (λ (e : Mapped). P e.0) es fs g h

all_map : (P Q : Parts → Type 0) (es : List Mapped) → ((q : Parts) → P q → Q q) → AllAt P es → AllAt Q es
all_map P Q [] f h = tt
all_map P Q (e ∷ es) f h = (f e.0 h.0, all_map P Q es f h.1)

before_all : (P Q : Parts → Type 0) (es fs : List Mapped) → ((a b : Parts) → P a → Q b → path_cmp a b ≡ Less) → AllAt P es → AllAt Q fs → AreBefore es fs
before_all P Q [] fs less h k = tt
before_all P Q (e ∷ es) fs less h k = (all_below e.0 fs (all_map Q (λ b. path_cmp e.0 b ≡ Less) fs (λ b. less e.0 b h.0) k), before_all P Q es fs less h.1 k)

-- one of these is found in the one list or in the other

pub find_append : (q : Parts) (es fs : List Mapped) → find path_cmp q (es ++ fs) ≡ option_or (find path_cmp q es) (find path_cmp q fs)
find_append q [] fs = refl
find_append q (e ∷ es) fs = elim (eq_by_cmp path_cmp q e.0) as (λ t. cond t (Some e.1) (find path_cmp q (es ++ fs)) ≡ option_or (cond t (Some e.1) (find path_cmp q es)) (find path_cmp q fs)) [ true ↦ refl | false ↦ find_append q es fs ]

find_from : (nodes : Nodes) (p q : Parts) → find path_cmp q (from_path nodes p) ≡ cond (is_some (rest_of p q)) (get nodes q) None
find_from nodes p q =
    find-where_key path_cmp (λ x. is_some (rest_of p x)) q (λ x e. ap (λ y. is_some (rest_of p y)) (sym (parts_same q x e))) (entries nodes)
    ∙ ap (λ o. cond (is_some (rest_of p q)) o None) (sym (get-entries nodes q))

or_cond : (a b : Bool) (o : Option Node) → option_or (cond a o None) (cond b o None) ≡ cond (a || b) o None
or_cond true true None = refl
or_cond true false None = refl
or_cond true b (Some x) = refl
or_cond false b o = refl

any_under : Parts → List (List ℕ) → Parts → Bool
any_under p names q = list_any (λ n. is_some (rest_of (p ++ n ∷ []) q)) names

find_names : (nodes : Nodes) (p : Parts) (names : List (List ℕ)) (q : Parts) → find path_cmp q (from_names nodes p names) ≡ cond (any_under p names q) (get nodes q) None
unfolding any_under
find_names nodes p [] q = refl
find_names nodes p (n ∷ ns) q =
    find_append q (from_path nodes (p ++ n ∷ [])) (from_names nodes p ns)
    ∙ ap (λ o. option_or o (find path_cmp q (from_names nodes p ns))) (find_from nodes (p ++ n ∷ []) q)
    ∙ ap (option_or (cond (is_some (rest_of (p ++ n ∷ []) q)) (get nodes q) None)) (find_names nodes p ns q)
    ∙ or_cond (is_some (rest_of (p ++ n ∷ []) q)) (list_any (λ n. is_some (rest_of (p ++ n ∷ []) q)) ns) (get nodes q)

-- what is behind a path and a name

rest_push : (p : Parts) (n : List ℕ) (q : Parts) → rest_of (p ++ n ∷ []) q ≡ option_and_then (rest_of (n ∷ [])) (rest_of p q)
rest_push [] n q = refl
rest_push (a ∷ p) n [] = refl
rest_push (a ∷ p) n (b ∷ q) = elim (eq_by_cmp name_cmp a b) as (λ t. cond t (rest_of (p ++ n ∷ []) q) None ≡ option_and_then (rest_of (n ∷ [])) (cond t (rest_of p q) None)) [ true ↦ rest_push p n q | false ↦ refl ]

any_rest : (p q : Parts) (names : List (List ℕ)) (o : Option Parts) → rest_of p q ≡ o → any_under p names q ≡ list_any (λ n. is_some (option_and_then (rest_of (n ∷ [])) o)) names
unfolding any_under
any_rest p q [] o e = refl
any_rest p q (n ∷ ns) o e =
    ap (λ x. is_some x || any_under p ns q) (rest_push p n q ∙ ap (option_and_then (rest_of (n ∷ []))) e)
    ∙ ap (λ b. is_some (option_and_then (rest_of (n ∷ [])) o) || b) (any_rest p q ns o e)

none_of_any : (names : List (List ℕ)) → list_any (λ (n : List ℕ). false) names ≡ false
none_of_any [] = refl
none_of_any (n ∷ ns) = none_of_any ns

some_cond : (b : Bool) (r : Parts) → is_some (cond b (Some r) None) ≡ b
some_cond true r = refl
some_cond false r = refl

child_in : (names : List (List ℕ)) (m : List ℕ) (r : Parts) → list_any (λ n. is_some (rest_of (n ∷ []) (m ∷ r))) names ≡ has names m
child_in [] m r = refl
child_in (n ∷ ns) m r =
    ap (λ b. b || list_any (λ n. is_some (rest_of (n ∷ []) (m ∷ r))) ns) (some_cond (eq_by_cmp name_cmp n m) r ∙ (eq_by_cmp_equiv name_total).symm n m)
    ∙ ap (λ b. eq_by_cmp name_cmp m n || b) (child_in ns m r)

-- below a path where nothing stands, nothing stands

none_beyond : (S : Store) → IsWhole S → (path : Parts) → S path ≡ None → (r : Parts) → S (path ++ r) ≡ None
none_beyond S whole path none [] = ap S (append-nil path) ∙ none
none_beyond S whole path none (n ∷ r) =
    let child : S (path ++ n ∷ []) ≡ None = none_of _ (whole.listed path n ∙ ap (λ o. lists o n) none) in
    ap S (sym (append_assoc path (n ∷ []) r)) ∙ none_beyond S whole (path ++ n ∷ []) child r

lists_in : (o : Option Node) (m : List ℕ) → lists o m ≡ has (names_in o) m
lists_in None m = refl
lists_in (Some (File bytes exec)) m = refl
lists_in (Some (Dir names)) m = refl
lists_in (Some (Link text)) m = refl

-- what stands at a path and below: its node, and what stands at each of its names and below

module _ (nodes : Nodes) (whole : IsWhole (get nodes)) (p : Parts) (node : Node) (here : get nodes p ≡ Some node) where
  not_listed : (m : List ℕ) (r : Parts) → has (names_in (Some node)) m ≡ false → get nodes (p ++ m ∷ r) ≡ None
  not_listed m r miss =
      let child : get nodes (p ++ m ∷ []) ≡ None = none_of _ (whole.listed p m ∙ ap (λ o. lists o m) here ∙ lists_in (Some node) m ∙ miss) in
      ap (get nodes) (sym (append_assoc p (m ∷ []) r)) ∙ none_beyond (get nodes) whole (p ++ m ∷ []) child r

  found_at : (q : Parts) (o : Option Parts) → rest_of p q ≡ o → cond (is_some o) (get nodes q) None ≡ cond (eq_by_cmp path_cmp q p) (Some node) (find path_cmp q (from_names nodes p (names_in (Some node))))
  found_at q None e =
      let none : find path_cmp q (from_names nodes p (names_in (Some node))) ≡ None =
      find_names nodes p (names_in (Some node)) q
      ∙ ap (λ b. cond b (get nodes q) None) (any_rest p q (names_in (Some node)) None e ∙ none_of_any (names_in (Some node))) in
      sym (ap (λ b. cond b (Some node) (find path_cmp q (from_names nodes p (names_in (Some node))))) (not_at p q e) ∙ none)
  found_at q (Some []) e =
      let it : q ≡ p = rest_is p q [] e ∙ append-nil p in
      let tied : eq_by_cmp path_cmp q p ≡ true = ap (λ x. eq_by_cmp path_cmp x p) it ∙ ap is_eq (tied_itself parts_total p) in
      ap (get nodes) it ∙ here ∙ sym (ap (λ b. cond b (Some node) (find path_cmp q (from_names nodes p (names_in (Some node))))) tied)
  found_at q (Some (m ∷ r)) e =
      let it : q ≡ p ++ m ∷ r = rest_is p q (m ∷ r) e in
      let apart : eq_by_cmp path_cmp q p ≡ false = ap (λ x. eq_by_cmp path_cmp x p) it ∙ longer p m r in
      let found : find path_cmp q (from_names nodes p (names_in (Some node))) ≡ cond (has (names_in (Some node)) m) (get nodes q) None =
      find_names nodes p (names_in (Some node)) q
      ∙ ap (λ b. cond b (get nodes q) None) (any_rest p q (names_in (Some node)) (Some (m ∷ r)) e ∙ child_in (names_in (Some node)) m r) in
      let all : get nodes q ≡ cond (has (names_in (Some node)) m) (get nodes q) None =
      elim (cases_Bool (has (names_in (Some node)) m)) [
        | inl hit ↦ sym (ap (λ b. cond b (get nodes q) None) hit)
        | inr miss ↦ ap (get nodes) it ∙ not_listed m r miss ∙ sym (ap (λ b. cond b (get nodes q) None) miss)
      ] in
      all ∙ sym found ∙ sym (ap (λ b. cond b (Some node) (find path_cmp q (from_names nodes p (names_in (Some node))))) apart)

rest_some : (p q : Parts) → is_some (rest_of p q) ≡ true → (r : Parts) × (q ≡ p ++ r)
rest_some p q e = let r = some_of (rest_of p q) e in (r.0, rest_is p q r.0 r.1)

-- below an entry of a directory with a name that comes later
abbrev IsUnderLater : Parts → List ℕ → Parts → Type 0
IsUnderLater p n q = (m : List ℕ) × (name_cmp n m ≡ Less) × (is_some (rest_of (p ++ m ∷ []) q) ≡ true)

under_later : (nodes : Nodes) (p : Parts) (n : List ℕ) (ms : List (List ℕ)) → AllByRecursion (λ m. name_cmp n m ≡ Less) ms → AllAt (IsUnderLater p n) (from_names nodes p ms)
under_later nodes p n [] all = tt
under_later nodes p n (m ∷ ms) all =
    all_append (IsUnderLater p n) (from_path nodes (p ++ m ∷ [])) (from_names nodes p ms)
    (all_map (λ q. is_some (rest_of (p ++ m ∷ []) q) ≡ true) (IsUnderLater p n) (from_path nodes (p ++ m ∷ [])) (λ q is. (m, all.0, is)) (kept_path (λ q. is_some (rest_of (p ++ m ∷ []) q)) (entries nodes)))
    (under_later nodes p n ms all.1)

earlier : (p : Parts) (n : List ℕ) (a b : Parts) → is_some (rest_of (p ++ n ∷ []) a) ≡ true → IsUnderLater p n b → path_cmp a b ≡ Less
earlier p n a b at later =
    let m = later.0 in
    let x = rest_some (p ++ n ∷ []) a at in
    let y = rest_some (p ++ m ∷ []) b later.2 in
    let a_is : a ≡ p ++ (n ∷ x.0) = x.1 ∙ append_assoc p (n ∷ []) x.0 in
    let b_is : b ≡ p ++ (m ∷ y.0) = y.1 ∙ append_assoc p (m ∷ []) y.0 in
    ap (λ z. path_cmp z b) a_is ∙ ap (path_cmp (p ++ (n ∷ x.0))) b_is ∙ same_front p (n ∷ x.0) (m ∷ y.0)
    ∙ ap (λ o. ordering_then o (path_cmp x.0 y.0)) later.1

names_sorted : (nodes : Nodes) (p : Parts) (names : List (List ℕ)) → IsStrictlySortedBy name_cmp names → T (is_sorted path_cmp (from_names nodes p names))
unfolding IsStrictlySortedBy
names_sorted nodes p [] s = tt
names_sorted nodes p (n ∷ ns) s =
    sorted_append (from_path nodes (p ++ n ∷ [])) (from_names nodes p ns)
    (is_sorted-where_key path_cmp (λ q. is_some (rest_of (p ++ n ∷ []) q)) (entries nodes) (entries_sorted nodes))
    (names_sorted nodes p ns s.1)
    (before_all (λ q. is_some (rest_of (p ++ n ∷ []) q) ≡ true) (IsUnderLater p n) (from_path nodes (p ++ n ∷ [])) (from_names nodes p ns) (earlier p n)
    (kept_path (λ q. is_some (rest_of (p ++ n ∷ []) q)) (entries nodes)) (under_later nodes p n ns s.0))

all_under : (nodes : Nodes) (p : Parts) (names : List (List ℕ)) → AllAt (λ q. path_cmp p q ≡ Less) (from_names nodes p names)
all_under nodes p [] = tt
all_under nodes p (n ∷ ns) =
    all_append (λ q. path_cmp p q ≡ Less) (from_path nodes (p ++ n ∷ [])) (from_names nodes p ns)
    (all_map (λ q. is_some (rest_of (p ++ n ∷ []) q) ≡ true) (λ q. path_cmp p q ≡ Less) (from_path nodes (p ++ n ∷ [])) below (kept_path (λ q. is_some (rest_of (p ++ n ∷ []) q)) (entries nodes)))
    (all_under nodes p ns)
  where
    below : (q : Parts) → is_some (rest_of (p ++ n ∷ []) q) ≡ true → path_cmp p q ≡ Less
    below q at =
        let x = rest_some (p ++ n ∷ []) q at in
        let q_is : q ≡ p ++ (n ∷ x.0) = x.1 ∙ append_assoc p (n ∷ []) x.0 in
        ap (path_cmp p) q_is ∙ ap (λ z. path_cmp z (p ++ (n ∷ x.0))) (sym (append-nil p)) ∙ same_front p [] (n ∷ x.0)

in_order : (p : Parts) (node : Node) → IsNode p node → IsStrictlySortedBy name_cmp (names_in (Some node))
unfolding IsStrictlySortedBy
in_order p (File bytes exec) is = tt
in_order p (Dir names) is = is.0.ascending
in_order p (Link text) is = tt

pub at_path : (nodes : Nodes) → IsWhole (get nodes) → (p : Parts) (node : Node) → get nodes p ≡ Some node → from_path nodes p ≡ (p, node) ∷ from_names nodes p (names_in (Some node))
at_path nodes whole p node here =
    let below = from_names nodes p (names_in (Some node)) in
    let sorted : T (is_sorted path_cmp ((p, node) ∷ below)) =
    both (below_all path_cmp p below) _ (all_below p below (all_under nodes p (names_in (Some node)))) (names_sorted nodes p (names_in (Some node)) (in_order p node (node_at (get nodes) whole p node here))) in
    same_entries path_cmp parts_total parts_same (from_path nodes p) ((p, node) ∷ below)
    (is_sorted-where_key path_cmp (λ q. is_some (rest_of p q)) (entries nodes) (entries_sorted nodes)) sorted
    (λ q. find_from nodes p q ∙ found_at nodes whole p node here q (rest_of p q) refl)

all_stay : (es : List Mapped) → filter (λ (e : Mapped). true) es ≡ es
all_stay [] = refl
all_stay (e ∷ es) = ap (λ l. e ∷ l) (all_stay es)

-- the steps of the walk

left_push : (nodes : Nodes) (levels : List Level) (level : Level) → left_of nodes (levels ++ level ∷ []) ≡ from_names nodes level.parent (drop level.next level.names) ++ left_of nodes levels
left_push nodes [] level = sym (append-nil (from_names nodes level.parent (drop level.next level.names)))
left_push nodes (l ∷ ls) level =
    ap (λ x. x ++ from_names nodes l.parent (drop l.next l.names)) (left_push nodes ls level)
    ∙ append_assoc (from_names nodes level.parent (drop level.next level.names)) (left_of nodes ls) (from_names nodes l.parent (drop l.next l.names))

-- a directory that was gone into
pub entered_left : (nodes : Nodes) (old new : List Level) (path : Parts) (names : List (List ℕ)) → get nodes path ≡ Some (Dir names) → EntersDirectory old path names new → left_of nodes new ≡ from_names nodes path (names_in (get nodes path)) ++ left_of nodes old
entered_left nodes old new path [] here is = ap (left_of nodes) is ∙ ap (λ o. from_names nodes path (names_in o) ++ left_of nodes old) (sym here)
entered_left nodes old new path (name ∷ names) here is =
    ap (left_of nodes) is ∙ left_push nodes old (record { parent = path; names = name ∷ names; next = 0 })
    ∙ ap (λ o. from_names nodes path (names_in o) ++ left_of nodes old) (sym here)

-- the directory above stays, unless it has no name more
pub stays_left : (nodes : Nodes) (old new : List Level) (level : Level) (next : ℕ) → next ≡ level.next + 1 → new ≡ old ++ record level { next = next } ∷ [] → left_of nodes new ≡ from_names nodes level.parent (drop (suc level.next) level.names) ++ left_of nodes old
stays_left nodes old new level next is pushed =
    let one : next ≡ suc level.next = omega arith in
    ap (left_of nodes) pushed ∙ left_push nodes old (record level { next = next })
    ∙ ap (λ n. from_names nodes level.parent (drop n level.names) ++ left_of nodes old) one

drop_next : (names : List (List ℕ)) (i : ℕ) (name : List ℕ) → slice_get names i ≡ Some name → drop i names ≡ name ∷ drop (suc i) names
drop_next [] i name at = cc
drop_next (m ∷ ms) zero name at = ap (λ x. x ∷ ms) (same_Some m name at)
drop_next (m ∷ ms) (suc i) name at = drop_next ms i name at

has_at : (names : List (List ℕ)) (i : ℕ) (name : List ℕ) → slice_get names i ≡ Some name → has names name ≡ true
has_at [] i name at = cc
has_at (m ∷ ms) zero name at = ap (λ b. b || has ms name) (ap (eq_by_cmp name_cmp name) (same_Some m name at) ∙ ap is_eq (tied_itself name_total name))
has_at (m ∷ ms) (suc i) name at = or_right (eq_by_cmp name_cmp name m) (has ms name) (has_at ms i name at)

pub stepped : (nodes : Nodes) → IsWhole (get nodes) → (old mid new : List Level) (level : Level) (path : Parts) → IsNextPath level path → IsSome (get nodes path) → left_of nodes mid ≡ from_names nodes level.parent (drop (suc level.next) level.names) ++ left_of nodes old → left_of nodes new ≡ from_names nodes path (names_in (get nodes path)) ++ left_of nodes mid → TakesPath nodes (left_of nodes (old ++ level ∷ [])) (left_of nodes new) (Some path)
stepped nodes whole old mid new level path next there went entered =
    let some = some_of (get nodes path) there in
    let node = some.0 in
    let here : get nodes path ≡ Some node = some.1 in
    let name = next.0 in
    let rest = from_names nodes level.parent (drop (suc level.next) level.names) in
    let below = from_names nodes path (names_in (get nodes path)) in
    let block : from_path nodes path ≡ (path, node) ∷ below =
    at_path nodes whole path node here ∙ ap (λ o. (path, node) ∷ from_names nodes path (names_in o)) (sym here) in
    let named : from_names nodes level.parent (drop level.next level.names) ≡ ((path, node) ∷ below) ++ rest =
    ap (from_names nodes level.parent) (drop_next level.names level.next name next.1)
    ∙ ap (λ p. from_path nodes p ++ rest) (sym next.2) ∙ ap (λ l. l ++ rest) block in
    let now : left_of nodes new ≡ below ++ (rest ++ left_of nodes old) = entered ∙ ap (λ l. below ++ l) went in
    (node, here, left_push nodes old level ∙ ap (λ l. l ++ left_of nodes old) named ∙ append_assoc ((path, node) ∷ below) rest (left_of nodes old) ∙ ap (λ l. (path, node) ∷ l) (sym now))

-- the root comes first
pub root_first : (nodes : Nodes) → IsWhole (get nodes) → (names : List (List ℕ)) × (rest : List Mapped) × (entries nodes ≡ ([], Dir names) ∷ rest)
root_first nodes whole =
    let root = whole.root in
    (root.0, from_names nodes [] root.0, sym (all_stay (entries nodes)) ∙ at_path nodes whole [] (Dir root.0) root.1)

pub starts : (nodes : Nodes) → IsWhole (get nodes) → (levels : List Level) → left_of nodes levels ≡ from_names nodes [] (names_in (get nodes [])) ++ [] → IsLeftBelow nodes (left_of nodes levels)
unfolding root_first
starts nodes whole levels left =
    let root = whole.root in
    let all : entries nodes ≡ ([], Dir root.0) ∷ from_names nodes [] root.0 = (root_first nodes whole).2 in
    (root.0, root.1, all ∙ ap (λ l. ([], Dir root.0) ∷ l) (sym (left ∙ append-nil (from_names nodes [] (names_in (get nodes []))) ∙ ap (λ o. from_names nodes [] (names_in o)) root.1)))

-- the path of a directory's next name is mapped, so it is no longer than a path may be
pub child_there : (nodes : Nodes) → IsWhole (get nodes) → (level : Level) (path : Parts) → IsLevel nodes level → IsNextPath level path → IsSome (get nodes path)
child_there nodes whole level path is next =
    ap (λ p. is_some (get nodes p)) next.2 ∙ whole.listed level.parent next.0 ∙ ap (λ o. lists o next.0) is.directory ∙ has_at level.names level.next next.0 next.1

pub next_below : (level : Level) (path : Parts) → IsNextPath level path → 0 < length path
next_below level path next = omega (arith, ap length next.2, length-append level.parent (next.0 ∷ []))

pub next_in : (level : Level) (parent path : Parts) → parent ≡ level.parent → IsNextPath level path → StandsIn parent path
next_in level parent path is next = (next.0, next.2 ∙ ap (λ p. p ++ next.0 ∷ []) (sym is))

pub gone : (o : Option Node) → o ≡ None → IsSome o → ⊥
gone None e there = cc
gone (Some node) e there = cc
