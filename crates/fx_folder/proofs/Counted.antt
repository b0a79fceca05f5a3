-- The entries of a whole filestore's folder: in their order, and how many there are.
use Rattle.fx_folder.proofs.Prelude.{Held, all_bytes, counted_bytes, sizes_of, host_entry, both, first, second, Entry, file, folder, path_cmp, path_eq_same, Node, Dir, File, Link, found, Mapped, TableLink, line_at, links_among, TableLine, List, None, Option, Some, T, [], ap, arith, cond, false, inl, inr, length, option_map, refl, subst, sym, true, ℕ, ◌+◌, ◌<◌, ◌∙◌, ◌∷◌, ◌≡◌, ◌≤◌, cases_Bool, nat_tests, sum_by-cons, find, is_sorted, below_all, filter_map, eq_by_cmp, is_lt, nat_lt, link_bytes}
pub use Rattle.fx_folder.proofs.Ordered.{none_behind}

abbrev Paths : Type 0
Paths = List (List ℕ)

-- ---- what is found behind a path

-- a path that ties with the first is not found again
pub none_again : (p : Paths) (node : Node) (es : List Mapped) → T (is_sorted path_cmp ((p, node) ∷ es)) → (q : Paths) → eq_by_cmp path_cmp q p ≡ true → found es q ≡ None
none_again p node es up q same = subst (λ k. found es k ≡ None) (sym (path_eq_same q p same)) (none_behind p es (first (below_all path_cmp p es) _ up))

pub rest_sorted : (p : Paths) (node : Node) (es : List Mapped) → T (is_sorted path_cmp ((p, node) ∷ es)) → T (is_sorted path_cmp es)
rest_sorted p node es up = second (below_all path_cmp p es) _ up

-- ---- the root comes first

no_root : (n : List ℕ) (r : Paths) (es : List Mapped) → T (below_all path_cmp (n ∷ r) es) → found es [] ≡ None
no_root n r [] h = refl
no_root n r (([], node) ∷ es) h = absurd (first false (below_all path_cmp (n ∷ r) es) h)
no_root n r ((m ∷ s, node) ∷ es) h = no_root n r es (second (is_lt (path_cmp (n ∷ r) (m ∷ s))) _ h)

pub record HasRoot (es : List Mapped) (node : Node) : Type 0 where
  pub rest : List Mapped
  pub is : es ≡ ([], node) ∷ rest

pub has_root : (es : List Mapped) (node : Node) → T (is_sorted path_cmp es) → found es [] ≡ Some node → HasRoot es node
has_root [] node up is = cc
has_root (([], x) ∷ es) node up is = let same : x ≡ node = cc in record { rest = es; is = ap (λ y. ([], y) ∷ es) same }
has_root ((n ∷ r, x) ∷ es) node up is = let none : None ≡ Some node = sym (no_root n r es (first (below_all path_cmp (n ∷ r) es) _ up)) ∙ is in cc

-- ---- the entries of files and directories

-- the entry of a node below the root
abbrev pub held_at : Mapped → Option Held
held_at ([], node) = None
held_at (n ∷ r, node) = option_map (λ e. (n ∷ r, e)) (host_entry (Some node))

abbrev pub held_of : List Mapped → List Held
held_of es = filter_map held_at es

pub find_held : (es : List Mapped) → T (is_sorted path_cmp es) → (n : List ℕ) (r : Paths) → find path_cmp (n ∷ r) (held_of es) ≡ host_entry (found es (n ∷ r))
find_held [] up n r = refl
find_held (([], node) ∷ es) up n r = find_held es (rest_sorted [] node es up) n r
find_held ((m ∷ s, node) ∷ es) up n r = by node (find_held es (rest_sorted (m ∷ s) node es up) n r) (λ same. none_again (m ∷ s) node es up (n ∷ r) same)
  where
    shown : (e : Entry) (node : Node) → host_entry (Some node) ≡ Some e → find path_cmp (n ∷ r) (held_of es) ≡ host_entry (found es (n ∷ r)) → cond (eq_by_cmp path_cmp (n ∷ r) (m ∷ s)) (Some e) (find path_cmp (n ∷ r) (held_of es)) ≡ host_entry (cond (eq_by_cmp path_cmp (n ∷ r) (m ∷ s)) (Some node) (found es (n ∷ r)))
    shown e node is rest = elim (eq_by_cmp path_cmp (n ∷ r) (m ∷ s)) as (λ b. cond b (Some e) (find path_cmp (n ∷ r) (held_of es)) ≡ host_entry (cond b (Some node) (found es (n ∷ r)))) [ true ↦ sym is | false ↦ rest ]

    hidden : (text : List ℕ) → find path_cmp (n ∷ r) (held_of es) ≡ host_entry (found es (n ∷ r)) → (eq_by_cmp path_cmp (n ∷ r) (m ∷ s) ≡ true → found es (n ∷ r) ≡ None) → find path_cmp (n ∷ r) (held_of es) ≡ host_entry (cond (eq_by_cmp path_cmp (n ∷ r) (m ∷ s)) (Some (Link text)) (found es (n ∷ r)))
    hidden text rest again = elim (cases_Bool (eq_by_cmp path_cmp (n ∷ r) (m ∷ s))) [
      | inl same ↦ rest ∙ ap host_entry (again same) ∙ ap (λ b. host_entry (cond b (Some (Link text)) (found es (n ∷ r)))) (sym same)
      | inr other ↦ rest ∙ ap (λ b. host_entry (cond b (Some (Link text)) (found es (n ∷ r)))) (sym other)
    ]

    by : (node : Node) → find path_cmp (n ∷ r) (held_of es) ≡ host_entry (found es (n ∷ r)) → (eq_by_cmp path_cmp (n ∷ r) (m ∷ s) ≡ true → found es (n ∷ r) ≡ None) → find path_cmp (n ∷ r) (held_of ((m ∷ s, node) ∷ es)) ≡ host_entry (cond (eq_by_cmp path_cmp (n ∷ r) (m ∷ s)) (Some node) (found es (n ∷ r)))
    by (File bytes exec) rest again = shown _ (File bytes exec) refl rest
    by (Dir names) rest again = shown _ (Dir names) refl rest
    by (Link text) rest again = hidden text rest again

pub no_root_held : (es : List Mapped) → find path_cmp [] (held_of es) ≡ None
no_root_held [] = refl
no_root_held (([], node) ∷ es) = no_root_held es
no_root_held ((n ∷ r, File bytes exec) ∷ es) = no_root_held es
no_root_held ((n ∷ r, Dir names) ∷ es) = no_root_held es
no_root_held ((n ∷ r, Link text) ∷ es) = no_root_held es

below_held : (k : Paths) (es : List Mapped) → T (below_all path_cmp k es) → T (below_all path_cmp k (held_of es))
below_held k [] h = tt
below_held k (([], node) ∷ es) h = below_held k es (second (is_lt (path_cmp k [])) _ h)
below_held k ((n ∷ r, File bytes exec) ∷ es) h = both (is_lt (path_cmp k (n ∷ r))) _ (first (is_lt (path_cmp k (n ∷ r))) _ h) (below_held k es (second (is_lt (path_cmp k (n ∷ r))) _ h))
below_held k ((n ∷ r, Dir names) ∷ es) h = both (is_lt (path_cmp k (n ∷ r))) _ (first (is_lt (path_cmp k (n ∷ r))) _ h) (below_held k es (second (is_lt (path_cmp k (n ∷ r))) _ h))
below_held k ((n ∷ r, Link text) ∷ es) h = below_held k es (second (is_lt (path_cmp k (n ∷ r))) _ h)

pub held_sorted : (es : List Mapped) → T (is_sorted path_cmp es) → T (is_sorted path_cmp (held_of es))
held_sorted [] up = tt
held_sorted (([], node) ∷ es) up = held_sorted es (rest_sorted [] node es up)
held_sorted ((n ∷ r, File bytes exec) ∷ es) up = both (below_all path_cmp (n ∷ r) (held_of es)) _ (below_held (n ∷ r) es (first (below_all path_cmp (n ∷ r) es) _ up)) (held_sorted es (rest_sorted (n ∷ r) (File bytes exec) es up))
held_sorted ((n ∷ r, Dir names) ∷ es) up = both (below_all path_cmp (n ∷ r) (held_of es)) _ (below_held (n ∷ r) es (first (below_all path_cmp (n ∷ r) es) _ up)) (held_sorted es (rest_sorted (n ∷ r) (Dir names) es up))
held_sorted ((n ∷ r, Link text) ∷ es) up = held_sorted es (rest_sorted (n ∷ r) (Link text) es up)

-- ---- tests of numbers

pub at_most : (n m : ℕ) → nat_lt m n ≡ false → n ≤ m
at_most n m e = grind (arith, nat_tests)

pub not_above : (n m : ℕ) → n ≤ m → nat_lt m n ≡ false
not_above n m le = grind (arith, nat_tests)

pub below : (n m : ℕ) → nat_lt n m ≡ true → n < m
below n m e = grind (arith, nat_tests)

pub is_below : (n m : ℕ) → n < m → nat_lt n m ≡ true
is_below n m lt = grind (arith, nat_tests)

-- ---- counts

abbrev pub lines_in : List Mapped → List TableLine
lines_in es = filter_map line_at es

-- the links of entries
abbrev pub links_in : List Mapped → List TableLink
links_in es = links_among (lines_in es)

pub more_bytes : (h : Held) (hs : List Held) → all_bytes (h ∷ hs) ≡ length h.1.bytes + all_bytes hs
more_bytes h hs = sum_by-cons (λ (x : Held). length x.1.bytes) h hs

more_texts : (l : TableLink) (ls : List TableLink) → link_bytes (l ∷ ls) ≡ length l.text + link_bytes ls
more_texts l ls = sum_by-cons (λ (x : TableLink). length x.text) l ls

more_sizes : (e : Mapped) (es : List Mapped) → sizes_of (e ∷ es) ≡ counted_bytes e.1 + sizes_of es
more_sizes e es = sum_by-cons (λ (x : Mapped). counted_bytes x.1) e es

-- ---- below the root, each node is an entry or a link

rest_behind : (e : Mapped) (es : List Mapped) → T (below_all path_cmp [] (e ∷ es)) → T (below_all path_cmp [] es)
rest_behind e es up = second (is_lt (path_cmp [] e.0)) _ up

no_second : (node : Node) (es : List Mapped) → T (below_all path_cmp [] (([], node) ∷ es)) → ⊥
no_second node es up = first false (below_all path_cmp [] es) up

all_counted : (es : List Mapped) → T (below_all path_cmp [] es) → length es ≡ length (held_of es) + length (links_in es)
all_counted [] up = omega arith
all_counted (([], node) ∷ es) up = absurd (no_second node es up)
all_counted ((n ∷ r, File bytes true) ∷ es) up = let rest = all_counted es (rest_behind (n ∷ r, File bytes true) es up) in omega arith
all_counted ((n ∷ r, File bytes false) ∷ es) up = let rest = all_counted es (rest_behind (n ∷ r, File bytes false) es up) in omega arith
all_counted ((n ∷ r, Dir names) ∷ es) up = let rest = all_counted es (rest_behind (n ∷ r, Dir names) es up) in omega arith
all_counted ((n ∷ r, Link text) ∷ es) up = let rest = all_counted es (rest_behind (n ∷ r, Link text) es up) in omega arith

-- and all bytes are those of entries and of links
all_summed : (es : List Mapped) → T (below_all path_cmp [] es) → sizes_of es ≡ all_bytes (held_of es) + link_bytes (links_in es)
all_summed [] up = omega arith
all_summed (([], node) ∷ es) up = absurd (no_second node es up)
all_summed ((n ∷ r, File bytes true) ∷ es) up =
    let rest = all_summed es (rest_behind (n ∷ r, File bytes true) es up) in
    let all = more_sizes (n ∷ r, File bytes true) es in
    let held = more_bytes (n ∷ r, file bytes) (held_of es) in
    omega arith
all_summed ((n ∷ r, File bytes false) ∷ es) up =
    let rest = all_summed es (rest_behind (n ∷ r, File bytes false) es up) in
    let all = more_sizes (n ∷ r, File bytes false) es in
    let held = more_bytes (n ∷ r, file bytes) (held_of es) in
    omega arith
all_summed ((n ∷ r, Dir names) ∷ es) up =
    let rest = all_summed es (rest_behind (n ∷ r, Dir names) es up) in
    let all = more_sizes (n ∷ r, Dir names) es in
    let held = more_bytes (n ∷ r, folder) (held_of es) in
    omega arith
all_summed ((n ∷ r, Link text) ∷ es) up =
    let rest = all_summed es (rest_behind (n ∷ r, Link text) es up) in
    let all = more_sizes (n ∷ r, Link text) es in
    let link = more_texts (record { path = n ∷ r; text = text }) (links_in es) in
    omega arith

-- with the root, which is a directory
pub counted : (es : List Mapped) (names : List (List ℕ)) (rest : List Mapped) → es ≡ ([], Dir names) ∷ rest → T (is_sorted path_cmp es) → length es ≡ length (held_of es) + length (links_in es) + 1
counted es names rest is up =
    let sorted = subst (λ l. T (is_sorted path_cmp l)) is up in
    subst (λ l. length l ≡ length (held_of l) + length (links_in l) + 1) (sym is) (let all = all_counted rest (first (below_all path_cmp [] rest) _ sorted) in omega arith)

pub summed : (es : List Mapped) (names : List (List ℕ)) (rest : List Mapped) → es ≡ ([], Dir names) ∷ rest → T (is_sorted path_cmp es) → sizes_of es ≡ all_bytes (held_of es) + link_bytes (links_in es)
summed es names rest is up =
    let sorted = subst (λ l. T (is_sorted path_cmp l)) is up in
    subst (λ l. sizes_of l ≡ all_bytes (held_of l) + link_bytes (links_in l)) (sym is) (
    let all = all_summed rest (first (below_all path_cmp [] rest) _ sorted) in
    let more = more_sizes ([], Dir names) rest in
    omega arith)
