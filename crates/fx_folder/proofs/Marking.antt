-- The lines of a filestore that was loaded are those that were read of its table.
use Rattle.fx_folder.proofs.Prelude.{Held, node_of_kind, unlisted, parts_cmp, Entry, HostKind, host_entry, both, first, second, sorted_test, path_cmp, path_eq_same, path_same, path_total, parent, Store, Node, Dir, File, Link, find_flags, find_linked, found, relisted, with_exec, Mapped, with_flags, with_lines, with_links, IsTable, can_mark, flag_at, has_place, is_dir, is_file, link_in_line, links_among, over, Mark, Executable, Target, TableLine, All, Bool, IsTrue, List, None, Option, Some, T, [], ap, cond, false, is_none, map, option_map, refl, subst, sym, true, ℕ, ◌∙◌, ◌∷◌, ◌≡◌, and_parts, false≢true, All-head, All-tail, same_Some, find, is_sorted, put, below_all, same_entries, cons_option, keys_of, eq_by_cmp, is_lt}
use Rattle.std.specs.List.Sorted.{IsStrictlySortedBy}
use Rattle.fx_outside.specs.declared.kind.HostKind.TheVariants as kind
use Rattle.fx_table.specs.Table.{is_flag_mark}
use Rattle.fx_folder.proofs.Counted.{none_behind, none_again, rest_sorted, lines_in}
use Rattle.fx_folder.proofs.Loaded.{node_of, find_unlisted}

abbrev Paths : Type 0
Paths = List (List ℕ)

-- ---- lines as paths with marks

abbrev pub Marked : Type 0
Marked = Paths × Mark

abbrev pub marks : List TableLine → List Marked
marks lines = map (λ (l : TableLine). (l.path, l.mark)) lines

unmarked : List Marked → List TableLine
unmarked ms = map (λ (m : Marked). record { path = m.0; mark = m.1 }) ms

unmarked_is : (lines : List TableLine) → unmarked (marks lines) ≡ lines
unfolding unmarked
unmarked_is [] = refl
unmarked_is (l ∷ lines) = ap (λ ls. l ∷ ls) (unmarked_is lines)

abbrev pub mark_at : List TableLine → Paths → Option Mark
mark_at lines q = find path_cmp q (marks lines)

keys_marks : (lines : List TableLine) → keys_of (marks lines) ≡ map (λ (l : TableLine). l.path) lines
keys_marks [] = refl
keys_marks (l ∷ lines) = ap (λ ps. l.path ∷ ps) (keys_marks lines)

-- ---- the marks of nodes

-- what a line says of a node
abbrev pub node_mark : Option Node → Option Mark
node_mark None = None
node_mark (Some (File bytes true)) = Some Executable
node_mark (Some (File bytes false)) = None
node_mark (Some (Dir names)) = None
node_mark (Some (Link text)) = Some (Target text)

marked : (node : Node) (mark : Mark) (b : Bool) (o : Option Node) (m : Option Mark) → node_mark (Some node) ≡ Some mark → m ≡ node_mark o → cond b (Some mark) m ≡ node_mark (cond b (Some node) o)
marked node mark true o m is rest = sym is
marked node mark false o m is rest = rest

unmarked_node : (node : Node) (b : Bool) (o : Option Node) (m : Option Mark) → node_mark (Some node) ≡ None → (b ≡ true → o ≡ None) → m ≡ node_mark o → m ≡ node_mark (cond b (Some node) o)
unmarked_node node true o m is again rest = rest ∙ (ap node_mark (again refl) ∙ sym is)
unmarked_node node false o m is again rest = rest

-- the line of a path says what its node has
pub find_marks : (es : List Mapped) → T (is_sorted path_cmp es) → (q : Paths) → find path_cmp q (marks (lines_in es)) ≡ node_mark (found es q)
find_marks [] up q = refl
find_marks ((p, File bytes true) ∷ es) up q =
    marked (File bytes true) Executable (eq_by_cmp path_cmp q p) (found es q) _ refl (find_marks es (rest_sorted p (File bytes true) es up) q)
find_marks ((p, File bytes false) ∷ es) up q =
    unmarked_node (File bytes false) (eq_by_cmp path_cmp q p) (found es q) _ refl (none_again p (File bytes false) es up q) (find_marks es (rest_sorted p (File bytes false) es up) q)
find_marks ((p, Dir names) ∷ es) up q =
    unmarked_node (Dir names) (eq_by_cmp path_cmp q p) (found es q) _ refl (none_again p (Dir names) es up q) (find_marks es (rest_sorted p (Dir names) es up) q)
find_marks ((p, Link text) ∷ es) up q =
    marked (Link text) (Target text) (eq_by_cmp path_cmp q p) (found es q) _ refl (find_marks es (rest_sorted p (Link text) es up) q)

below_marks : (k : Paths) (es : List Mapped) → T (below_all path_cmp k es) → T (below_all path_cmp k (marks (lines_in es)))
below_marks k [] h = tt
below_marks k ((p, File bytes true) ∷ es) h = both (is_lt (path_cmp k p)) _ (first (is_lt (path_cmp k p)) _ h) (below_marks k es (second (is_lt (path_cmp k p)) _ h))
below_marks k ((p, File bytes false) ∷ es) h = below_marks k es (second (is_lt (path_cmp k p)) _ h)
below_marks k ((p, Dir names) ∷ es) h = below_marks k es (second (is_lt (path_cmp k p)) _ h)
below_marks k ((p, Link text) ∷ es) h = both (is_lt (path_cmp k p)) _ (first (is_lt (path_cmp k p)) _ h) (below_marks k es (second (is_lt (path_cmp k p)) _ h))

marks_sorted : (es : List Mapped) → T (is_sorted path_cmp es) → T (is_sorted path_cmp (marks (lines_in es)))
marks_sorted [] up = tt
marks_sorted ((p, File bytes true) ∷ es) up = both (below_all path_cmp p (marks (lines_in es))) _ (below_marks p es (first (below_all path_cmp p es) _ up)) (marks_sorted es (rest_sorted p (File bytes true) es up))
marks_sorted ((p, File bytes false) ∷ es) up = marks_sorted es (rest_sorted p (File bytes false) es up)
marks_sorted ((p, Dir names) ∷ es) up = marks_sorted es (rest_sorted p (Dir names) es up)
marks_sorted ((p, Link text) ∷ es) up = both (below_all path_cmp p (marks (lines_in es))) _ (below_marks p es (first (below_all path_cmp p es) _ up)) (marks_sorted es (rest_sorted p (Link text) es up))

-- ---- what lines set among nodes

-- a link where a line says so
abbrev pub linked_by : Option Mark → Option Node → Option Node
linked_by None o = o
linked_by (Some (Target text)) o = Some (Link text)
linked_by (Some Executable) o = o

abbrev pub flag_by : Option Mark → Bool
flag_by None = false
flag_by (Some mark) = is_flag_mark mark

flag_is : (lines : List TableLine) (q : Paths) → flag_at lines q ≡ flag_by (mark_at lines q)
flag_is [] q = refl
flag_is (l ∷ lines) q = by (eq_by_cmp path_cmp q l.path) (flag_is lines q)
  where
    by : (b : Bool) → flag_at lines q ≡ flag_by (mark_at lines q) → cond b (is_flag_mark l.mark) (flag_at lines q) ≡ flag_by (cond b (Some l.mark) (mark_at lines q))
    by true rest = refl
    by false rest = rest

link_set : (text : List ℕ) (b : Bool) (m : Option Mark) (o : Option Node) → (b ≡ true → m ≡ None) → linked_by m (cond b (Some (Link text)) o) ≡ linked_by (cond b (Some (Target text)) m) o
link_set text true m o again = ap (λ x. linked_by x (Some (Link text))) (again refl)
link_set text false m o again = refl

flag_passed : (b : Bool) (m : Option Mark) (o : Option Node) → (b ≡ true → m ≡ None) → linked_by m o ≡ linked_by (cond b (Some Executable) m) o
flag_passed true m o again = ap (λ x. linked_by x o) (again refl)
flag_passed false m o again = refl

no_more : (l : TableLine) (lines : List TableLine) → T (is_sorted path_cmp (marks (l ∷ lines))) → (q : Paths) → eq_by_cmp path_cmp q l.path ≡ true → mark_at lines q ≡ None
no_more l lines up q same = subst (λ k. find path_cmp k (marks lines) ≡ None) (sym (path_eq_same q l.path same)) (none_behind l.path (marks lines) (first (below_all path_cmp l.path (marks lines)) _ up))

links_set : (lines : List TableLine) → T (is_sorted path_cmp (marks lines)) → (ms : List Mapped) (q : Paths) → found (with_links ms (links_among lines)) q ≡ linked_by (mark_at lines q) (found ms q)
links_set [] up ms q = refl
links_set (l ∷ lines) up ms q = by l.path l.mark (links_set lines (second (below_all path_cmp l.path (marks lines)) _ up)) (no_more l lines up q)
  where
    by : (p : Paths) (mark : Mark) → ((ns : List Mapped) (r : Paths) → found (with_links ns (links_among lines)) r ≡ linked_by (mark_at lines r) (found ns r)) → (eq_by_cmp path_cmp q p ≡ true → mark_at lines q ≡ None) → found (with_links ms (cons_option (link_in_line p mark) (links_among lines))) q ≡ linked_by (cond (eq_by_cmp path_cmp q p) (Some mark) (mark_at lines q)) (found ms q)
    by p (Target text) rest again =
        rest (put path_cmp p (Link text) ms) q
        ∙ ap (linked_by (mark_at lines q)) (find_linked ms (record { path = p; text = text }) q)
        ∙ link_set text (eq_by_cmp path_cmp q p) (mark_at lines q) (found ms q) again
    by p Executable rest again = rest ms q ∙ flag_passed (eq_by_cmp path_cmp q p) (mark_at lines q) (found ms q) again

-- ---- a line has its place

abbrev Stands : Store → TableLine → Type 0
Stands S l = IsTrue (has_place (over S true) l)

can_at : (S : Store) (lines : List TableLine) → All (Stands S) lines → (q : Paths) (mark : Mark) → mark_at lines q ≡ Some mark → can_mark (over S true) q mark ≡ true
can_at S [] all q mark is = cc
can_at S (l ∷ lines) all q mark is = by (eq_by_cmp path_cmp q l.path) refl is (can_at S lines (All-tail (Stands S) l lines all) q mark)
  where
    by : (b : Bool) → eq_by_cmp path_cmp q l.path ≡ b → cond b (Some l.mark) (mark_at lines q) ≡ Some mark → (mark_at lines q ≡ Some mark → can_mark (over S true) q mark ≡ true) → can_mark (over S true) q mark ≡ true
    by true same is rest =
        ap (λ p. can_mark (over S true) p mark) (path_eq_same q l.path same)
        ∙ (ap (can_mark (over S true) l.path) (sym (same_Some l.mark mark is)) ∙ All-head (Stands S) l lines all)
    by false other is rest = rest is

-- nothing stands where a link is set, and a file where a flag is
Fits : Option Mark → Option Node → Type 0
Fits None o = Unit {0}
Fits (Some (Target text)) o = is_none o ≡ true
Fits (Some Executable) o = is_file o ≡ true

fits : (S : Store) (q : Paths) (m : Option Mark) → ((mark : Mark) → m ≡ Some mark → can_mark (over S true) q mark ≡ true) → Fits m (S q)
unfolding Fits
fits S q None can = tt
fits S q (Some (Target text)) can = (and_parts (is_dir (S (parent q))) (is_none (S q)) (can (Target text) refl)).1
fits S q (Some Executable) can = can Executable refl

-- a file or a directory, or nothing
abbrev pub IsNoLink : Option Node → Type 0
IsNoLink None = Unit {0}
IsNoLink (Some (File bytes exec)) = Unit {0}
IsNoLink (Some (Dir names)) = Unit {0}
IsNoLink (Some (Link text)) = ⊥

no_link : (k : HostKind) (bytes : List ℕ) → IsNoLink (Some (node_of_kind k bytes))
no_link kind.File bytes = tt
no_link kind.Folder bytes = tt
no_link kind.Other bytes = tt

no_links : (o : Option Entry) → IsNoLink (option_map node_of o)
no_links None = tt
no_links (Some e) = no_link e.kind e.bytes

-- files and directories alone are walked
pub unlisted_plain : (hs : List Held) (q : Paths) → IsNoLink (found (unlisted hs) q)
unlisted_plain hs [] = tt
unlisted_plain hs (n ∷ r) = subst IsNoLink (sym (find_unlisted hs n r)) (no_links (find parts_cmp (n ∷ r) hs))

-- what stands there once the lines are set
abbrev pub set_by : Option Mark → Option Node → Option Node
set_by m o = linked_by m (with_exec (flag_by m) o)

mark_set : (m : Option Mark) (o : Option Node) → Fits m o → IsNoLink o → node_mark (set_by m o) ≡ m
unfolding Fits
mark_set None None fit plain = refl
mark_set None (Some (File bytes exec)) fit plain = refl
mark_set None (Some (Dir names)) fit plain = refl
mark_set None (Some (Link text)) fit plain = absurd plain
mark_set (Some (Target text)) o fit plain = refl
mark_set (Some Executable) None fit plain = absurd (false≢true fit)
mark_set (Some Executable) (Some (File bytes exec)) fit plain = refl
mark_set (Some Executable) (Some (Dir names)) fit plain = absurd (false≢true fit)
mark_set (Some Executable) (Some (Link text)) fit plain = absurd plain

entry_set : (m : Option Mark) (o : Option Node) → Fits m o → host_entry (set_by m o) ≡ host_entry o
unfolding Fits
entry_set None None fit = refl
entry_set None (Some (File bytes exec)) fit = refl
entry_set None (Some (Dir names)) fit = refl
entry_set None (Some (Link text)) fit = refl
entry_set (Some (Target text)) None fit = refl
entry_set (Some (Target text)) (Some node) fit = absurd (false≢true fit)
entry_set (Some Executable) None fit = refl
entry_set (Some Executable) (Some (File bytes exec)) fit = refl
entry_set (Some Executable) (Some (Dir names)) fit = refl
entry_set (Some Executable) (Some (Link text)) fit = refl

-- ---- names that directories list change neither

relisted_mark : (es : List Mapped) (q : Paths) (o : Option Node) → node_mark (option_map (relisted es q) o) ≡ node_mark o
relisted_mark es q None = refl
relisted_mark es q (Some (File bytes true)) = refl
relisted_mark es q (Some (File bytes false)) = refl
relisted_mark es q (Some (Dir names)) = refl
relisted_mark es q (Some (Link text)) = refl

pub relisted_entry : (es : List Mapped) (q : Paths) (o : Option Node) → host_entry (option_map (relisted es q) o) ≡ host_entry o
relisted_entry es q None = refl
relisted_entry es q (Some (File bytes exec)) = refl
relisted_entry es q (Some (Dir names)) = refl
relisted_entry es q (Some (Link text)) = refl

-- ---- lines that are a table over files and directories

module _ (us : List Mapped) (plain : (q : Paths) → IsNoLink (found us q)) (lines : List TableLine) (table : IsTable (found us) lines) where
  table_sorted : T (is_sorted path_cmp (marks lines))
  unfolding IsStrictlySortedBy
  table_sorted = sorted_test path_cmp (marks lines) (subst (IsStrictlySortedBy path_cmp) (sym (keys_marks lines)) table.ascending.1)

  pub set_at : (q : Paths) → found (with_lines us lines) q ≡ set_by (mark_at lines q) (found us q)
  set_at q =
      links_set lines table_sorted (with_flags us lines) q
      ∙ ap (linked_by (mark_at lines q)) (find_flags us lines q ∙ ap (λ f. with_exec f (found us q)) (flag_is lines q))

  fits_at : (q : Paths) → Fits (mark_at lines q) (found us q)
  fits_at q = fits (found us) q (mark_at lines q) (can_at (found us) lines table.stand q)

  -- the lines say nothing of the host's entries
  pub entry_at : (q : Paths) → host_entry (found (with_lines us lines) q) ≡ host_entry (found us q)
  entry_at q = ap host_entry (set_at q) ∙ entry_set (mark_at lines q) (found us q) (fits_at q)

  mark_is : (q : Paths) → node_mark (found (with_lines us lines) q) ≡ find path_cmp q (marks lines)
  mark_is q = ap node_mark (set_at q) ∙ mark_set (mark_at lines q) (found us q) (fits_at q) (plain q)

  -- the lines of the entries with the names that their directories list are these lines
  pub lines_stay : (es : List Mapped) → T (is_sorted path_cmp es) → ((q : Paths) → found es q ≡ option_map (relisted (with_lines us lines) q) (found (with_lines us lines) q)) → lines_in es ≡ lines
  lines_stay es up is =
      sym (unmarked_is (lines_in es))
      ∙ (ap unmarked (same_entries path_cmp path_total path_same (marks (lines_in es)) (marks lines) (marks_sorted es up) table_sorted (λ q.
      find_marks es up q ∙ (ap node_mark (is q) ∙ (relisted_mark (with_lines us lines) q (found (with_lines us lines) q) ∙ mark_is q))))
      ∙ unmarked_is lines)
