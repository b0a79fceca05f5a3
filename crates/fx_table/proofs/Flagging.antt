-- What the lines of a table say is set among files and directories: flags, which leave all else as it is, and links.
use Rattle.fx_table.proofs.Prelude.{◌≡◌, ℕ, zero, suc, ◌+◌, ◌<◌, Bool, true, false, cond, T, List, [], ◌∷◌, ◌++◌, map, take, drop, length, get_or, arith, Option, Some, None, is_some, IfSome, IsTrue, All, refl, sym, ◌∙◌, ap, subst, unwrap_or, Less, eq_by_cmp, AllByRecursion, cons_option, slice_get, slice_set, IsStrictlySortedBy, keys_of, find, is_sorted, same_Some, All-nil, All-cons, All-head, All-tail, or_right, or_left, strictly_sorted, sorted_test, Node, File, Dir, Link, Change, change_at, path_cmp, path_eq_same, Store, Mark, Target, Executable, TableLine, TableLink, is_flag_mark, has_flags, is_dir, has_place, links_among, link_in_line, flag_at, IsLine, IsLink, AreLinesOver, link_change, links_in, mark_node, line_change, mark_in, lines_in, Mapped, with_flag, with_flags, with_lines, mapped_of, IsNodeBounded, IsOfBytes, AreOfBytes, IsTreeShaped, change_of, changes_of, over, is_executable, flagged_at, with_exec, flag_change, links_alone, MakeLinks, CanMerge, Parts}
use Rattle.fx_table.proofs.Linking.{IsLinked, CanStand, links_made, apart_from}
use Rattle.fx_table.proofs.Mixing.{made_links}
use Rattle.fx_table.proofs.Shapes.{found}

-- ---- which files are executable

marked : (mark : Mark) → is_executable (Some (mark_node mark)) ≡ is_flag_mark mark
marked (Target text) = refl
marked Executable = refl

flags_found : (lines : List TableLine) (q : Parts) → flagged_at (map line_change lines) q ≡ flag_at lines q
flags_found [] q = refl
flags_found (l ∷ lines) q = by (eq_by_cmp path_cmp q l.path) (flags_found lines q)
  where
    by : (b : Bool) → flagged_at (map line_change lines) q ≡ flag_at lines q → is_executable (unwrap_or (cond b (Some (Some (mark_node l.mark))) (change_at (map line_change lines) q)) None) ≡ cond b (is_flag_mark l.mark) (flag_at lines q)
    by true rest = marked l.mark
    by false rest = rest

module _ (lines : List Change) (made : lines ≡ map line_change (lines_in lines)) where
  flagged_is : (q : Parts) → flagged_at lines q ≡ flag_at (lines_in lines) q
  flagged_is q = ap (λ cs. flagged_at cs q) made ∙ flags_found (lines_in lines) q

  flag_set : (e : Mapped) → flag_change lines (change_of e) ≡ change_of (with_flag (lines_in lines) e)
  flag_set (p, File bytes exec) = ap (λ f. change_of (p, File bytes f)) (flagged_is p)
  flag_set (p, Dir names) = refl
  flag_set (p, Link text) = refl

  flags_set : (es : List Mapped) → map (flag_change lines) (changes_of es) ≡ changes_of (with_flags es (lines_in lines))
  flags_set [] = refl
  flags_set (e ∷ es) = λ i. flag_set e i ∷ flags_set es i

  pub flags_are : (old new : List Change) → old ≡ changes_of (mapped_of old) → new ≡ map (flag_change lines) old → new ≡ changes_of (with_flags (mapped_of old) (lines_in lines))
  flags_are old new set is = is ∙ (ap (map (flag_change lines)) set ∙ flags_set (mapped_of old))

-- ---- the links among lines

alone_is : (lines : List TableLine) → links_alone (map line_change lines) ≡ map link_change (links_among lines)
alone_is [] = refl
alone_is (l ∷ lines) = by l.path l.mark (alone_is lines)
  where
    by : (p : Parts) (mark : Mark) → links_alone (map line_change lines) ≡ map link_change (links_among lines) → links_alone (record { path = p; node = Some (mark_node mark) } ∷ map line_change lines) ≡ map link_change (cons_option (link_in_line p mark) (links_among lines))
    by p (Target text) rest = ap (λ cs. record { path = p; node = Some (Link text) } ∷ cs) rest
    by p Executable rest = rest

links_back : (links : List TableLink) → links_in (map link_change links) ≡ links
links_back [] = refl
links_back (l ∷ links) = ap (λ ls. l ∷ ls) (links_back links)

module _ (lines links : List Change) (made : lines ≡ map line_change (lines_in lines)) (is : links ≡ links_alone lines) where
  pub links_are : links_in links ≡ links_among (lines_in lines)
  links_are = ap links_in (is ∙ (ap links_alone made ∙ alone_is (lines_in lines))) ∙ links_back (links_among (lines_in lines))

  pub links_make : MakeLinks links
  links_make = made_links links (is ∙ (ap links_alone made ∙ (alone_is (lines_in lines) ∙ ap (map link_change) (sym links_are))))

-- ---- files with their flags

pub find_flags : (es : List Mapped) (lines : List TableLine) (q : Parts) → found (with_flags es lines) q ≡ with_exec (flag_at lines q) (found es q)
find_flags [] lines q = refl
find_flags ((p, File bytes exec) ∷ es) lines q = by (eq_by_cmp path_cmp q p) refl (find_flags es lines q)
  where
    by : (b : Bool) → eq_by_cmp path_cmp q p ≡ b → found (with_flags es lines) q ≡ with_exec (flag_at lines q) (found es q) → cond b (Some (File bytes (flag_at lines p))) (found (with_flags es lines) q) ≡ with_exec (flag_at lines q) (cond b (Some (File bytes exec)) (found es q))
    by true same rest = ap (λ x. Some (File bytes (flag_at lines x))) (sym (path_eq_same q p same))
    by false same rest = rest
find_flags ((p, Dir names) ∷ es) lines q = elim (eq_by_cmp path_cmp q p) as (λ b. cond b (Some (Dir names)) (found (with_flags es lines) q) ≡ with_exec (flag_at lines q) (cond b (Some (Dir names)) (found es q))) [ true ↦ refl | false ↦ find_flags es lines q ]
find_flags ((p, Link text) ∷ es) lines q = elim (eq_by_cmp path_cmp q p) as (λ b. cond b (Some (Link text)) (found (with_flags es lines) q) ≡ with_exec (flag_at lines q) (cond b (Some (Link text)) (found es q))) [ true ↦ refl | false ↦ find_flags es lines q ]

pub keys_flags : (es : List Mapped) (lines : List TableLine) → keys_of (with_flags es lines) ≡ keys_of es
keys_flags [] lines = refl
keys_flags ((p, File bytes exec) ∷ es) lines = ap (λ ks. p ∷ ks) (keys_flags es lines)
keys_flags ((p, Dir names) ∷ es) lines = ap (λ ks. p ∷ ks) (keys_flags es lines)
keys_flags ((p, Link text) ∷ es) lines = ap (λ ks. p ∷ ks) (keys_flags es lines)

pub sorted_flags : (es : List Mapped) (lines : List TableLine) → T (is_sorted path_cmp es) → T (is_sorted path_cmp (with_flags es lines))
sorted_flags es lines up = sorted_test path_cmp (with_flags es lines) (subst (IsStrictlySortedBy path_cmp) (sym (keys_flags es lines)) (strictly_sorted path_cmp es up))

exec_dir : (flag : Bool) (o : Option Node) → is_dir (with_exec flag o) ≡ is_dir o
exec_dir flag None = refl
exec_dir flag (Some (File bytes exec)) = refl
exec_dir flag (Some (Dir names)) = refl
exec_dir flag (Some (Link text)) = refl

exec_some : (flag : Bool) (o : Option Node) → is_some (with_exec flag o) ≡ is_some o
exec_some flag None = refl
exec_some flag (Some (File bytes exec)) = refl
exec_some flag (Some (Dir names)) = refl
exec_some flag (Some (Link text)) = refl

exec_keeps : (P : Node → Type 0) → ((bytes : List ℕ) (was exec : Bool) → P (File bytes was) → P (File bytes exec)) → (flag : Bool) (o : Option Node) → IfSome o P → IfSome (with_exec flag o) P
exec_keeps P keeps flag None is = tt
exec_keeps P keeps flag (Some (File bytes exec)) is = keeps bytes exec flag is
exec_keeps P keeps flag (Some (Dir names)) is = is
exec_keeps P keeps flag (Some (Link text)) is = is

module _ (es : List Mapped) (lines : List TableLine) where
  dirs_flags : (q : Parts) → is_dir (found (with_flags es lines) q) ≡ is_dir (found es q)
  dirs_flags q = ap is_dir (find_flags es lines q) ∙ exec_dir (flag_at lines q) (found es q)

  some_flags : (q : Parts) → is_some (found (with_flags es lines) q) ≡ is_some (found es q)
  some_flags q = ap is_some (find_flags es lines q) ∙ exec_some (flag_at lines q) (found es q)

  shape_flags : IsTreeShaped (found es) → IsTreeShaped (found (with_flags es lines))
  shape_flags shape = record {
    root = dirs_flags [] ∙ shape.root;
    above = λ path name some. dirs_flags path ∙ shape.above path name (sym (some_flags (path ++ name ∷ [])) ∙ some);
    paths = λ path some. shape.paths path (sym (some_flags path) ∙ some);
    leaves = λ path. subst (λ o. IfSome o IsNodeBounded) (sym (find_flags es lines path)) (exec_keeps IsNodeBounded (λ bytes was exec is. is) (flag_at lines path) (found es path) (shape.leaves path));
  }

  pub bytes_flags : AreOfBytes (found es) → AreOfBytes (found (with_flags es lines))
  bytes_flags held q = subst (λ o. IfSome o IsOfBytes) (sym (find_flags es lines q)) (exec_keeps IsOfBytes (λ bytes was exec is. is) (flag_at lines q) (found es q) (held q))

  pub linked_flags : (S : Store) → IsLinked S es → IsLinked S (with_flags es lines)
  linked_flags S linked = record {
    sorted = sorted_flags es lines linked.sorted;
    shape = shape_flags linked.shape;
    dirs = λ q. dirs_flags q ∙ linked.dirs q;
  }

  apart_flags : (ks : List TableLink) → AllByRecursion (λ (k : TableLink). find path_cmp k.path es ≡ None) ks → AllByRecursion (λ (k : TableLink). find path_cmp k.path (with_flags es lines) ≡ None) ks
  apart_flags [] all = tt
  apart_flags (k ∷ ks) all = (find_flags es lines k.path ∙ ap (with_exec (flag_at lines k.path)) all.0, apart_flags ks all.1)

  pub merge_flags : (ks : List TableLink) → CanMerge es ks → CanMerge (with_flags es lines) ks
  merge_flags ks can = record { apart = apart_flags ks can.apart; ascending = can.ascending }

-- ---- the links of lines that have their places

abbrev paths_of : List TableLine → List Parts
paths_of lines = map (λ (l : TableLine). l.path) lines

abbrev link_paths : List TableLink → List Parts
link_paths links = map (λ (l : TableLink). l.path) links

abbrev HasPlace : Store → Bool → TableLine → Type 0
HasPlace S flags l = IsTrue (has_place (over S flags) l)

links_all : (P : TableLine → Type 0) (Q : TableLink → Type 0) → ((p : Parts) (text : List ℕ) → P (record { path = p; mark = Target text }) → Q (record { path = p; text = text })) → (lines : List TableLine) → All P lines → All Q (links_among lines)
links_all P Q f [] all = All-nil Q
links_all P Q f (l ∷ lines) all = by l.path l.mark (All-head P l lines all) (links_all P Q f lines (All-tail P l lines all))
  where
    by : (p : Parts) (mark : Mark) → P (record { path = p; mark = mark }) → All Q (links_among lines) → All Q (cons_option (link_in_line p mark) (links_among lines))
    by p (Target text) here rest = All-cons Q (record { path = p; text = text }) (links_among lines) (f p text here) rest
    by p Executable here rest = rest

links_valid : (lines : List TableLine) → All IsLine lines → All IsLink (links_among lines)
links_valid lines all = links_all IsLine IsLink (λ p text valid. record { path = valid.path; text = valid.mark }) lines all

links_stand : (S : Store) (flags : Bool) (lines : List TableLine) → All (HasPlace S flags) lines → All (CanStand S) (links_among lines)
links_stand S flags lines all = links_all (HasPlace S flags) (CanStand S) (λ p text can. can) lines all

links_above : (P : Parts → Type 0) (lines : List TableLine) → AllByRecursion P (paths_of lines) → AllByRecursion P (link_paths (links_among lines))
links_above P [] all = tt
links_above P (l ∷ lines) all = by l.path l.mark all.0 (links_above P lines all.1)
  where
    by : (p : Parts) (mark : Mark) → P p → AllByRecursion P (link_paths (links_among lines)) → AllByRecursion P (link_paths (cons_option (link_in_line p mark) (links_among lines)))
    by p (Target text) here rest = (here, rest)
    by p Executable here rest = rest

links_ascend : (lines : List TableLine) → IsStrictlySortedBy path_cmp (paths_of lines) → IsStrictlySortedBy path_cmp (link_paths (links_among lines))
unfolding IsStrictlySortedBy
links_ascend [] up = tt
links_ascend (l ∷ lines) up = by l.path l.mark up.0 (links_ascend lines up.1)
  where
    by : (p : Parts) (mark : Mark) → AllByRecursion (λ q. path_cmp p q ≡ Less) (paths_of lines) → IsStrictlySortedBy path_cmp (link_paths (links_among lines)) → IsStrictlySortedBy path_cmp (link_paths (cons_option (link_in_line p mark) (links_among lines)))
    by p (Target text) above rest = (links_above (λ q. path_cmp p q ≡ Less) lines above, rest)
    by p Executable above rest = rest

module _ (S : Store) (flags : Bool) (lines : List TableLine) (table : AreLinesOver (over S flags) lines) where
  pub lines_made : (es : List Mapped) → IsLinked S es → IsLinked S (with_lines es lines)
  lines_made es linked = links_made S (with_flags es lines) (links_among lines) (links_valid lines table.valid) (links_stand S flags lines table.stand) (linked_flags es lines S linked)

  pub lines_merge : (es : List Mapped) → ((q : Parts) → S q ≡ found es q) → CanMerge es (links_among lines)
  unfolding IsStrictlySortedBy
  lines_merge es same = record { apart = apart_from S es (links_among lines) same (links_stand S flags lines table.stand); ascending = links_ascend lines table.ascending.1 }

-- ---- one line after another

pub flag_within : (cs : List Change) (i : ℕ) (c : Change) → slice_get cs i ≡ Some c → is_flag_mark (mark_in c.node) ≡ true → has_flags (lines_in cs) ≡ true
flag_within [] i c is flag = cc
flag_within (d ∷ cs) zero c is flag =
    let same : d ≡ c = same_Some d c is in
    or_left (is_flag_mark (mark_in d.node)) (has_flags (lines_in cs)) (ap (λ (x : Change). is_flag_mark (mark_in x.node)) same ∙ flag)
flag_within (d ∷ cs) (suc i) c is flag = or_right (is_flag_mark (mark_in d.node)) (has_flags (lines_in cs)) (flag_within cs i c is flag)

-- one change more has its flag
pub flags_more : (f : Change → Change) (cs now : List Change) (i : ℕ) (c d : Change) → i < length cs → now ≡ map f (take i cs) ++ drop i cs → c ≡ get_or now i c → d ≡ f c → slice_set now i d ≡ map f (take (i + 1) cs) ++ drop (i + 1) cs
flags_more f [] now i c d lt is there set = absurd (omega arith)
flags_more f (x ∷ cs) now zero c d lt is there set =
    let here : x ≡ c = sym (there ∙ ap (λ l. get_or l 0 c) is) in
    ap (λ l. slice_set l 0 d) is ∙ (ap (λ y. y ∷ cs) (set ∙ ap f (sym here)) ∙ ap (λ l. f x ∷ l) (nothing cs))
  where
    nothing : (ys : List Change) → ys ≡ drop 0 ys
    nothing [] = refl
    nothing (y ∷ ys) = refl
flags_more f (x ∷ cs) now (suc i) c d lt is there set =
    let one : suc i + 1 ≡ suc (i + 1) = omega arith in
    let further : slice_set (map f (take i cs) ++ drop i cs) i d ≡ map f (take (i + 1) cs) ++ drop (i + 1) cs =
    flags_more f cs (map f (take i cs) ++ drop i cs) i c d (omega (arith, lt)) refl (there ∙ ap (λ l. get_or l (suc i) c) is) set in
    ap (λ l. slice_set l (suc i) d) is ∙ (ap (λ l. f x ∷ l) further ∙ sym (ap (λ n. map f (take n (x ∷ cs)) ++ drop n (x ∷ cs)) one))
