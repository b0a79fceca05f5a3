-- A walk grows a tree, entry by entry in the order of paths.
use Rattle.fx_folder.proofs.Prelude.{all_both, all_end, all_front, above_pushed, not_before_itself, path_is, path_itself, same_front, none_if_never, in_table, AreFoundChanges, FindsItem, HasDir, IsFoundChange, IsFoundNode, IsGrown, paths_ahead, AddsItems, item, item_path, items_of, root_found, Item, first, is_less, second, entries_none, in_folder_cmp, parts_total, Names, name_cmp, Parts, Tree, HostKind, rest_is, IsName, IsPath, path_cmp, Change, Dir, Mapped, mapped_of, node_or_dir, rest_of, is_dir, LoadFault, Bool, Err, IfOk, List, None, Ok, OnOk, Option, Result, Some, T, [], ap, append-nil, append_assoc, arith, cond, false, inl, inr, length, refl, subst, sym, take, true, ℕ, ◌++◌, ◌-◌, ◌∙◌, ◌∷◌, ◌≡◌, ◌⊎◌, false≢true, map-append, All-nil, empty, entries, entries_sorted, find, is_sorted, below_all, AllByRecursion, keys_of, eq_by_cmp, is_eq, is_lt, ordering_then, Ordering, Equal, Greater, Less}
use Rattle.std.specs.List.Sorted.{IsStrictlySortedBy}
use Rattle.fx_base.proofs.Lists.{all_push}
use Rattle.fx_folder.proofs.Ordered.{last_of}
use Rattle.fx_folder.proofs.Ways.{root_pushed}

abbrev AllAbove : Parts → List Parts → Type 0
AllAbove p ks = AllByRecursion (λ q. path_cmp p q ≡ Less) ks

-- ---- one entry more

mapped_append : (cs ds : List Change) → mapped_of (cs ++ ds) ≡ mapped_of cs ++ mapped_of ds
mapped_append cs ds = map-append (λ (c : Change). (c.path, node_or_dir c.node)) cs ds

keys_append : (es fs : List Mapped) → keys_of (es ++ fs) ≡ keys_of es ++ keys_of fs
keys_append [] fs = refl
keys_append (e ∷ es) fs = ap (λ l. e.0 ∷ l) (keys_append es fs)

dir_append : (es fs : List Mapped) (p : Parts) → HasDir es p → HasDir (es ++ fs) p
dir_append [] fs p is = absurd (false≢true is)
dir_append (e ∷ es) fs p is = by (eq_by_cmp path_cmp p e.0) (dir_append es fs p) is
  where
    by : (b : Bool) → (HasDir es p → HasDir (es ++ fs) p) → is_dir (cond b (Some e.1) (find path_cmp p es)) ≡ true → is_dir (cond b (Some e.1) (find path_cmp p (es ++ fs))) ≡ true
    by true rest is = is
    by false rest is = rest is

dir_more : (cs ds : List Change) (p : Parts) → HasDir (mapped_of cs) p → HasDir (mapped_of (cs ++ ds)) p
dir_more cs ds p is = subst (λ l. HasDir l p) (sym (mapped_append cs ds)) (dir_append (mapped_of cs) (mapped_of ds) p is)

found_more : (cs ds : List Change) (c : Change) → IsFoundChange (mapped_of cs) c → IsFoundChange (mapped_of (cs ++ ds)) c
found_more cs ds c is = record { path = is.path; node = is.node; above = λ path name at. dir_more cs ds path (is.above path name at) }

each_more : (cs ds es : List Change) → AllByRecursion (IsFoundChange (mapped_of cs)) es → AllByRecursion (IsFoundChange (mapped_of (cs ++ ds))) es
each_more cs ds [] all = tt
each_more cs ds (c ∷ es) all = (found_more cs ds c all.0, each_more cs ds es all.1)

-- ---- the paths ahead

ahead_append : (xs ys : List Item) → paths_ahead (xs ++ ys) ≡ paths_ahead ys ++ paths_ahead xs
ahead_append [] ys = sym (append-nil (paths_ahead ys))
ahead_append (x ∷ xs) ys = ap (λ l. l ++ item_path x ∷ []) (ahead_append xs ys) ∙ append_assoc (paths_ahead ys) (paths_ahead xs) (item_path x ∷ [])

-- the paths of the entries of a folder, but for the table
abbrev children : Parts → List (List ℕ × HostKind) → List Parts
children p [] = []
children p (e ∷ es) = cond (in_table (p ++ e.0 ∷ [])) (children p es) ((p ++ e.0 ∷ []) ∷ children p es)

children_ahead : (p : Parts) (es : List (List ℕ × HostKind)) → paths_ahead (items_of p es) ≡ children p es
children_ahead p [] = refl
children_ahead p (e ∷ es) =
    ahead_append (items_of p es) (cond (in_table (p ++ e.0 ∷ [])) [] (item p e ∷ []))
    ∙ ap (λ l. paths_ahead (cond (in_table (p ++ e.0 ∷ [])) [] (item p e ∷ [])) ++ l) (children_ahead p es)
    ∙ by (in_table (p ++ e.0 ∷ []))
  where
    by : (b : Bool) → paths_ahead (cond b [] (item p e ∷ [])) ++ children p es ≡ cond b (children p es) ((p ++ e.0 ∷ []) ∷ children p es)
    by true = refl
    by false = refl

below_first : (p : Parts) (n : List ℕ) (es : List (List ℕ × HostKind)) → T (below_all name_cmp n es) → AllAbove (p ++ n ∷ []) (children p es)
below_first p n [] h = tt
below_first p n (e ∷ es) h = by (in_table (p ++ e.0 ∷ [])) (below_first p n es (second (is_lt (name_cmp n e.0)) _ h))
  where
    by : (b : Bool) → AllAbove (p ++ n ∷ []) (children p es) → AllAbove (p ++ n ∷ []) (cond b (children p es) ((p ++ e.0 ∷ []) ∷ children p es))
    by true rest = rest
    by false rest = (in_folder_cmp p n e.0 ∙ is_less _ (first (is_lt (name_cmp n e.0)) _ h), rest)

children_ascend : (p : Parts) (es : List (List ℕ × HostKind)) → T (is_sorted name_cmp es) → IsStrictlySortedBy path_cmp (children p es)
unfolding IsStrictlySortedBy
children_ascend p [] h = tt
children_ascend p (e ∷ es) h = by (in_table (p ++ e.0 ∷ [])) (below_first p e.0 es (first (below_all name_cmp e.0 es) _ h)) (children_ascend p es (second (below_all name_cmp e.0 es) _ h))
  where
    by : (b : Bool) → AllAbove (p ++ e.0 ∷ []) (children p es) → IsStrictlySortedBy path_cmp (children p es) → IsStrictlySortedBy path_cmp (cond b (children p es) ((p ++ e.0 ∷ []) ∷ children p es))
    by true above rest = rest
    by false above rest = (above, rest)

behind_none : (p : Parts) (n : List ℕ) → path_cmp p (p ++ n ∷ []) ≡ Less
behind_none p n = ap (λ q. path_cmp q (p ++ n ∷ [])) (sym (append-nil p)) ∙ same_front p [] (n ∷ [])

-- all of them stand behind their folder
children_behind : (p : Parts) (es : List (List ℕ × HostKind)) → AllAbove p (children p es)
children_behind p [] = tt
children_behind p (e ∷ es) = by (in_table (p ++ e.0 ∷ [])) (children_behind p es)
  where
    by : (b : Bool) → AllAbove p (children p es) → AllAbove p (cond b (children p es) ((p ++ e.0 ∷ []) ∷ children p es))
    by true rest = rest
    by false rest = (behind_none p e.0, rest)

-- ---- what is not below a folder comes behind all that is

before_apart : (p s r : Parts) → path_cmp p r ≡ Less → rest_of p r ≡ None → path_cmp (p ++ s) r ≡ Less
before_apart [] s r less none = cc
before_apart (a ∷ p) s [] less none = cc
before_apart (a ∷ p) s (b ∷ r) less none = by (name_cmp a b) less none (before_apart p s r)
  where
    by : (o : Ordering) → ordering_then o (path_cmp p r) ≡ Less → cond (is_eq o) (rest_of p r) None ≡ None → (path_cmp p r ≡ Less → rest_of p r ≡ None → path_cmp (p ++ s) r ≡ Less) → ordering_then o (path_cmp (p ++ s) r) ≡ Less
    by Less less none ih = refl
    by Equal less none ih = ih less none
    by Greater less none ih = cc

not_before : (p s : Parts) → path_cmp (p ++ s) p ≡ Less → ⊥
not_before p s less = by s (sym (same_front p s []) ∙ (ap (path_cmp (p ++ s)) (append-nil p) ∙ less))
  where
    by : (s : Parts) → path_cmp s [] ≡ Less → ⊥
    by [] e = cc
    by (n ∷ s) e = cc

-- a path in a directory that comes before another path is not below that
rest_apart : (p q : Parts) (n : List ℕ) → path_cmp q p ≡ Less → path_cmp p (q ++ n ∷ []) ≡ Less → rest_of p (q ++ n ∷ []) ≡ None
rest_apart p q n before behind = none_if_never _ λ s is. at s (rest_is p (q ++ n ∷ []) s is)
  where
    at : (s : Parts) → q ++ n ∷ [] ≡ p ++ s → ⊥
    at [] same = not_before_itself p (ap (path_cmp p) (sym (same ∙ append-nil p)) ∙ behind)
    at (a ∷ s) same =
        let l = last_of a s in
        let whole : q ++ n ∷ [] ≡ (p ++ l.0) ++ l.1 ∷ [] = same ∙ (ap (λ x. p ++ x) l.2 ∙ sym (append_assoc p l.0 (l.1 ∷ []))) in
        let around : q ≡ p ++ l.0 = sym (above_pushed q n) ∙ (ap (λ x. take (length x - 1) x) whole ∙ above_pushed (p ++ l.0) l.1) in
        not_before p l.0 (ap (λ x. path_cmp x p) (sym around) ∙ before)

-- ---- the children of a folder come between it and the next path

all_far : (p q : Parts) (ks : List Parts) → path_cmp p q ≡ Less → AllAbove q ks → AllAbove p ks
all_far p q [] less all = tt
all_far p q (k ∷ ks) less all = (parts_total.trans p q k less all.0, all_far p q ks less all.1)

between : (p : Parts) (ks rs : List Parts) → IsStrictlySortedBy path_cmp ks → AllByRecursion (λ k. AllAbove k rs) ks → IsStrictlySortedBy path_cmp rs → IsStrictlySortedBy path_cmp (ks ++ rs)
unfolding IsStrictlySortedBy
between p [] rs up before rest = rest
between p (k ∷ ks) rs up before rest = (all_both (λ q. path_cmp k q ≡ Less) ks rs up.0 before.0, between p ks rs up.1 before.1 rest)

put_between : (bs : List Parts) (p : Parts) (ks rs : List Parts) → IsStrictlySortedBy path_cmp (bs ++ p ∷ rs) → AllAbove p ks → IsStrictlySortedBy path_cmp ks → AllByRecursion (λ k. AllAbove k rs) ks → IsStrictlySortedBy path_cmp (bs ++ p ∷ (ks ++ rs))
unfolding IsStrictlySortedBy
put_between [] p ks rs up above ascend before = (all_both (λ q. path_cmp p q ≡ Less) ks rs above up.0, between p ks rs ascend before up.1)
put_between (a ∷ bs) p ks rs up above ascend before = (wider bs up.0, put_between bs p ks rs up.1 above ascend before)
  where
    wider : (cs : List Parts) → AllAbove a (cs ++ p ∷ rs) → AllAbove a (cs ++ p ∷ (ks ++ rs))
    wider [] all = (all.0, all_both (λ q. path_cmp a q ≡ Less) ks rs (all_far a p ks all.0 above) all.1)
    wider (b ∷ cs) all = (all.0, wider cs all.1)

-- ---- a step

before_last : (k p : Parts) (ks rs : List Parts) → AllAbove k (ks ++ p ∷ rs) → path_cmp k p ≡ Less
before_last k p [] rs all = all.0
before_last k p (l ∷ ks) rs all = before_last k p ks rs all.1

less_than : (es : List Mapped) (q p : Parts) (rs : List Parts) → HasDir es q → IsStrictlySortedBy path_cmp (keys_of es ++ p ∷ rs) → path_cmp q p ≡ Less
unfolding IsStrictlySortedBy
less_than [] q p rs is up = absurd (false≢true is)
less_than (e ∷ es) q p rs is up = by (eq_by_cmp path_cmp q e.0) refl (λ there. less_than es q p rs there up.1) is
  where
    by : (b : Bool) → eq_by_cmp path_cmp q e.0 ≡ b → (HasDir es q → path_cmp q p ≡ Less) → is_dir (cond b (Some e.1) (find path_cmp q es)) ≡ true → path_cmp q p ≡ Less
    by true same rest is = subst (λ l. path_cmp l p ≡ Less) (sym (path_is q e.0 same)) (before_last e.0 p (keys_of es) rs up.0)
    by false apart rest is = rest is

rest_sorted : (bs : List Parts) (p : Parts) (rs : List Parts) → IsStrictlySortedBy path_cmp (bs ++ p ∷ rs) → AllAbove p rs
unfolding IsStrictlySortedBy
rest_sorted [] p rs up = up.0
rest_sorted (a ∷ bs) p rs up = rest_sorted bs p rs up.1

-- what comes behind a path that was found stands in directories before it, so that it is not below it
children_before : (p : Parts) (n : List ℕ) (todo : List Item) → AllAbove p (paths_ahead todo) → AllByRecursion (λ (x : Item). path_cmp x.parent p ≡ Less) todo → AllAbove (p ++ n ∷ []) (paths_ahead todo)
children_before p n [] above before = tt
children_before p n (x ∷ todo) above before =
    let here : path_cmp p (item_path x) ≡ Less = (all_end (λ q. path_cmp p q ≡ Less) (paths_ahead todo) (item_path x ∷ []) above).0 in
    all_both (λ q. path_cmp (p ++ n ∷ []) q ≡ Less) (paths_ahead todo) (item_path x ∷ [])
    (children_before p n todo (all_front (λ q. path_cmp p q ≡ Less) (paths_ahead todo) (item_path x ∷ []) above) before.1)
    (before_apart p (n ∷ []) (item_path x) here (rest_apart p x.parent x.name before.0 here), tt)

each_before : (p : Parts) (es : List (List ℕ × HostKind)) (todo : List Item) → AllAbove p (paths_ahead todo) → AllByRecursion (λ (x : Item). path_cmp x.parent p ≡ Less) todo → AllByRecursion (λ k. AllAbove k (paths_ahead todo)) (children p es)
each_before p [] todo above before = tt
each_before p (e ∷ es) todo above before = by (in_table (p ++ e.0 ∷ [])) (each_before p es todo above before)
  where
    by : (b : Bool) → AllByRecursion (λ k. AllAbove k (paths_ahead todo)) (children p es) → AllByRecursion (λ k. AllAbove k (paths_ahead todo)) (cond b (children p es) ((p ++ e.0 ∷ []) ∷ children p es))
    by true rest = rest
    by false rest = (children_before p e.0 todo above before, rest)

parents_before : (es : List Mapped) (p : Parts) (rs : List Parts) (todo : List Item) → IsStrictlySortedBy path_cmp (keys_of es ++ p ∷ rs) → AllByRecursion (λ (x : Item). HasDir es x.parent) todo → AllByRecursion (λ (x : Item). path_cmp x.parent p ≡ Less) todo
parents_before es p rs [] up stand = tt
parents_before es p rs (x ∷ todo) up stand = (less_than es x.parent p rs stand.0 up, parents_before es p rs todo up stand.1)

stand_more : (cs ds : List Change) (todo : List Item) → AllByRecursion (λ (x : Item). HasDir (mapped_of cs) x.parent) todo → AllByRecursion (λ (x : Item). HasDir (mapped_of (cs ++ ds)) x.parent) todo
stand_more cs ds [] all = tt
stand_more cs ds (x ∷ todo) all = (dir_more cs ds x.parent all.0, stand_more cs ds todo all.1)

stand_new : (fs : List Mapped) (p : Parts) (es : List (List ℕ × HostKind)) → (es ≡ []) ⊎ HasDir fs p → AllByRecursion (λ (x : Item). HasDir fs x.parent) (items_of p es)
stand_new fs p es (inl none) = subst (λ l. AllByRecursion (λ (x : Item). HasDir fs x.parent) (items_of p l)) (sym none) tt
stand_new fs p es (inr dir) = go es
  where
    go : (es : List (List ℕ × HostKind)) → AllByRecursion (λ (x : Item). HasDir fs x.parent) (items_of p es)
    go [] = tt
    go (e ∷ es) = all_both (λ (x : Item). HasDir fs x.parent) (items_of p es) (cond (in_table (p ++ e.0 ∷ [])) [] (item p e ∷ [])) (go es) (by (in_table (p ++ e.0 ∷ [])))
      where
        by : (b : Bool) → AllByRecursion (λ (x : Item). HasDir fs x.parent) (cond b [] (item p e ∷ []))
        by true = tt
        by false = (dir, tt)

dir_last : (es : List Mapped) (p : Parts) (rs : List Parts) → IsStrictlySortedBy path_cmp (keys_of es ++ p ∷ rs) → HasDir (es ++ (p, Dir []) ∷ []) p
unfolding IsStrictlySortedBy
dir_last [] p rs up = ap (λ b. is_dir (cond b (Some (Dir [])) None)) (path_itself p)
dir_last (e ∷ es) p rs up = by (eq_by_cmp path_cmp p e.0) refl (dir_last es p rs up.1)
  where
    by : (b : Bool) → eq_by_cmp path_cmp p e.0 ≡ b → HasDir (es ++ (p, Dir []) ∷ []) p → is_dir (cond b (Some e.1) (find path_cmp p (es ++ (p, Dir []) ∷ []))) ≡ true
    by true same rest = absurd (not_before_itself p (ap (λ l. path_cmp l p) (path_is p e.0 same) ∙ before_last e.0 p (keys_of es) rs up.0))
    by false apart rest = rest

module _ (found : List Change) (todo todo' : List Item) (x : Item) (c : Change) (was : IsGrown found (todo ++ x ∷ [])) (finds : FindsItem x todo todo' c) where
  abbrev es : List Mapped
  es = mapped_of found

  ahead : paths_ahead (todo ++ x ∷ []) ≡ item_path x ∷ paths_ahead todo
  ahead = ahead_append todo (x ∷ [])

  ascends : IsStrictlySortedBy path_cmp (keys_of es ++ c.path ∷ paths_ahead todo)
  ascends = subst (λ l. IsStrictlySortedBy path_cmp (keys_of es ++ l)) (ahead ∙ ap (λ p. p ∷ paths_ahead todo) (sym finds.path)) was.ascending

  stand : AllByRecursion (λ (y : Item). HasDir es y.parent) todo
  stand = all_front (λ (y : Item). HasDir es y.parent) todo (x ∷ []) was.stand

  here : HasDir es x.parent
  here = (all_end (λ (y : Item). HasDir es y.parent) todo (x ∷ []) was.stand).0

  is_found : IsFoundChange (mapped_of (found ++ c ∷ [])) c
  is_found = record {
    path = finds.valid;
    node = finds.node;
    above = λ path name at.
        let whole : path ++ name ∷ [] ≡ x.parent ++ x.name ∷ [] = sym at ∙ finds.path in
        let around : path ≡ x.parent = sym (above_pushed path name) ∙ (ap (λ l. take (length l - 1) l) whole ∙ above_pushed x.parent x.name) in
        dir_more found (c ∷ []) path (subst (HasDir es) (sym around) here);
  }

  keys_more : keys_of (mapped_of (found ++ c ∷ [])) ≡ keys_of es ++ c.path ∷ []
  keys_more = ap keys_of (mapped_append found (c ∷ [])) ∙ keys_append es (mapped_of (c ∷ []))

  next : paths_ahead todo' ≡ children c.path (entries finds.names) ++ paths_ahead todo
  next = ap paths_ahead finds.more ∙ (ahead_append todo (items_of c.path (entries finds.names)) ∙ ap (λ l. l ++ paths_ahead todo) (children_ahead c.path (entries finds.names)))

  ascends_more : IsStrictlySortedBy path_cmp (keys_of (mapped_of (found ++ c ∷ [])) ++ paths_ahead todo')
  ascends_more =
      let kids = children c.path (entries finds.names) in
      let put = put_between (keys_of es) c.path kids (paths_ahead todo) ascends (children_behind c.path (entries finds.names)) (children_ascend c.path (entries finds.names) (entries_sorted finds.names))
      (each_before c.path (entries finds.names) todo (rest_sorted (keys_of es) c.path (paths_ahead todo) ascends) (parents_before es c.path (paths_ahead todo) todo ascends stand)) in
      subst (IsStrictlySortedBy path_cmp) (sym (ap (λ l. l ++ paths_ahead todo') keys_more ∙ (append_assoc (keys_of es) (c.path ∷ []) (paths_ahead todo') ∙ ap (λ l. keys_of es ++ c.path ∷ l) next))) put

  opened : (entries finds.names ≡ []) ⊎ HasDir (mapped_of (found ++ c ∷ [])) c.path
  opened = elim finds.inside [
    | inl none ↦ inl none
    | inr dir ↦ inr (subst (λ l. HasDir l c.path) (sym (mapped_append found (c ∷ []) ∙ ap (λ o. es ++ (c.path, node_or_dir o) ∷ []) dir)) (dir_last es c.path (paths_ahead todo) ascends))
  ]

  pub grows : IsGrown (found ++ c ∷ []) todo'
  grows = record {
    root = dir_more found (c ∷ []) [] was.root;
    each = all_push (IsFoundChange (mapped_of (found ++ c ∷ []))) found c (each_more found (c ∷ []) found was.each) is_found;
    ascending = ascends_more;
    stand = subst (AllByRecursion (λ (y : Item). HasDir (mapped_of (found ++ c ∷ [])) y.parent)) (sym finds.more)
        (all_both (λ (y : Item). HasDir (mapped_of (found ++ c ∷ [])) y.parent) todo (items_of c.path (entries finds.names)) (stand_more found (c ∷ []) todo stand) (stand_new (mapped_of (found ++ c ∷ [])) c.path (entries finds.names) opened));
  }

pub grows_start : (names : Names) → IsGrown (root_found ∷ []) (items_of [] (entries names))
unfolding IsStrictlySortedBy
grows_start names = record {
  root = refl;
  each = (record { path = record { names = All-nil IsName; short = omega arith }; node = refl; above = λ path name at. absurd (no_path path name at) }, tt);
  ascending =
      let same = children_ahead [] (entries names) in
      subst (λ l. IsStrictlySortedBy path_cmp ([] ∷ l)) (sym same) (children_behind [] (entries names), children_ascend [] (entries names) (entries_sorted names));
  stand = stand_new (mapped_of (root_found ∷ [])) [] (entries names) (inr refl);
}
  where
    no_path : (path : Parts) (name : List ℕ) → [] ≡ path ++ name ∷ [] → ⊥
    no_path [] name e = cc
    no_path (n ∷ path) name e = cc

-- all is walked
pub grown : (found : List Change) → IsGrown found [] → AreFoundChanges found
grown found is = record {
  root = is.root;
  each = is.each;
  ascending = subst (IsStrictlySortedBy path_cmp) (append-nil (keys_of (mapped_of found))) is.ascending;
}

pub begin_grown : (names : Names) (found start : List Change) (todo first : List Item) (p q : Parts) (ns : List (List ℕ)) → found ≡ start ++ record { path = q; node = Some (Dir ns) } ∷ [] → start ≡ [] → q ≡ [] → ns ≡ [] → todo ≡ first ++ items_of p (entries names) → first ≡ [] → p ≡ [] → IsGrown found todo
begin_grown names found start todo first p q ns f s b c d e g =
    let here : found ≡ root_found ∷ [] = f ∙ root_pushed start q ns s b c in
    let there : todo ≡ items_of [] (entries names) = d ∙ (ap (λ l. l ++ items_of p (entries names)) e ∙ ap (λ r. items_of r (entries names)) g) in
    subst (λ l. IsGrown l todo) (sym here) (subst (IsGrown (root_found ∷ [])) (sym there) (grows_start names))

pub grows_to : (found new : List Change) (todo todo' : List Item) (x : Item) (c : Change) → new ≡ found ++ c ∷ [] → IsGrown found (todo ++ x ∷ []) → FindsItem x todo todo' c → IsGrown new todo'
grows_to found new todo todo' x c is was finds = subst (λ l. IsGrown l todo') (sym is) (grows found todo todo' x c was finds)

pub file_found : (x : Item) (todo : List Item) (p : Parts) (r : Result Change LoadFault) → IsPath p → p ≡ item_path x → IfOk r (λ c. (c.path ≡ p) × IsFoundNode c.node) → IfOk r (FindsItem x todo todo)
file_found x todo p (Ok c) path at is = record {
  path = is.0 ∙ at;
  valid = subst IsPath (sym is.0) path;
  node = is.1;
  names = empty;
  more = sym (append-nil todo) ∙ ap (λ l. todo ++ items_of c.path l) (sym entries_none);
  inside = inl entries_none;
}
file_found x todo p (Err fault) path at is = tt

pub folder_found : (told : Option Tree) (text : List ℕ) (x : Item) (todo todo' : List Item) (p : Parts) (r : Result Change LoadFault) → IsPath p → p ≡ item_path x → IfOk r (λ c. c ≡ record { path = p; node = Some (Dir []) }) → OnOk r (AddsItems told text p todo todo') → IfOk r (FindsItem x todo todo')
folder_found told text x todo todo' p (Ok c) path at is adds = subst (FindsItem x todo todo') (sym is) (record { path = at; valid = path; node = refl; names = adds.0; more = adds.1; inside = inr refl })
folder_found told text x todo todo' p (Err fault) path at is adds = tt
