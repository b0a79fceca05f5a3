-- Links that are a table over files and directories are set among them, and the shape of a filestore stays.
use Rattle.fx_table.proofs.Prelude.{◌≡◌, inl, inr, ℕ, Bool, true, false, cond, ◌&&◌, T, List, [], ◌∷◌, ◌++◌, Option, Some, None, is_some, is_none, IsSome, IfSome, IsTrue, All, refl, sym, ◌∙◌, ap, subst, eq_by_cmp, AllByRecursion, put, find, is_sorted, is_sorted-put, find-put, cases_Bool, false≢true, All-head, All-tail, above_pushed, Node, Link, path_cmp, IsPath, path_total, path_eq_same, Store, TableLink, IsLink, is_dir, can_stand, Mapped, with_links, second_true, first_true, parent, Parts}
use Rattle.fx_table.proofs.Shapes.{found, IsTreeShaped, IsNodeBounded}

-- one more link
abbrev pub linked_at : Store → TableLink → Store
linked_at S link q = cond (eq_by_cmp path_cmp q link.path) (Some (Link link.text)) (S q)

pub find_linked : (es : List Mapped) (link : TableLink) (q : Parts) → found (put path_cmp link.path (Link link.text) es) q ≡ linked_at (found es) link q
find_linked es link q = find-put path_cmp path_total q link.path (Link link.text) es

-- a link that can be made over a filestore of files and directories, whose directories are those of this one
record CanLink (S now : Store) (link : TableLink) : Type 0 where
  dirs : (q : Parts) → is_dir (now q) ≡ is_dir (S q)
  within : IsLink link
  stands : can_stand S link.path ≡ true

no_dir : (o : Option Node) → is_none o ≡ true → is_dir o ≡ false
no_dir None e = refl
no_dir (Some node) e = absurd (false≢true e)

module _ (S now : Store) (link : TableLink) (can : CanLink S now link) where
  is_free : is_dir (S link.path) ≡ false
  is_free = no_dir (S link.path) (second_true (is_dir (S (parent link.path))) (is_none (S link.path)) can.stands)

  dirs_stay : (q : Parts) → is_dir (linked_at now link q) ≡ is_dir (S q)
  dirs_stay q = elim (cases_Bool (eq_by_cmp path_cmp q link.path)) [
    | inl same ↦
        ap (λ b. is_dir (cond b (Some (Link link.text)) (now q))) same
        ∙ sym (ap (λ p. is_dir (S p)) (path_eq_same q link.path same) ∙ is_free)
    | inr other ↦ ap (λ b. is_dir (cond b (Some (Link link.text)) (now q))) other ∙ can.dirs q
  ]

  dir_stays : (q : Parts) → is_dir (now q) ≡ true → is_dir (linked_at now link q) ≡ true
  dir_stays q is = dirs_stay q ∙ (sym (can.dirs q) ∙ is)

  above_linked : IsTreeShaped now → (path : Parts) (name : List ℕ) → is_some (linked_at now link (path ++ name ∷ [])) ≡ true → is_dir (linked_at now link path) ≡ true
  above_linked shape path name some = dir_stays path (elim (cases_Bool (eq_by_cmp path_cmp (path ++ name ∷ []) link.path)) [
    | inl same ↦
        let at : path ++ name ∷ [] ≡ link.path = path_eq_same (path ++ name ∷ []) link.path same in
        let around : path ≡ parent link.path = sym (above_pushed path name) ∙ ap parent at in
        can.dirs path ∙ ap (λ p. is_dir (S p)) around ∙ first_true (is_dir (S (parent link.path))) (is_none (S link.path)) can.stands
    | inr other ↦ shape.above path name (sym (ap (λ b. is_some (cond b (Some (Link link.text)) (now (path ++ name ∷ [])))) other) ∙ some)
  ])

  paths_linked : IsTreeShaped now → (path : Parts) → IsSome (linked_at now link path) → IsPath path
  paths_linked shape path some = elim (cases_Bool (eq_by_cmp path_cmp path link.path)) [
    | inl same ↦ subst IsPath (sym (path_eq_same path link.path same)) can.within.path
    | inr other ↦ shape.paths path (sym (ap (λ b. is_some (cond b (Some (Link link.text)) (now path))) other) ∙ some)
  ]

  leaf_linked : IsTreeShaped now → (path : Parts) → IfSome (linked_at now link path) IsNodeBounded
  leaf_linked shape path = either (eq_by_cmp path_cmp path link.path)
    where
      either : (b : Bool) → IfSome (cond b (Some (Link link.text)) (now path)) IsNodeBounded
      either true = can.within.text
      either false = shape.leaves path

  shape_linked : IsTreeShaped now → IsTreeShaped (linked_at now link)
  shape_linked shape = record {
    root = dir_stays [] shape.root;
    above = above_linked shape;
    paths = paths_linked shape;
    leaves = leaf_linked shape;
  }

-- what the entries are once the links are made
pub record IsLinked (S : Store) (es : List Mapped) : Type 0 where
  pub sorted : T (is_sorted path_cmp es)
  pub shape : IsTreeShaped (found es)
  pub dirs : (q : Parts) → is_dir (found es q) ≡ is_dir (S q)

abbrev pub CanStand : Store → TableLink → Type 0
CanStand S l = IsTrue (can_stand S l.path)

pub links_made : (S : Store) (es : List Mapped) (links : List TableLink) → All IsLink links → All (CanStand S) links → IsLinked S es → IsLinked S (with_links es links)
links_made S es [] valid stand made = made
links_made S es (link ∷ links) valid stand made =
    let can : CanLink S (found es) link = record { dirs = made.dirs; within = All-head IsLink link links valid; stands = All-head (CanStand S) link links stand } in
    let same : found (put path_cmp link.path (Link link.text) es) ≡ linked_at (found es) link = λ i q. find_linked es link q i in
    links_made S (put path_cmp link.path (Link link.text) es) links (All-tail IsLink link links valid) (All-tail (CanStand S) link links stand) (record {
      sorted = is_sorted-put path_cmp path_total link.path (Link link.text) es made.sorted;
      shape = subst IsTreeShaped (sym same) (shape_linked S (found es) link can made.shape);
      dirs = λ q. ap is_dir (find_linked es link q) ∙ dirs_stay S (found es) link can q;
    })

-- ---- links that are a table stand apart

free_of : (o p : Option Node) → (is_dir p && is_none o) ≡ true → o ≡ None
free_of None p e = refl
free_of (Some node) p e = absurd (by (is_dir p) e)
  where
    by : (b : Bool) → (b && false) ≡ true → ⊥
    by true e = cc
    by false e = cc

pub apart_from : (S : Store) (fs : List Mapped) (ls : List TableLink) → ((q : Parts) → S q ≡ found fs q) → All (CanStand S) ls → AllByRecursion (λ (l : TableLink). find path_cmp l.path fs ≡ None) ls
apart_from S fs [] same all = tt
apart_from S fs (l ∷ ls) same all = (sym (same l.path) ∙ free_of (S l.path) _ (All-head (CanStand S) l ls all), apart_from S fs ls same (All-tail (CanStand S) l ls all))
