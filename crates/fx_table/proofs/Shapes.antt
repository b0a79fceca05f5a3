-- Paths with nodes, whose directories are given the names that stand in them, are a whole filestore.
use Rattle.fx_table.proofs.Prelude.{◌≡◌, inl, inr, ℕ, Bool, true, false, cond, ◌||◌, List, [], ◌∷◌, ◌++◌, map, Option, Some, None, is_some, IfSome, All, refl, sym, ◌∙◌, ap, subst, arith, length-append, Less, is_eq, eq_by_cmp, AllByRecursion, cons_option, IsStrictlySortedBy, keys_of, find, cases_Bool, false≢true, or_right, All-nil, All-cons, All-head, All-tail, name_in, parts_same, true_test, in_folder_cmp, name_in_folder, name_in_pushed, Node, File, Dir, Link, name_cmp, path_cmp, has, IsName, IsPath, path_eq_same, Store, IsWhole, IsNode, lists, IsWhole-same, has_first, is_dir, Mapped, names_below, with_names, listed, IsOfBytes, AreOfBytes, Parts}
use Rattle.std.specs.Option.{option_map}
pub use Rattle.fx_table.specs.Shaped.{IsNodeBounded, IsTreeShaped}

-- what stands at each path of a list
abbrev pub found : List Mapped → Store
found es path = find path_cmp path es

-- ---- each entry is made another at the same path

module _ {X Y : Type 0} (F : Parts × X → Parts × Y) (f : Parts → X → Y) (made : (p : Parts) (x : X) → F (p, x) ≡ (p, f p x)) where
  pub find_mapped : (es : List (Parts × X)) (q : Parts) → find path_cmp q (map F es) ≡ option_map (f q) (find path_cmp q es)
  find_mapped [] q = refl
  find_mapped ((p, x) ∷ es) q = ap (λ (m : Parts × Y). cond (eq_by_cmp path_cmp q m.0) (Some m.1) (find path_cmp q (map F es))) (made p x) ∙ by (eq_by_cmp path_cmp q p) refl (find_mapped es q)
    where
      by : (b : Bool) → eq_by_cmp path_cmp q p ≡ b → find path_cmp q (map F es) ≡ option_map (f q) (find path_cmp q es) → cond b (Some (f p x)) (find path_cmp q (map F es)) ≡ option_map (f q) (cond b (Some x) (find path_cmp q es))
      by true same rest = ap (λ r. Some (f r x)) (sym (path_eq_same q p same))
      by false other rest = rest

  pub keys_mapped : (es : List (Parts × X)) → keys_of (map F es) ≡ keys_of es
  keys_mapped [] = refl
  keys_mapped ((p, x) ∷ es) = ap (λ (m : Parts × Y). m.0 ∷ keys_of (map F es)) (made p x) ∙ ap (λ ks. p ∷ ks) (keys_mapped es)

-- ---- the names below a directory

some_or : (b x : Bool) (v : Node) (o : Option Node) → x ≡ is_some o → (b || x) ≡ is_some (cond b (Some v) o)
some_or true x v o e = refl
some_or false x v o e = e

-- a directory is given a name exactly where something stands at the name
pub has_below : (es : List Mapped) (path : Parts) (name : List ℕ) → has (names_below es path) name ≡ is_some (found es (path ++ name ∷ []))
has_below [] path name = refl
has_below (e ∷ es) path name =
    let rest = has_below es path name in
    elim (name_in path e.0) as (λ o. name_in path e.0 ≡ o → has (cons_option o (names_below es path)) name ≡ is_some (cond (eq_by_cmp path_cmp (path ++ name ∷ []) e.0) (Some e.1) (found es (path ++ name ∷ [])))) [
      | None ↦ λ is. elim (cases_Bool (eq_by_cmp path_cmp (path ++ name ∷ []) e.0)) [
        | inl holds ↦
            let same : path ++ name ∷ [] ≡ e.0 = parts_same _ _ (true_test _ (sym holds)) in
            let there = name_in_pushed path name in
            let none : name_in path (path ++ name ∷ []) ≡ None = subst (λ p. name_in path p ≡ None) (sym same) is in
            cc
        | inr fails ↦ rest ∙ ap (λ b. is_some (cond b (Some e.1) (found es (path ++ name ∷ [])))) (sym fails)
      ]
      | Some other ↦ λ is.
          let tied : eq_by_cmp path_cmp (path ++ name ∷ []) e.0 ≡ eq_by_cmp name_cmp name other = ap (λ p. eq_by_cmp path_cmp (path ++ name ∷ []) p) (name_in_folder path e.0 other is) ∙ ap is_eq (in_folder_cmp path name other) in
          some_or (eq_by_cmp name_cmp name other) (has (names_below es path) name) e.1 (found es (path ++ name ∷ [])) rest
          ∙ ap (λ b. is_some (cond b (Some e.1) (found es (path ++ name ∷ [])))) (sym tied)
    ] refl

names_after : (path : Parts) (name : List ℕ) (es : List Mapped) → AllByRecursion (λ p. path_cmp (path ++ name ∷ []) p ≡ Less) (keys_of es) → AllByRecursion (λ n. name_cmp name n ≡ Less) (names_below es path)
names_after path name [] all = tt
names_after path name (e ∷ es) all =
    let rest = names_after path name es all.1 in
    elim (name_in path e.0) as (λ o. name_in path e.0 ≡ o → AllByRecursion (λ n. name_cmp name n ≡ Less) (cons_option o (names_below es path))) [
      | None ↦ λ is. rest
      | Some other ↦ λ is. (sym (in_folder_cmp path name other) ∙ subst (λ p. path_cmp (path ++ name ∷ []) p ≡ Less) (name_in_folder path e.0 other is) all.0, rest)
    ] refl

-- they come in order where the paths do
pub names_ascend : (path : Parts) (es : List Mapped) → IsStrictlySortedBy path_cmp (keys_of es) → IsStrictlySortedBy name_cmp (names_below es path)
unfolding IsStrictlySortedBy
names_ascend path [] up = tt
names_ascend path (e ∷ es) up =
    let rest = names_ascend path es up.1 in
    elim (name_in path e.0) as (λ o. name_in path e.0 ≡ o → IsStrictlySortedBy name_cmp (cons_option o (names_below es path))) [
      | None ↦ λ is. rest
      | Some name ↦ λ is. (names_after path name es (subst (λ p. AllByRecursion (λ q. path_cmp p q ≡ Less) (keys_of es)) (name_in_folder path e.0 name is) up.0), rest)
    ] refl

all_names : (ns : List (List ℕ)) → ((n : List ℕ) → has ns n ≡ true → IsName n) → All IsName ns
all_names [] each = All-nil IsName
all_names (n ∷ ns) each = All-cons IsName n ns (each n (has_first n ns)) (all_names ns (λ m h. each m (or_right (eq_by_cmp name_cmp m n) (has ns m) h)))

no_names : (ns : List (List ℕ)) → ((n : List ℕ) → has ns n ≡ true → ⊥) → ns ≡ []
no_names [] never = refl
no_names (n ∷ ns) never = absurd (never n (has_first n ns))

-- ---- a shape of a filestore

last_name : (path : Parts) (name : List ℕ) → All IsName (path ++ name ∷ []) → IsName name
last_name [] name all = All-head IsName name [] all
last_name (n ∷ path) name all = last_name path name (All-tail IsName n (path ++ name ∷ []) all)

-- ---- each directory lists the names below it

abbrev pub relisted : List Mapped → Parts → Node → Node
relisted es path (File bytes exec) = File bytes exec
relisted es path (Dir names) = Dir (names_below es path)
relisted es path (Link text) = Link text

with_relisted : (es : List Mapped) (p : Parts) (node : Node) → with_names es (p, node) ≡ (p, relisted es p node)
with_relisted es p (File bytes exec) = refl
with_relisted es p (Dir names) = refl
with_relisted es p (Link text) = refl

pub find_listed : (es fs : List Mapped) (q : Parts) → found (map (with_names es) fs) q ≡ option_map (relisted es q) (found fs q)
find_listed es fs q = find_mapped (with_names es) (relisted es) (with_relisted es) fs q

pub keys_with : (es fs : List Mapped) → keys_of (map (with_names es) fs) ≡ keys_of fs
keys_with es fs = keys_mapped (with_names es) (relisted es) (with_relisted es) fs

some_map : (f : Node → Node) (o : Option Node) → is_some (option_map f o) ≡ is_some o
some_map f None = refl
some_map f (Some x) = refl

never_some : (b : Bool) → (b ≡ true → false ≡ true) → b ≡ false
never_some true never = absurd (false≢true (never refl))
never_some false never = refl

module _ (es : List Mapped) (up : IsStrictlySortedBy path_cmp (keys_of es)) (shape : IsTreeShaped (found es)) (bytes : AreOfBytes (found es)) where
  abbrev after : Store
  after path = option_map (relisted es path) (found es path)

  root_lists : (o : Option Node) → is_dir o ≡ true → (names : List (List ℕ)) × (option_map (relisted es []) o ≡ Some (Dir names))
  root_lists None e = absurd (false≢true e)
  root_lists (Some (File bs exec)) e = absurd (false≢true e)
  root_lists (Some (Dir names)) e = (names_below es [], refl)
  root_lists (Some (Link text)) e = absurd (false≢true e)

  lists_what_is_there : (path : Parts) (name : List ℕ) (o : Option Node) → (is_some (found es (path ++ name ∷ [])) ≡ true → is_dir o ≡ true) → is_some (found es (path ++ name ∷ [])) ≡ lists (option_map (relisted es path) o) name
  lists_what_is_there path name None above = never_some _ above
  lists_what_is_there path name (Some (File bs exec)) above = never_some _ above
  lists_what_is_there path name (Some (Dir names)) above = sym (has_below es path name)
  lists_what_is_there path name (Some (Link text)) above = never_some _ above

  path_below : (path : Parts) (name : List ℕ) → has (names_below es path) name ≡ true → IsPath (path ++ name ∷ [])
  path_below path name h = shape.paths (path ++ name ∷ []) (sym (has_below es path name) ∙ h)

  pub is_set : (path : Parts) → IsNode path (Dir (names_below es path))
  is_set path = (
    record {
      names = all_names (names_below es path) (λ n h. last_name path n (path_below path n h).names);
      ascending = names_ascend path es up;
    },
    λ long. no_names (names_below es path) (λ n h. let short = (path_below path n h).short in omega (arith, length-append path (n ∷ []))),
  )

  node_within : (path : Parts) (o : Option Node) → IfSome o IsNodeBounded → IfSome o IsOfBytes → IfSome (option_map (relisted es path) o) (IsNode path)
  node_within path None leaf held = tt
  node_within path (Some (File bs exec)) leaf held = record { short = leaf; bytes = held }
  node_within path (Some (Dir names)) leaf held = is_set path
  node_within path (Some (Link text)) leaf held = leaf

  is_whole : IsWhole after
  is_whole = record {
    root = root_lists (found es []) shape.root;
    listed = λ path name. some_map (relisted es (path ++ name ∷ [])) (found es (path ++ name ∷ [])) ∙ lists_what_is_there path name (found es path) (shape.above path name);
    paths = λ path some. shape.paths path (sym (some_map (relisted es path) (found es path)) ∙ some);
    nodes = λ path. node_within path (found es path) (shape.leaves path) (bytes path);
  }

  -- the filestore is whole
  pub listed_whole : IsWhole (found (listed es))
  listed_whole = IsWhole-same after (found (listed es)) (λ q. sym (find_listed es es q)) is_whole
