-- The names that stand directly below each of some paths, as one path more is come to.
use Rattle.fx_table.proofs.Prelude.{◌≡◌, ℕ, zero, suc, ◌+◌, ◌-◌, ◌<◌, ◌≤◌, Bool, true, false, cond, List, [], ◌∷◌, ◌++◌, map, take, drop, length, set, get_or, Option, Some, None, option_map, is_some, refl, sym, ◌∙◌, ap, subst, arith, append-nil, length-append, replicate, inl, inr, Vec, Less, AllByRecursion, cons_option, slice_get, IsStrictlySortedBy, eq_by_cmp, take_all, length-map, map-set, get_or-map, drop-map, drop-drop, All-from_recursion, slice_get_within, slice_get-map, same_Some, cases_lt, keys_of, All-at, length_keys, some_at, not_before_itself, none_of, some_of, Parts, above, name_in, name_in_folder, name_cmp, path_cmp, Change, mapped_of, Mapped, names_below, rest_of, pointwise, take-append_seam, items_of, HasNoFolder, IsFolderAt, IsAddedAt, HasChildAdded}
use mathlib.Core.Path.{fun_ext}
use Rattle.fx_table.proofs.Behind.{named_child, none_named}
use Rattle.fx_table.proofs.Naming.{mapped_len, part_listed, part_keys, same_names}

-- a path stands directly in one directory alone
one_folder : (p r q : Parts) (m n : List ℕ) → name_in p q ≡ Some m → name_in r q ≡ Some n → p ≡ r
one_folder p r q m n a b =
    let e : p ++ m ∷ [] ≡ r ++ n ∷ [] = sym (name_in_folder p q m a) ∙ name_in_folder r q n b in
    let long : length p ≡ length r = omega (arith, ap length e, length-append p (m ∷ []), length-append r (n ∷ [])) in
    sym (take-append_seam p (m ∷ [])) ∙ (λ i. take (long i) (e i)) ∙ take-append_seam r (n ∷ [])

less_at : (ks : List Parts) (j : ℕ) (r q : Parts) → AllByRecursion (λ k. path_cmp q k ≡ Less) ks → slice_get ks j ≡ Some r → path_cmp q r ≡ Less
less_at ks j r q all is = All-at (λ k. path_cmp q k ≡ Less) ks j r (All-from_recursion (λ k. path_cmp q k ≡ Less) ks all) is

module _ (f : Parts → List (List ℕ)) (q : Parts) where
  abbrev more : Parts → List (List ℕ)
  more p = f p ++ cons_option (name_in p q) []

  same_at : (p : Parts) → name_in p q ≡ None → more p ≡ f p
  same_at p e = ap (λ o. f p ++ cons_option o []) e ∙ append-nil (f p)

  pub none_more : (ks : List Parts) → HasNoFolder ks q → map more ks ≡ map f ks
  none_more [] h = refl
  none_more (k ∷ ks) h = λ i. same_at k (none_of (name_in k q) (h 0 k refl)) i ∷ none_more ks (λ n dir e. h (suc n) dir e) i

  above_all : (p : Parts) (n : List ℕ) (ks : List Parts) → name_in p q ≡ Some n → AllByRecursion (λ k. path_cmp p k ≡ Less) ks → map more ks ≡ map f ks
  above_all p n [] is all = refl
  above_all p n (k ∷ ks) is all = λ i. same_at k (by (name_in k q) refl) i ∷ above_all p n ks is all.1 i
    where
      by : (o : Option (List ℕ)) → name_in k q ≡ o → o ≡ None
      by None e = refl
      by (Some m) e = let same : p ≡ k = one_folder p k q n m is e in absurd (not_before_itself p (subst (λ x. path_cmp p x ≡ Less) (sym same) all.0))

  pub one_more : (ks : List Parts) (i : ℕ) (p : Parts) (n : List ℕ) → IsStrictlySortedBy path_cmp ks → slice_get ks i ≡ Some p → name_in p q ≡ Some n → map more ks ≡ set (map f ks) i (get_or (map f ks) i [] ++ n ∷ [])
  unfolding IsStrictlySortedBy
  one_more [] i p n up at is = absurd (cc)
  one_more (k ∷ ks) zero p n up at is =
      let same : k ≡ p = cc in
      let here : name_in k q ≡ Some n = ap (λ x. name_in x q) same ∙ is in
      λ i. (f k ++ cons_option (here i) []) ∷ above_all k n ks here up.0 i
  one_more (k ∷ ks) (suc i) p n up at is =
      let less : path_cmp k p ≡ Less = less_at ks i p k up.0 at in
      λ j. same_at k (by (name_in k q) refl less) j ∷ one_more ks i p n up.1 at is j
    where
      by : (o : Option (List ℕ)) → name_in k q ≡ o → path_cmp k p ≡ Less → o ≡ None
      by None e less = refl
      by (Some m) e less = let same : k ≡ p = one_folder k p q m n e is in absurd (not_before_itself k (subst (λ x. path_cmp k x ≡ Less) (sym same) less))

cons_append : (o : Option (List ℕ)) (xs ys : List (List ℕ)) → cons_option o xs ++ ys ≡ cons_option o (xs ++ ys)
cons_append None xs ys = refl
cons_append (Some n) xs ys = refl

below_more : (es : List Mapped) (j : ℕ) (q p : Parts) → slice_get (keys_of es) j ≡ Some q → names_below (take (j + 1) es) p ≡ names_below (take j es) p ++ cons_option (name_in p q) []
below_more [] j q p at = absurd (cc)
below_more (e ∷ es) zero q p at = let same : e.0 ≡ q = cc in ap (λ k. cons_option (name_in p k) []) same
below_more (e ∷ es) (suc j) q p at =
    let one : suc j + 1 ≡ suc (j + 1) = omega arith in
    ap (λ n. names_below (take n (e ∷ es)) p) one
    ∙ (ap (cons_option (name_in p e.0)) (below_more es j q p at)
    ∙ sym (cons_append (name_in p e.0) (names_below (take j es) p) (cons_option (name_in p q) [])))

last_name : (b : Bool) (o : Option (List ℕ)) (n : List ℕ) → cond b o None ≡ Some n → o ≡ Some n
last_name true o n e = e
last_name false o n e = absurd (cc)

pub child_long : (dirs : List Parts) (i : ℕ) (q : Parts) → IsFolderAt dirs i q → 0 < length q
child_long dirs i q at =
    let n = some_of (name_in at.dir q) at.child in
    omega (arith, ap length (name_in_folder at.dir q n.0 n.1), length-append at.dir (n.0 ∷ []))

pub lists_more : (es : List Mapped) (j : ℕ) (q : Parts) (old new : List (List (List ℕ))) → slice_get (keys_of es) j ≡ Some q → HasChildAdded (keys_of es) q old new → old ≡ map (names_below (take j es)) (keys_of es) → new ≡ map (names_below (take (j + 1) es)) (keys_of es)
lists_more es j q old new key added so =
    added (names_below (take j es)) so ∙ ap (λ (g : Parts → List (List ℕ)). map g (keys_of es)) (fun_ext (λ p. sym (below_more es j q p key)))

pub child_added : (dirs : List Parts) (q : Parts) (old new : List (List (List ℕ))) (i : ℕ) → IsStrictlySortedBy path_cmp dirs → IsFolderAt dirs i q → IsAddedAt i q old new → HasChildAdded dirs q old new
child_added dirs q old new i up at added f so =
    let n = some_of (name_in at.dir q) at.child in
    added n.0 (last_name (pointwise (eq_by_cmp name_cmp) (above q) at.dir) (slice_get q (length q - 1)) n.0 n.1)
    ∙ (ap (λ l. set l i (get_or l i [] ++ n.0 ∷ [])) so
    ∙ sym (one_more f q dirs i at.dir n.0 up at.here n.1))

pub none_added : (dirs : List Parts) (q : Parts) (old : List (List (List ℕ))) → HasNoFolder dirs q → HasChildAdded dirs q old old
none_added dirs q old none f so = so ∙ sym (none_more f q dirs none)

pub lists_none : (found : List Change) (n : ℕ) (lists : List (List (List ℕ))) → n ≡ length found → lists ≡ replicate n [] → lists ≡ map (names_below []) (keys_of (mapped_of found))
lists_none found n lists e so = so ∙ (ap (λ k. replicate k []) e ∙ each found)
  where
    each : (cs : List Change) → replicate (length cs) [] ≡ map (names_below []) (keys_of (mapped_of cs))
    each [] = refl
    each (c ∷ cs) = ap (λ l. [] ∷ l) (each cs)

keys_len : (found : List Change) → length (keys_of (mapped_of found)) ≡ length found
keys_len found = length_keys (mapped_of found) ∙ mapped_len found

pub folder_within : (found : List Change) (i : ℕ) (q : Parts) → IsFolderAt (keys_of (mapped_of found)) i q → i < length found
folder_within found i q at = omega (arith, keys_len found, slice_get_within (keys_of (mapped_of found)) i at.dir at.here)

pub lists_as_long : {X : Type 0} (f : X → List (List ℕ)) (g : Parts → List (List ℕ)) (found : List Change) (lists : List X) → map f lists ≡ map g (keys_of (mapped_of found)) → length lists ≡ length found
lists_as_long f g found lists so = sym (length-map lists f) ∙ ap length so ∙ length-map (keys_of (mapped_of found)) g ∙ keys_len found

-- a test of each directory up to one more
pub test_more : (dirs : List Parts) (q p : Parts) (i : ℕ) (b : Bool) → slice_get dirs i ≡ Some p → b ≡ is_some (name_in p q) → b ≡ false → ((k : ℕ) (dir : Parts) → k < i → slice_get dirs k ≡ Some dir → is_some (name_in dir q) ≡ false) → (k : ℕ) (dir : Parts) → k < i + 1 → slice_get dirs k ≡ Some dir → is_some (name_in dir q) ≡ false
test_more dirs q p i b here is fails so k dir lt at = elim (cases_lt k i) [
  | inl h ↦ so k dir h at
  | inr h ↦
      let same : k ≡ i = omega arith in
      let it : Some dir ≡ Some p = sym at ∙ ap (slice_get dirs) same ∙ here in
      let one : dir ≡ p = cc in
      ap (λ x. is_some (name_in x q)) one ∙ sym is ∙ fails
]

pub test_all : (found : List Change) (q : Parts) (i : ℕ) → length found ≤ i → ((k : ℕ) (dir : Parts) → k < i → slice_get (keys_of (mapped_of found)) k ≡ Some dir → is_some (name_in dir q) ≡ false) → HasNoFolder (keys_of (mapped_of found)) q
test_all found q i past so k dir at = so k dir (omega (arith, keys_len found, slice_get_within (keys_of (mapped_of found)) k dir at)) at

-- a path with one name more than a directory stands directly in it, or is not below it
pub child_test : (p q : Parts) (b : Bool) → length q ≡ length p + 1 → b ≡ is_some (rest_of p q) → b ≡ is_some (name_in p q)
child_test p q true long is =
    let last = some_at q (length p) (omega (arith, long)) in
    sym (ap is_some (named_child p q last.0 (sym is) long (sym last.1)))
child_test p q false long is = sym (ap is_some (none_named p q (none_of (rest_of p q) (sym is))))

pub lists_all : (es : List Mapped) (j : ℕ) (lists : List (List (List ℕ))) → length es ≤ j → lists ≡ map (names_below (take j es)) (keys_of es) → lists ≡ map (names_below es) (keys_of es)
lists_all es j lists past so = so ∙ ap (λ l. map (names_below l) (keys_of es)) (take_all j es past)

pub vec_added : {Y : Type 0} (old : List (Vec (List ℕ) Y)) (i : ℕ) (v w : Vec (List ℕ) Y) (n : List ℕ) → i < length old → v ≡ get_or old i v → w.items ≡ v.items ++ n ∷ [] → map items_of (set old i w) ≡ set (map items_of old) i (get_or (map items_of old) i [] ++ n ∷ [])
vec_added old i v w n lt here more =
    map-set items_of old i w
    ∙ ap (λ x. set (map items_of old) i x) (more ∙ ap (λ x. x ++ n ∷ []) (ap items_of here ∙ sym (get_or-map items_of old i v [] lt)))

-- ---- lists that are taken out one after another

get_drop : {A : Type 0} (xs : List A) (i : ℕ) → slice_get xs i ≡ slice_get (drop i xs) 0
get_drop [] zero = refl
get_drop [] (suc i) = refl
get_drop (x ∷ xs) zero = refl
get_drop (x ∷ xs) (suc i) = get_drop xs i

pub list_here : (es : List Mapped) (found : List Change) (i : ℕ) (lists : List (List (List ℕ))) (names : List (List ℕ)) (p : Parts) → found ≡ part_listed es i → drop i lists ≡ drop i (map (names_below es) (keys_of es)) → slice_get lists i ≡ Some names → slice_get (keys_of (mapped_of found)) i ≡ Some p → names ≡ names_below (mapped_of found) p
list_here es found i lists names p is left out here =
    let keys : keys_of (mapped_of found) ≡ keys_of es = ap (λ f. keys_of (mapped_of f)) is ∙ part_keys es i in
    let full : List (List (List ℕ)) = map (names_below es) (keys_of es) in
    let at : slice_get full i ≡ Some (names_below es p) = slice_get-map (names_below es) (keys_of es) i ∙ ap (option_map (names_below es)) (ap (λ k. slice_get k i) (sym keys) ∙ here) in
    same_Some names (names_below es p) (sym out ∙ get_drop lists i ∙ ap (λ l. slice_get l 0) left ∙ sym (get_drop full i) ∙ at)
    ∙ same_names es (mapped_of found) p (sym keys)

pub rest_left : {X : Type 0} (f : X → List (List ℕ)) (old new : List X) (full : List (List (List ℕ))) (i : ℕ) → drop (i + 1) new ≡ drop (i + 1) old → drop i (map f old) ≡ drop i full → drop (i + 1) (map f new) ≡ drop (i + 1) full
rest_left f old new full i rest left =
    drop-map f (i + 1) new ∙ ap (map f) rest ∙ sym (drop-map f (i + 1) old) ∙ sym (drop-drop 1 i (map f old)) ∙ ap (drop 1) left ∙ drop-drop 1 i full
