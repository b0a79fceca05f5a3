-- What stands below a folder is, name by name of its listing, the entry of the name and what stands below that.
use Rattle.fx_folder.proofs.Prelude.{all_both, pushed_some, same_front, Held, all_below, held_below, in_table, inside, walked, AreThere, IsThere, ahead, below_names, branch, bytes_in, held_of, item, item_path, items_of, Item, both, first, is_less, less_test, second, strictly_sorted, name_same, name_total, parts_same, parts_total, true_test, Names, name_cmp, Parts, parts_cmp, Entry, IsWhole, Lists, Tree, HostKind, rest_append, rest_is, AreFound, all_found, rest_of, Bool, List, None, Option, Some, T, [], ap, append-nil, append_assoc, cond, false, inl, inr, map, not, option_map, refl, subst, sym, true, ℕ, ◌++◌, ◌∙◌, ◌∷◌, ◌≡◌, cases_Bool, map-append, filter-append, entries, entries_sorted, find, get, get-entries, is_sorted, below_all, same_entries, cons_option, filter_map, flat_map, option_and_then, option_map_or, eq_by_cmp, is_eq, is_lt, ordering_then, ⊤, Ordering, Equal, Greater, Less}
use Rattle.fx_folder.proofs.Filled.{none_below, none_in}
use Rattle.fx_folder.proofs.Ordered.{none_behind}

-- ---- what stands below a folder is sorted, and found by its names

abbrev below_as : Option Parts → Entry → Option Held
below_as o e = option_map (λ names. (names, e)) (option_and_then inside o)

pub behind_all : (P r : Parts) (es : List (Parts × Entry)) → T (below_all parts_cmp (P ++ r) es) → T (below_all parts_cmp r (filter_map (held_below P) es))
behind_all P r [] h = tt
behind_all P r (e ∷ es) h =
    let rest = behind_all P r es (second (is_lt (parts_cmp (P ++ r) e.0)) _ h) in
    by (rest_of P e.0) refl rest
  where
    by : (o : Option Parts) → rest_of P e.0 ≡ o → T (below_all parts_cmp r (filter_map (held_below P) es)) → T (below_all parts_cmp r (cons_option (below_as (rest_of P e.0) e.1) (filter_map (held_below P) es)))
    by None is rest = subst (λ o. T (below_all parts_cmp r (cons_option (below_as o e.1) (filter_map (held_below P) es)))) (sym is) rest
    by (Some []) is rest = subst (λ o. T (below_all parts_cmp r (cons_option (below_as o e.1) (filter_map (held_below P) es)))) (sym is) rest
    by (Some (n ∷ q)) is rest =
        let less : parts_cmp r (n ∷ q) ≡ Less = sym (same_front P r (n ∷ q)) ∙ (ap (parts_cmp (P ++ r)) (sym (rest_is P e.0 (n ∷ q) is)) ∙ is_less _ (first (is_lt (parts_cmp (P ++ r) e.0)) _ h)) in
        subst (λ o. T (below_all parts_cmp r (cons_option (below_as o e.1) (filter_map (held_below P) es)))) (sym is) (both (is_lt (parts_cmp r (n ∷ q))) _ (less_test _ less) rest)

pub below_sorted : (P : Parts) (es : List (Parts × Entry)) → T (is_sorted parts_cmp es) → T (is_sorted parts_cmp (filter_map (held_below P) es))
below_sorted P [] h = tt
below_sorted P (e ∷ es) h =
    let rest = below_sorted P es (second (below_all parts_cmp e.0 es) _ h) in
    by (rest_of P e.0) refl rest
  where
    by : (o : Option Parts) → rest_of P e.0 ≡ o → T (is_sorted parts_cmp (filter_map (held_below P) es)) → T (is_sorted parts_cmp (cons_option (below_as (rest_of P e.0) e.1) (filter_map (held_below P) es)))
    by None is rest = subst (λ o. T (is_sorted parts_cmp (cons_option (below_as o e.1) (filter_map (held_below P) es)))) (sym is) rest
    by (Some []) is rest = subst (λ o. T (is_sorted parts_cmp (cons_option (below_as o e.1) (filter_map (held_below P) es)))) (sym is) rest
    by (Some (n ∷ q)) is rest =
        let above = behind_all P (n ∷ q) es (subst (λ p. T (below_all parts_cmp p es)) (rest_is P e.0 (n ∷ q) is) (first (below_all parts_cmp e.0 es) _ h)) in
        subst (λ o. T (is_sorted parts_cmp (cons_option (below_as o e.1) (filter_map (held_below P) es)))) (sym is) (both (below_all parts_cmp (n ∷ q) (filter_map (held_below P) es)) _ above rest)

-- no names lead to the folder itself
pub root_below : (P : Parts) (es : List (Parts × Entry)) → T (below_all parts_cmp [] (filter_map (held_below P) es))
root_below P [] = tt
root_below P (e ∷ es) = by (rest_of P e.0) refl (root_below P es)
  where
    by : (o : Option Parts) → rest_of P e.0 ≡ o → T (below_all parts_cmp [] (filter_map (held_below P) es)) → T (below_all parts_cmp [] (cons_option (below_as (rest_of P e.0) e.1) (filter_map (held_below P) es)))
    by None is rest = subst (λ o. T (below_all parts_cmp [] (cons_option (below_as o e.1) (filter_map (held_below P) es)))) (sym is) rest
    by (Some []) is rest = subst (λ o. T (below_all parts_cmp [] (cons_option (below_as o e.1) (filter_map (held_below P) es)))) (sym is) rest
    by (Some (n ∷ q)) is rest = subst (λ o. T (below_all parts_cmp [] (cons_option (below_as o e.1) (filter_map (held_below P) es)))) (sym is) rest

apart_from : (P q r : Parts) → (rest_of P q ≡ Some r → ⊥) → eq_by_cmp parts_cmp (P ++ r) q ≡ false
apart_from P q r never = elim (cases_Bool (eq_by_cmp parts_cmp (P ++ r) q)) [
  | inl same ↦
      let is : P ++ r ≡ q = parts_same (P ++ r) q (true_test _ (sym same)) in
      absurd (never (ap (rest_of P) (sym is) ∙ rest_append P r))
  | inr apart ↦ apart
]

pub find_in : (P : Parts) (n : List ℕ) (r : Parts) (es : List (Parts × Entry)) → find parts_cmp (n ∷ r) (filter_map (held_below P) es) ≡ find parts_cmp (P ++ n ∷ r) es
find_in P n r [] = refl
find_in P n r (e ∷ es) = by (rest_of P e.0) refl (find_in P n r es)
  where
    passed : (rest_of P e.0 ≡ Some (n ∷ r) → ⊥) → find parts_cmp (P ++ n ∷ r) es ≡ cond (eq_by_cmp parts_cmp (P ++ n ∷ r) e.0) (Some e.1) (find parts_cmp (P ++ n ∷ r) es)
    passed never = ap (λ b. cond b (Some e.1) (find parts_cmp (P ++ n ∷ r) es)) (sym (apart_from P e.0 (n ∷ r) never))

    by : (o : Option Parts) → rest_of P e.0 ≡ o → find parts_cmp (n ∷ r) (filter_map (held_below P) es) ≡ find parts_cmp (P ++ n ∷ r) es → find parts_cmp (n ∷ r) (cons_option (below_as (rest_of P e.0) e.1) (filter_map (held_below P) es)) ≡ cond (eq_by_cmp parts_cmp (P ++ n ∷ r) e.0) (Some e.1) (find parts_cmp (P ++ n ∷ r) es)
    by None is rest = ap (λ o. find parts_cmp (n ∷ r) (cons_option (below_as o e.1) (filter_map (held_below P) es))) is ∙ rest ∙ passed (λ w. let wrong : None ≡ Some (n ∷ r) = sym is ∙ w in cc)
    by (Some []) is rest = ap (λ o. find parts_cmp (n ∷ r) (cons_option (below_as o e.1) (filter_map (held_below P) es))) is ∙ rest ∙ passed (λ w. let wrong : Some [] ≡ Some (n ∷ r) = sym is ∙ w in cc)
    by (Some (m ∷ q)) is rest =
        let tied : eq_by_cmp parts_cmp (n ∷ r) (m ∷ q) ≡ eq_by_cmp parts_cmp (P ++ n ∷ r) e.0 = ap is_eq (sym (same_front P (n ∷ r) (m ∷ q))) ∙ ap (eq_by_cmp parts_cmp (P ++ n ∷ r)) (sym (rest_is P e.0 (m ∷ q) is)) in
        ap (λ o. find parts_cmp (n ∷ r) (cons_option (below_as o e.1) (filter_map (held_below P) es))) is
        ∙ ap (λ x. cond (eq_by_cmp parts_cmp (n ∷ r) (m ∷ q)) (Some e.1) x) rest
        ∙ ap (λ b. cond b (Some e.1) (find parts_cmp (P ++ n ∷ r) es)) tied

pub all_sorted : (t : Tree) (P : Parts) → T (is_sorted parts_cmp (all_below t P))
all_sorted t P = below_sorted P (entries t) (entries_sorted t)

pub find_below : (t : Tree) (P : Parts) (n : List ℕ) (r : Parts) → find parts_cmp (n ∷ r) (all_below t P) ≡ get t (P ++ n ∷ r)
find_below t P n r = find_in P n r (entries t) ∙ sym (get-entries t (P ++ n ∷ r))

pub find_none : (t : Tree) (P : Parts) → find parts_cmp [] (all_below t P) ≡ None
find_none t P = none_behind [] (all_below t P) (root_below P (entries t))

-- ---- the branches of the names of a listing

abbrev block : Tree → Parts → List ℕ × HostKind → List Held
block t P e = (e.0 ∷ [], record { kind = e.1; bytes = bytes_in t (P ++ e.0 ∷ []) }) ∷ map (below_names (e.0 ∷ [])) (all_below t (P ++ e.0 ∷ []))

abbrev blocks : Tree → Parts → List (List ℕ × HostKind) → List Held
blocks t P es = flat_map (block t P) es

one_front : (n : List ℕ) (a b : Parts) → parts_cmp (n ∷ a) (n ∷ b) ≡ parts_cmp a b
one_front n a b = same_front (n ∷ []) a b

map_behind : (n : List ℕ) (s : Parts) (xs ys : List Held) → T (below_all parts_cmp s xs) → T (below_all parts_cmp (n ∷ s) ys) → T (below_all parts_cmp (n ∷ s) (map (below_names (n ∷ [])) xs ++ ys))
map_behind n s [] ys h g = g
map_behind n s (x ∷ xs) ys h g =
    both (is_lt (parts_cmp (n ∷ s) (n ∷ x.0))) _
    (less_test _ (one_front n s x.0 ∙ is_less _ (first (is_lt (parts_cmp s x.0)) _ h)))
    (map_behind n s xs ys (second (is_lt (parts_cmp s x.0)) _ h) g)

map_sorted : (n : List ℕ) (xs ys : List Held) → T (is_sorted parts_cmp xs) → ((s : Parts) → T (below_all parts_cmp (n ∷ s) ys)) → T (is_sorted parts_cmp ys) → T (is_sorted parts_cmp (map (below_names (n ∷ [])) xs ++ ys))
map_sorted n [] ys h g k = k
map_sorted n (x ∷ xs) ys h g k =
    both (below_all parts_cmp (n ∷ x.0) (map (below_names (n ∷ [])) xs ++ ys)) _
    (map_behind n x.0 xs ys (first (below_all parts_cmp x.0 xs) _ h) (g x.0))
    (map_sorted n xs ys (second (below_all parts_cmp x.0 xs) _ h) g k)

less_names : (n m : List ℕ) (s r : Parts) → name_cmp n m ≡ Less → parts_cmp (n ∷ s) (m ∷ r) ≡ Less
less_names n m s r less = ap (λ o. ordering_then o (parts_cmp s r)) less

map_after : (n m : List ℕ) (s : Parts) (xs ys : List Held) → name_cmp n m ≡ Less → T (below_all parts_cmp (n ∷ s) ys) → T (below_all parts_cmp (n ∷ s) (map (below_names (m ∷ [])) xs ++ ys))
map_after n m s [] ys less g = g
map_after n m s (x ∷ xs) ys less g = both (is_lt (parts_cmp (n ∷ s) (m ∷ x.0))) _ (less_test _ (less_names n m s x.0 less)) (map_after n m s xs ys less g)

module _ (t : Tree) (P : Parts) where
  blocks_after : (n : List ℕ) (s : Parts) (es : List (List ℕ × HostKind)) → T (below_all name_cmp n es) → T (below_all parts_cmp (n ∷ s) (blocks t P es))
  blocks_after n s [] h = tt
  blocks_after n s (e ∷ es) h =
      let less : name_cmp n e.0 ≡ Less = is_less _ (first (is_lt (name_cmp n e.0)) _ h) in
      both (is_lt (parts_cmp (n ∷ s) (e.0 ∷ []))) _ (less_test _ (less_names n e.0 s [] less))
      (map_after n e.0 s (all_below t (P ++ e.0 ∷ [])) (blocks t P es) less (blocks_after n s es (second (is_lt (name_cmp n e.0)) _ h)))

  blocks_sorted : (es : List (List ℕ × HostKind)) → T (is_sorted name_cmp es) → T (is_sorted parts_cmp (blocks t P es))
  blocks_sorted [] h = tt
  blocks_sorted (e ∷ es) h =
      let below = first (below_all name_cmp e.0 es) _ h in
      both (below_all parts_cmp (e.0 ∷ []) (map (below_names (e.0 ∷ [])) (all_below t (P ++ e.0 ∷ [])) ++ blocks t P es)) _
      (map_behind e.0 [] (all_below t (P ++ e.0 ∷ [])) (blocks t P es) (root_below (P ++ e.0 ∷ []) (entries t)) (blocks_after e.0 [] es below))
      (map_sorted e.0 (all_below t (P ++ e.0 ∷ [])) (blocks t P es) (all_sorted t (P ++ e.0 ∷ [])) (λ s. blocks_after e.0 s es below) (blocks_sorted es (second (below_all name_cmp e.0 es) _ h)))

  find_front : (n : List ℕ) (r : Parts) (xs ys : List Held) → find parts_cmp (n ∷ r) ys ≡ None → find parts_cmp (n ∷ r) (map (below_names (n ∷ [])) xs ++ ys) ≡ find parts_cmp r xs
  find_front n r [] ys none = none
  find_front n r (x ∷ xs) ys none =
      ap (λ o. cond (is_eq o) (Some x.1) (find parts_cmp (n ∷ r) (map (below_names (n ∷ [])) xs ++ ys))) (one_front n r x.0)
      ∙ ap (λ f. cond (eq_by_cmp parts_cmp r x.0) (Some x.1) f) (find_front n r xs ys none)

  apart_names : (n m : List ℕ) (r s : Parts) → eq_by_cmp name_cmp n m ≡ false → eq_by_cmp parts_cmp (n ∷ r) (m ∷ s) ≡ false
  apart_names n m r s apart = by (name_cmp n m) apart
    where
      by : (o : Ordering) → is_eq o ≡ false → is_eq (ordering_then o (parts_cmp r s)) ≡ false
      by Less e = refl
      by Equal e = cc
      by Greater e = refl

  find_other : (n m : List ℕ) (r : Parts) (xs ys : List Held) → eq_by_cmp name_cmp n m ≡ false → find parts_cmp (n ∷ r) (map (below_names (m ∷ [])) xs ++ ys) ≡ find parts_cmp (n ∷ r) ys
  find_other n m r [] ys apart = refl
  find_other n m r (x ∷ xs) ys apart = ap (λ b. cond b (Some x.1) (find parts_cmp (n ∷ r) (map (below_names (m ∷ [])) xs ++ ys))) (apart_names n m r x.0 apart) ∙ find_other n m r xs ys apart

  -- what is found at names in the branches, by the kind that the listing gives the first of them
  abbrev found_at : List ℕ → Parts → Option HostKind → Option Entry
  found_at n r None = None
  found_at n [] (Some kind) = Some (record { kind = kind; bytes = bytes_in t (P ++ n ∷ []) })
  found_at n (b ∷ r) (Some kind) = find parts_cmp (b ∷ r) (all_below t (P ++ n ∷ []))

  itself : (n : List ℕ) (k : HostKind) (ys : List Held) → ((s : Parts) → find parts_cmp (n ∷ s) ys ≡ None) → (r : Parts) → find parts_cmp (n ∷ r) (block t P (n, k) ++ ys) ≡ found_at n r (Some k)
  itself n k ys none [] = ap (λ o. cond (is_eq o) (Some (record { kind = k; bytes = bytes_in t (P ++ n ∷ []) })) (find parts_cmp (n ∷ []) (map (below_names (n ∷ [])) (all_below t (P ++ n ∷ [])) ++ ys))) (one_front n [] [])
  itself n k ys none (b ∷ r) =
      ap (λ o. cond (is_eq o) (Some (record { kind = k; bytes = bytes_in t (P ++ n ∷ []) })) (find parts_cmp (n ∷ b ∷ r) (map (below_names (n ∷ [])) (all_below t (P ++ n ∷ [])) ++ ys))) (one_front n (b ∷ r) [])
      ∙ find_front n (b ∷ r) (all_below t (P ++ n ∷ [])) ys (none (b ∷ r))

  find_blocks : (n : List ℕ) (r : Parts) (es : List (List ℕ × HostKind)) → T (is_sorted name_cmp es) → find parts_cmp (n ∷ r) (blocks t P es) ≡ found_at n r (find name_cmp n es)
  find_blocks n r [] h = refl
  find_blocks n r (e ∷ es) h = elim (cases_Bool (eq_by_cmp name_cmp n e.0)) [
    | inl same ↦
        let it : n ≡ e.0 = name_same n e.0 (true_test _ (sym same)) in
        let none : (s : Parts) → find parts_cmp (n ∷ s) (blocks t P es) ≡ None = λ s. none_behind (n ∷ s) (blocks t P es) (blocks_after n s es (subst (λ m. T (below_all name_cmp m es)) (sym it) (first (below_all name_cmp e.0 es) _ h))) in
        subst (λ m. find parts_cmp (n ∷ r) (block t P (m, e.1) ++ blocks t P es) ≡ found_at n r (Some e.1)) it (itself n e.1 (blocks t P es) none r)
        ∙ ap (λ b. found_at n r (cond b (Some e.1) (find name_cmp n es))) (sym same)
    | inr apart ↦
        ap (λ b. cond b (Some (record { kind = e.1; bytes = bytes_in t (P ++ e.0 ∷ []) })) (find parts_cmp (n ∷ r) (map (below_names (e.0 ∷ [])) (all_below t (P ++ e.0 ∷ [])) ++ blocks t P es))) (apart_names n e.0 r [] apart)
        ∙ find_other n e.0 r (all_below t (P ++ e.0 ∷ [])) (blocks t P es) apart
        ∙ find_blocks n r es (second (below_all name_cmp e.0 es) _ h)
        ∙ ap (λ b. found_at n r (cond b (Some e.1) (find name_cmp n es))) (sym apart)
  ]

found_same : (t : Tree) (whole : IsWhole t) (P : Parts) (n : List ℕ) (r : Parts) (o : Option Entry) → get t (P ++ n ∷ []) ≡ o → found_at t P n r (option_map (λ e. e.kind) o) ≡ get t (P ++ n ∷ r)
found_same t whole P n [] None is = sym is
found_same t whole P n (b ∷ r) None is =
    sym (ap (get t) (sym (append_assoc P (n ∷ []) (b ∷ r))) ∙ none_below t whole (P ++ n ∷ []) (none_in t whole (P ++ n ∷ []) (pushed_some P n) is) b r)
found_same t whole P n [] (Some e) is = ap (λ o. Some (record { kind = e.kind; bytes = option_map_or (λ (x : Entry). x.bytes) o [] })) is ∙ sym is
found_same t whole P n (b ∷ r) (Some e) is = find_below t (P ++ n ∷ []) b r ∙ ap (get t) (append_assoc P (n ∷ []) (b ∷ r))

no_root : (n : List ℕ) (xs ys : List Held) → find parts_cmp [] ys ≡ None → find parts_cmp [] (map (below_names (n ∷ [])) xs ++ ys) ≡ None
no_root n [] ys none = none
no_root n (x ∷ xs) ys none = no_root n xs ys none

root_blocks : (t : Tree) (P : Parts) (es : List (List ℕ × HostKind)) → find parts_cmp [] (blocks t P es) ≡ None
root_blocks t P [] = refl
root_blocks t P (e ∷ es) = no_root e.0 (all_below t (P ++ e.0 ∷ [])) (blocks t P es) (root_blocks t P es)

pub below_blocks : (t : Tree) (whole : IsWhole t) (P : Parts) (names : Names) → Lists t P names → all_below t P ≡ blocks t P (entries names)
below_blocks t whole P names lists =
    same_entries parts_cmp parts_total parts_same (all_below t P) (blocks t P (entries names)) (all_sorted t P) (blocks_sorted t P (entries names) (entries_sorted names)) by
  where
    by : (q : Parts) → find parts_cmp q (all_below t P) ≡ find parts_cmp q (blocks t P (entries names))
    by [] = find_none t P ∙ sym (root_blocks t P (entries names))
    by (n ∷ r) =
        find_below t P n r
        ∙ sym (find_blocks t P n r (entries names) (entries_sorted names) ∙ ap (found_at t P n r) (sym (get-entries names n) ∙ lists n) ∙ found_same t whole P n r (get t (P ++ n ∷ [])) refl)

-- ---- the items of a folder

behind_twice : (p : Parts) (n : List ℕ) (xs : List Held) → map (below_names p) (map (below_names (n ∷ [])) xs) ≡ map (below_names (p ++ n ∷ [])) xs
behind_twice p n [] = refl
behind_twice p n (x ∷ xs) = ap (λ q. (q, x.1) ∷ map (below_names p) (map (below_names (n ∷ [])) xs)) (sym (append_assoc p (n ∷ []) x.0)) ∙ ap (λ l. below_names (p ++ n ∷ []) x ∷ l) (behind_twice p n xs)

block_branch : (t : Tree) (at p : Parts) (e : List ℕ × HostKind) → map (below_names p) (block t (at ++ p) e) ≡ branch t at (item p e)
block_branch t at p e =
    ap (λ l. (p ++ e.0 ∷ [], record { kind = e.1; bytes = bytes_in t ((at ++ p) ++ e.0 ∷ []) }) ∷ l) (behind_twice p e.0 (all_below t ((at ++ p) ++ e.0 ∷ [])))
    ∙ ap (λ q. (p ++ e.0 ∷ [], record { kind = e.1; bytes = bytes_in t q }) ∷ map (below_names (p ++ e.0 ∷ [])) (all_below t q)) (append_assoc at p (e.0 ∷ []))

abbrev branches : Tree → Parts → Parts → List (List ℕ × HostKind) → List Held
branches t at p es = flat_map (λ e. branch t at (item p e)) es

blocks_branches : (t : Tree) (at p : Parts) (es : List (List ℕ × HostKind)) → map (below_names p) (blocks t (at ++ p) es) ≡ branches t at p es
blocks_branches t at p [] = refl
blocks_branches t at p (e ∷ es) =
    map-append (below_names p) (block t (at ++ p) e) (blocks t (at ++ p) es)
    ∙ ap (λ l. map (below_names p) (block t (at ++ p) e) ++ l) (blocks_branches t at p es)
    ∙ ap (λ l. l ++ branches t at p es) (block_branch t at p e)

pub ahead_push : (t : Tree) (at : Parts) (xs : List Item) (x : Item) → ahead t at (xs ++ x ∷ []) ≡ branch t at x ++ ahead t at xs
ahead_push t at [] x = sym (append-nil (branch t at x))
ahead_push t at (y ∷ xs) x = ap (λ l. l ++ branch t at y) (ahead_push t at xs x) ∙ append_assoc (branch t at x) (ahead t at xs) (branch t at y)

walked_append : (xs ys : List Held) → walked (xs ++ ys) ≡ walked xs ++ walked ys
walked_append xs ys = filter-append (λ (h : Held). not (in_table h.0)) xs ys

in_table_more : (q r : Parts) → in_table q ≡ true → in_table (q ++ r) ≡ true
in_table_more [] r e = cc
in_table_more (x ∷ q) r e = e

walked_none : (p : Parts) (xs : List Held) → in_table p ≡ true → walked (map (below_names p) xs) ≡ []
walked_none p [] e = refl
walked_none p (x ∷ xs) e =
    ap (λ b. cond (not b) (below_names p x ∷ walked (map (below_names p) xs)) (walked (map (below_names p) xs))) (in_table_more p x.0 e)
    ∙ walked_none p xs e

walked_branch : (t : Tree) (at : Parts) (x : Item) → in_table (item_path x) ≡ true → walked (branch t at x) ≡ []
walked_branch t at x e =
    let rest = map (below_names (item_path x)) (all_below t (at ++ item_path x)) in
    ap (λ b. cond (not b) (held_of t at x ∷ walked rest) (walked rest)) e
    ∙ walked_none (item_path x) (all_below t (at ++ item_path x)) e

ahead_items : (t : Tree) (at p : Parts) (es : List (List ℕ × HostKind)) (xs : List Item) → walked (ahead t at (xs ++ items_of p es)) ≡ walked (branches t at p es ++ ahead t at xs)
ahead_items t at p [] xs = ap (λ l. walked (ahead t at l)) (append-nil xs)
ahead_items t at p (e ∷ es) xs =
    let x = item p e in
    let rest = branches t at p es ++ ahead t at xs in
    let last : walked (branches t at p (e ∷ es) ++ ahead t at xs) ≡ walked (branch t at x) ++ walked rest = ap walked (append_assoc (branch t at x) (branches t at p es) (ahead t at xs)) ∙ walked_append (branch t at x) rest in
    elim (cases_Bool (in_table (p ++ e.0 ∷ []))) [
      | inl table ↦
          ap (λ b. walked (ahead t at (xs ++ (items_of p es ++ cond b [] (x ∷ []))))) table
          ∙ ap (λ l. walked (ahead t at (xs ++ l))) (append-nil (items_of p es))
          ∙ ahead_items t at p es xs
          ∙ sym (last ∙ ap (λ l. l ++ walked rest) (walked_branch t at x table))
      | inr other ↦
          ap (λ b. walked (ahead t at (xs ++ (items_of p es ++ cond b [] (x ∷ []))))) other
          ∙ ap (λ l. walked (ahead t at l)) (sym (append_assoc xs (items_of p es) (x ∷ [])))
          ∙ ap walked (ahead_push t at (xs ++ items_of p es) x)
          ∙ walked_append (branch t at x) (ahead t at (xs ++ items_of p es))
          ∙ ap (λ l. walked (branch t at x) ++ l) (ahead_items t at p es xs)
          ∙ sym last
    ]

-- each entry of a listing stands in the folder
abbrev AreListed : Tree → Parts → List (List ℕ × HostKind) → Type 0
AreListed t q [] = ⊤
AreListed t q (e ∷ es) = (option_map (λ x. x.kind) (get t (q ++ e.0 ∷ [])) ≡ Some e.1) × AreListed t q es

are_listed : (t : Tree) (q : Parts) (names : Names) (fs : List (List ℕ × HostKind)) → Lists t q names → AreFound name_cmp fs (entries names) → AreListed t q fs
are_listed t q names [] lists found = tt
are_listed t q names (f ∷ fs) lists found = (sym (lists f.0) ∙ (get-entries names f.0 ∙ found.0), are_listed t q names fs lists found.1)

there_items : (t : Tree) (at p : Parts) (es : List (List ℕ × HostKind)) → AreListed t (at ++ p) es → AreThere t at (items_of p es)
there_items t at p [] listed = tt
there_items t at p (e ∷ es) listed = all_both (IsThere t at) (items_of p es) (cond (in_table (p ++ e.0 ∷ [])) [] (item p e ∷ [])) (there_items t at p es listed.1) (by (in_table (p ++ e.0 ∷ [])) refl)
  where
    by : (b : Bool) → in_table (p ++ e.0 ∷ []) ≡ b → AreThere t at (cond b [] (item p e ∷ []))
    by true is = tt
    by false is = (record { kind = ap (λ q. option_map (λ (x : Entry). x.kind) (get t q)) (sym (append_assoc at p (e.0 ∷ []))) ∙ listed.0; walked = is }, tt)

-- the items of a folder's listing are what stands below the folder
pub items_ahead : (t : Tree) (whole : IsWhole t) (at p : Parts) (names : Names) (xs : List Item) → Lists t (at ++ p) names → walked (ahead t at (xs ++ items_of p (entries names))) ≡ walked (map (below_names p) (all_below t (at ++ p)) ++ ahead t at xs)
items_ahead t whole at p names xs lists =
    ahead_items t at p (entries names) xs
    ∙ ap (λ l. walked (l ++ ahead t at xs)) (sym (blocks_branches t at p (entries names)) ∙ ap (map (below_names p)) (sym (below_blocks t whole (at ++ p) names lists)))

pub items_there : (t : Tree) (at p : Parts) (names : Names) (xs : List Item) → Lists t (at ++ p) names → AreThere t at xs → AreThere t at (xs ++ items_of p (entries names))
items_there t at p names xs lists there = all_both (IsThere t at) xs (items_of p (entries names)) there (there_items t at p (entries names) (are_listed t (at ++ p) names (entries names) lists (all_found name_total (entries names) (strictly_sorted name_cmp (entries names) (entries_sorted names)))))
