-- A search among changes in the order of their paths, and the path above another.
use Rattle.fx_table.proofs.Prelude.{◌≡◌, ℕ, zero, suc, ◌<◌, ◌≤◌, cond, T, List, [], ◌∷◌, map, length, get_or, Option, Some, None, refl, sym, ◌∙◌, ap, subst, arith, unwrap_or, Less, Equal, Greater, eq_by_cmp, ordering_index, IsStrictlySortedBy, IsNonDecreasingBy, keys_of, find, is_sorted, sorted_test, rises, find_at, find_gap, Node, Change, IsChanges, changed_paths, change_at, path_cmp, path_total, path_same, standing_by, Parts}

abbrev pair : Change → Parts × Option Node
pair c = (c.path, c.node)

abbrev pairs : List Change → List (Parts × Option Node)
pairs cs = map pair cs

get_pair : (cs : List Change) (i : ℕ) (d : Change) → get_or (pairs cs) i (pair d) ≡ pair (get_or cs i d)
get_pair [] i d = refl
get_pair (c ∷ cs) zero d = refl
get_pair (c ∷ cs) (suc i) d = get_pair cs i d

length_pairs : (cs : List Change) → length (pairs cs) ≡ length cs
length_pairs [] = refl
length_pairs (c ∷ cs) = ap suc (length_pairs cs)

find_pairs : (cs : List Change) (q : Parts) → find path_cmp q (pairs cs) ≡ change_at cs q
find_pairs [] q = refl
find_pairs (c ∷ cs) q = ap (λ r. cond (eq_by_cmp path_cmp q c.path) (Some c.node) r) (find_pairs cs q)

keys_pairs : (cs : List Change) → keys_of (pairs cs) ≡ changed_paths cs
keys_pairs [] = refl
keys_pairs (c ∷ cs) = ap (λ l. c.path ∷ l) (keys_pairs cs)

sorted_pairs : (cs : List Change) → IsChanges cs → T (is_sorted path_cmp (pairs cs))
sorted_pairs cs up = sorted_test path_cmp (pairs cs) (subst (IsStrictlySortedBy path_cmp) (sym (keys_pairs cs)) up)

pub search_rises : (cs : List Change) (q : Parts) → IsChanges cs → IsNonDecreasingBy (λ (c : Change). ordering_index (path_cmp c.path q)) cs
search_rises cs q up i j d le lt =
    let r = rises path_total (pairs cs) q (sorted_pairs cs up) i j (pair d) le (omega (arith, length_pairs cs, lt)) in
    let a : ordering_index (path_cmp (get_or (pairs cs) i (pair d)).0 q) ≡ ordering_index (path_cmp (get_or cs i d).path q) = ap (λ (x : Parts × Option Node). ordering_index (path_cmp x.0 q)) (get_pair cs i d) in
    let b : ordering_index (path_cmp (get_or (pairs cs) j (pair d)).0 q) ≡ ordering_index (path_cmp (get_or cs j d).path q) = ap (λ (x : Parts × Option Node). ordering_index (path_cmp x.0 q)) (get_pair cs j d) in
    omega (arith, r, a, b)

found_change : (cs : List Change) (i : ℕ) (q : Parts) (x : Change) → IsChanges cs → i < length cs → path_cmp (get_or cs i x).path q ≡ Equal → (get_or cs i x).node ≡ standing_by cs q
found_change cs i q x up lt tied =
    let at = find_at path_total path_same (pairs cs) i q (pair x) (sorted_pairs cs up) (omega (arith, length_pairs cs, lt)) (subst (λ (p : Parts × Option Node). path_cmp p.0 q ≡ Equal) (sym (get_pair cs i x)) tied) in
    sym (ap (λ o. unwrap_or o None) (sym (find_pairs cs q) ∙ (at ∙ ap (λ (p : Parts × Option Node). Some p.1) (get_pair cs i x))))

absent_change : (cs : List Change) (i : ℕ) (q : Parts) → IsChanges cs → ((j : ℕ) (d : Change) → j < i → path_cmp (get_or cs j d).path q ≡ Less) → ((j : ℕ) (d : Change) → i ≤ j → j < length cs → path_cmp (get_or cs j d).path q ≡ Greater) → None ≡ standing_by cs q
absent_change cs i q up before after =
    sym (ap (λ o. unwrap_or o None) (sym (find_pairs cs q) ∙ find_gap path_total (pairs cs) i q (sorted_pairs cs up)
    (λ j d lt. subst (λ (p : Parts × Option Node). path_cmp p.0 q ≡ Less) (sym (get_pair cs j (record { path = d.0; node = d.1 }))) (before j (record { path = d.0; node = d.1 }) lt))
    (λ j d le lt. subst (λ (p : Parts × Option Node). path_cmp p.0 q ≡ Greater) (sym (get_pair cs j (record { path = d.0; node = d.1 }))) (after j (record { path = d.0; node = d.1 }) le (omega (arith, length_pairs cs, lt))))))

pub found_in : (changes cs : List Change) (i : ℕ) (q : Parts) (x : Change) (o : Option Node) → cs ≡ changes → IsChanges changes → i < length cs → path_cmp (get_or cs i x).path q ≡ Equal → o ≡ (get_or cs i x).node → o ≡ standing_by changes q
found_in changes cs i q x o same up lt tied is = is ∙ (found_change cs i q x (subst IsChanges (sym same) up) lt tied ∙ ap (λ l. standing_by l q) same)

pub rises_in : (changes cs : List Change) (q : Parts) → cs ≡ changes → IsChanges changes → IsNonDecreasingBy (λ (c : Change). ordering_index (path_cmp c.path q)) cs
rises_in changes cs q same up = search_rises cs q (subst IsChanges (sym same) up)

pub absent_in : (changes cs : List Change) (i : ℕ) (q : Parts) → cs ≡ changes → IsChanges changes → ((j : ℕ) (d : Change) → j < i → path_cmp (get_or cs j d).path q ≡ Less) → ((j : ℕ) (d : Change) → i ≤ j → j < length cs → path_cmp (get_or cs j d).path q ≡ Greater) → None ≡ standing_by changes q
absent_in changes cs i q same up before after = absent_change cs i q (subst IsChanges (sym same) up) before after ∙ ap (λ l. standing_by l q) same
