-- One directory after another lists the names that stand in it.
use Rattle.fx_table.proofs.Prelude.{◌≡◌, ℕ, zero, suc, ◌+◌, ◌<◌, true, false, List, [], ◌∷◌, ◌++◌, map, length, take, drop, set, get_or, Option, Some, option_map, refl, sym, ◌∙◌, ap, subst, arith, filter_map, cons_option, slice_get, IsStrictlySortedBy, keys_of, false≢true, same_Some, length_keys, some_at, at_index, Parts, name_in, Node, File, Dir, Link, Change, path_cmp, IsNameSet, is_dir, Mapped, names_below, with_names, mapped_of, HaveNameSets, ListsAt, change_of, changes_of}

-- of the nodes, so many directories list their names
abbrev pub part_listed : List Mapped → ℕ → List Change
part_listed es i = changes_of (map (with_names es) (take i es) ++ drop i es)

pub mapped_changes : (es : List Mapped) → mapped_of (changes_of es) ≡ es
mapped_changes [] = refl
mapped_changes (e ∷ es) = ap (λ l. e ∷ l) (mapped_changes es)

pub mapped_len : (found : List Change) → length (mapped_of found) ≡ length found
mapped_len [] = refl
mapped_len (c ∷ found) = ap suc (mapped_len found)

pub same_key : (es : List Mapped) (e : Mapped) → (with_names es e).0 ≡ e.0
same_key es (p, File bytes exec) = refl
same_key es (p, Dir names) = refl
same_key es (p, Link text) = refl

-- ---- the names go by the paths alone

abbrev named : Parts → List Parts → List (List ℕ)
named p ks = filter_map (name_in p) ks

names_named : (es : List Mapped) (p : Parts) → names_below es p ≡ named p (keys_of es)
names_named [] p = refl
names_named (e ∷ es) p = ap (cons_option (name_in p e.0)) (names_named es p)

pub same_names : (es fs : List Mapped) (p : Parts) → keys_of es ≡ keys_of fs → names_below es p ≡ names_below fs p
same_names es fs p same = names_named es p ∙ (ap (named p) same ∙ sym (names_named fs p))

same_with : (es fs : List Mapped) (e : Mapped) → keys_of es ≡ keys_of fs → with_names es e ≡ with_names fs e
same_with es fs (p, File bytes exec) same = refl
same_with es fs (p, Dir names) same = ap (λ ns. (p, Dir ns)) (same_names es fs p same)
same_with es fs (p, Link text) same = refl

abbrev mixed : List Mapped → List Mapped → ℕ → List Mapped
mixed es xs i = map (with_names es) (take i xs) ++ drop i xs

mixed_keys : (es xs : List Mapped) (i : ℕ) → keys_of (mixed es xs i) ≡ keys_of xs
mixed_keys es [] zero = refl
mixed_keys es [] (suc i) = refl
mixed_keys es (x ∷ xs) zero = refl
mixed_keys es (x ∷ xs) (suc i) = ap (λ l. (with_names es x).0 ∷ l) (mixed_keys es xs i) ∙ ap (λ k. k ∷ keys_of xs) (same_key es x)

pub part_keys : (es : List Mapped) (i : ℕ) → keys_of (mapped_of (part_listed es i)) ≡ keys_of es
part_keys es i = ap keys_of (mapped_changes (mixed es es i)) ∙ mixed_keys es es i

pub part_sets : (es : List Mapped) (i : ℕ) (found : List Change) → found ≡ part_listed es i → HaveNameSets es → HaveNameSets (mapped_of found)
part_sets es i found is sets = subst (λ l. HaveNameSets (mapped_of l)) (sym is) (record {
  ascending = subst (IsStrictlySortedBy path_cmp) (sym (part_keys es i)) sets.ascending;
  sets = λ p. subst IsNameSet (sym (same_names (mapped_of (part_listed es i)) es p (part_keys es i))) (sets.sets p);
})

pub part_len : (es : List Mapped) (i : ℕ) (found : List Change) → found ≡ part_listed es i → length found ≡ length es
part_len es i found is =
    ap length is ∙ (sym (mapped_len (part_listed es i)) ∙ (sym (length_keys (mapped_of (part_listed es i))) ∙ (ap length (part_keys es i) ∙ length_keys es)))

-- ---- one more

mixed_at : (es xs : List Mapped) (i : ℕ) (e : Mapped) → slice_get xs i ≡ Some e → slice_get (changes_of (mixed es xs i)) i ≡ Some (change_of e)
mixed_at es [] i e is = cc
mixed_at es (x ∷ xs) zero e is = ap (option_map change_of) is
mixed_at es (x ∷ xs) (suc i) e is = mixed_at es xs i e is

mixed_set : (es xs : List Mapped) (i : ℕ) (e : Mapped) → slice_get xs i ≡ Some e → set (changes_of (mixed es xs i)) i (change_of (with_names es e)) ≡ changes_of (mixed es xs (i + 1))
mixed_set es [] i e is = cc
mixed_set es (x ∷ xs) zero e is = ap (λ y. change_of (with_names es y) ∷ changes_of xs) (sym (same_Some x e is))
mixed_set es (x ∷ xs) (suc i) e is =
    let one : suc i + 1 ≡ suc (i + 1) = omega arith in
    ap (λ l. change_of (with_names es x) ∷ l) (mixed_set es xs i e is) ∙ ap (λ n. changes_of (mixed es (x ∷ xs) n)) (sym one)

pub part_more : (es : List Mapped) (i : ℕ) (old new : List Change) → i < length old → old ≡ part_listed es i → ListsAt old i new → new ≡ part_listed es (i + 1)
part_more es i old new lt is lists =
    let e = some_at es i (omega (arith, lt, part_len es i old is)) in
    lists e.0 (ap (λ l. slice_get l i) is ∙ mixed_at es es i e.0 e.1)
    ∙ (ap (λ l. set l i (change_of (with_names (mapped_of l) e.0))) is
    ∙ (ap (λ m. set (part_listed es i) i (change_of m)) (same_with (mapped_of (part_listed es i)) es e.0 (part_keys es i))
    ∙ mixed_set es es i e.0 e.1))

-- ---- at one index

pub key_of : (found : List Change) (i : ℕ) (x : Change) → slice_get found i ≡ Some x → slice_get (keys_of (mapped_of found)) i ≡ Some x.path
key_of [] i x is = cc
key_of (c ∷ found) zero x is = ap (option_map (λ (d : Change). d.path)) is
key_of (c ∷ found) (suc i) x is = key_of found i x is

-- one index, one change
pub one_path : (found : List Change) (i : ℕ) (x y : Change) → i < length found → x ≡ get_or found i x → y ≡ get_or found i y → x.path ≡ y.path
one_path found i x y lt a b = ap (λ (c : Change). c.path) (same_Some x y (sym (at_index found i x lt a) ∙ at_index found i y lt b))

set_same : {A : Type 0} (xs : List A) (i : ℕ) (x : A) → slice_get xs i ≡ Some x → xs ≡ set xs i x
set_same [] i x is = refl
set_same (y ∷ xs) zero x is = ap (λ z. z ∷ xs) (same_Some y x is)
set_same (y ∷ xs) (suc i) x is = ap (λ l. y ∷ l) (set_same xs i x is)

-- what is no directory stays
pub lists_none : (old : List Change) (i : ℕ) (x : Change) → slice_get old i ≡ Some x → is_dir x.node ≡ false → ListsAt old i old
lists_none old i x is never (p, File bytes exec) at = set_same old i (change_of (p, File bytes exec)) at
lists_none old i x is never (p, Dir names) at =
    let same : x ≡ change_of (p, Dir names) = same_Some x (change_of (p, Dir names)) (sym is ∙ at) in
    absurd (false≢true (sym never ∙ ap (λ (c : Change). is_dir c.node) same))
lists_none old i x is never (p, Link text) at = set_same old i (change_of (p, Link text)) at

pub lists_dir : (old : List Change) (i : ℕ) (x : Change) (q : Parts) (names : List (List ℕ)) (node : Option Node) → slice_get old i ≡ Some x → is_dir x.node ≡ true → q ≡ x.path → node ≡ Some (Dir names) → names ≡ names_below (mapped_of old) x.path → ListsAt old i (set old i (record { path = q; node = node }))
lists_dir old i x q names node is dir here new are (p, n) at = by n (same_Some x (change_of (p, n)) (sym is ∙ at))
  where
    by : (n : Node) → x ≡ change_of (p, n) → set old i (record { path = q; node = node }) ≡ set old i (change_of (with_names (mapped_of old) (p, n)))
    by (File bytes exec) same = absurd (false≢true (sym (ap (λ (c : Change). is_dir c.node) same) ∙ dir))
    by (Dir old_names) same =
        let path : x.path ≡ p = ap (λ (c : Change). c.path) same in
        ap (λ r. set old i (record { path = r; node = node })) (here ∙ path)
        ∙ ap (λ o. set old i (record { path = p; node = o })) (new ∙ ap (λ ns. Some (Dir ns)) (are ∙ ap (names_below (mapped_of old)) path))
    by (Link text) same = absurd (false≢true (sym (ap (λ (c : Change). is_dir c.node) same) ∙ dir))
