-- Lists of entries whose keys strictly rise, as `FinMap` tests them.
use Rattle.std.proofs.Common.{◌≡◌, ℕ, zero, suc, ◌+◌, ◌-◌, ◌<◌, ◌≤◌, Bool, true, false, cond, ◌&&◌, T, List, [], ◌∷◌, ◌++◌, length, take, get_or, None, Some, refl, sym, ◌∙◌, ap, subst, arith}
use Rattle.std.specs.declared.cmp.Ordering.{Ordering}
use Rattle.std.specs.declared.cmp.Ordering.TheVariants.{Less, Equal, Greater}
use Rattle.std.specs.Ordering.{is_lt, is_eq, ordering_reverse, ordering_index}
use Rattle.std.specs.Cmp.{IsTotalOrder, eq_by_cmp_equiv}
use Rattle.std.specs.List.{AllByRecursion, slice_get}
use Rattle.std.specs.List.Sorted.{IsStrictlySortedBy, IsNonDecreasingBy}
use Rattle.std.specs.Map.{keys_of, lookup}
use Rattle.std.specs.BTreeMap.{is_at}
use Rattle.std.specs.FinMap.{FinMap, IsAntisymmetric, entries, empty, from_sorted, insert, find, put, is_sorted, entries-from_sorted, entries-insert, same_entries_map, empty_of_len, len-entries}
use Rattle.std.specs.FinMap.Entries.{below_all}
use Rattle.std.proofs.lemmas.Option.{same_Some, slice_get-get_or}
use Rattle.std.proofs.lemmas.List.Sorted.{searchable_from_sorted}
use Rattle.std.proofs.lemmas.Map.Entries.{lookup_from_place, lookup_at_gap}
use Rattle.std.proofs.lemmas.Map.Keys.{IsDistinct-from_sorted, Less-from_sorted}
use Rattle.fx_base.proofs.Lists.{length_keys}

pub both : (a b : Bool) → T a → T b → T (a && b)
both true b p q = q
both false b p q = p

pub first : (a b : Bool) → T (a && b) → T a
first true b p = tt
first false b p = p

pub second : (a b : Bool) → T (a && b) → T b
second true b p = p
second false b p = absurd p

pub is_less : (o : Ordering) → T (is_lt o) → o ≡ Less
is_less Less p = refl
is_less Equal p = absurd p
is_less Greater p = absurd p

pub less_test : (o : Ordering) → o ≡ Less → T (is_lt o)
less_test o e = subst (λ r. T (is_lt r)) (sym e) tt

pub greater_from_less : {K : Type 0} {R : K → K → Ordering} → IsTotalOrder R → (x y : K) → R x y ≡ Less → R y x ≡ Greater
greater_from_less o x y e = o.antisymm y x ∙ ap ordering_reverse e

-- a list whose last element is e
pub split_last : {A : Type 0} (xs : List A) (e : A) → slice_get xs (length xs - 1) ≡ Some e → xs ≡ take (length xs - 1) xs ++ e ∷ []
split_last [] e is = cc
split_last (x ∷ []) e is = ap (λ y. y ∷ []) (same_Some x e is)
split_last (x ∷ y ∷ ys) e is =
    let one : length (x ∷ y ∷ ys) - 1 ≡ suc (length (y ∷ ys) - 1) = omega arith in
    let below : slice_get (y ∷ ys) (length (y ∷ ys) - 1) ≡ Some e = subst (λ n. slice_get (x ∷ y ∷ ys) n ≡ Some e) one is in
    ap (λ l. x ∷ l) (split_last (y ∷ ys) e below) ∙ ap (λ n. take n (x ∷ y ∷ ys) ++ e ∷ []) (sym one)

module _ {K X : Type 0} (R : K → K → Ordering) where
  all_below : (k : K) (es : List (K × X)) → T (below_all R k es) → AllByRecursion (λ y. R k y ≡ Less) (keys_of es)
  all_below k [] h = tt
  all_below k (e ∷ es) h = (is_less _ (first (is_lt (R k e.0)) _ h), all_below k es (second (is_lt (R k e.0)) _ h))

  -- the test for keys that strictly rise, as a fact
  pub strictly_sorted : (es : List (K × X)) → T (is_sorted R es) → IsStrictlySortedBy R (keys_of es)
  unfolding IsStrictlySortedBy
  strictly_sorted [] h = tt
  strictly_sorted (e ∷ es) h = (all_below e.0 es (first (below_all R e.0 es) _ h), strictly_sorted es (second (below_all R e.0 es) _ h))

  below_from_all : (k : K) (es : List (K × X)) → AllByRecursion (λ y. R k y ≡ Less) (keys_of es) → T (below_all R k es)
  below_from_all k [] h = tt
  below_from_all k (e ∷ es) h = both (is_lt (R k e.0)) _ (less_test _ h.0) (below_from_all k es h.1)

  pub sorted_test : (es : List (K × X)) → IsStrictlySortedBy R (keys_of es) → T (is_sorted R es)
  unfolding IsStrictlySortedBy
  sorted_test [] h = tt
  sorted_test (e ∷ es) h = both (below_all R e.0 es) _ (below_from_all e.0 es h.0) (sorted_test es h.1)

  pub find_is_lookup : (q : K) (es : List (K × X)) → find R q es ≡ lookup (is_at (R q)) es
  find_is_lookup q [] = refl
  find_is_lookup q (e ∷ es) = ap (λ r. cond (is_eq (R q e.0)) (Some e.1) r) (find_is_lookup q es)

  -- the key stands above the last one of a front, and of every one before
  below_front : (k : K) (v : X) (x : K) (es : List (K × X)) → T (below_all R x (es ++ (k, v) ∷ [])) → R x k ≡ Less
  below_front k v x [] h = is_less _ (first (is_lt (R x k)) true h)
  below_front k v x (e ∷ es) h = below_front k v x es (second (is_lt (R x e.0)) _ h)

  below_prefix : (x : K) (es fs : List (K × X)) → T (below_all R x (es ++ fs)) → T (below_all R x es)
  below_prefix x [] fs h = tt
  below_prefix x (e ∷ es) fs h = both (is_lt (R x e.0)) _ (first (is_lt (R x e.0)) _ h) (below_prefix x es fs (second (is_lt (R x e.0)) _ h))

  pub sorted_prefix : (es fs : List (K × X)) → T (is_sorted R (es ++ fs)) → T (is_sorted R es)
  sorted_prefix [] fs h = tt
  sorted_prefix (e ∷ es) fs h = both (below_all R e.0 es) _ (below_prefix e.0 es fs (first (below_all R e.0 (es ++ fs)) _ h)) (sorted_prefix es fs (second (below_all R e.0 (es ++ fs)) _ h))

module _ {K X : Type 0} {R : K → K → Ordering} (o : IsTotalOrder R) where
  -- the place of an entry whose key is above all others is the end
  pub put_last : (k : K) (v : X) (es : List (K × X)) → T (is_sorted R (es ++ (k, v) ∷ [])) → put R k v es ≡ es ++ (k, v) ∷ []
  put_last k v [] h = refl
  put_last k v (e ∷ es) h =
      let above : R k e.0 ≡ Greater = greater_from_less o e.0 k (below_front R k v e.0 es (first (below_all R e.0 (es ++ (k, v) ∷ [])) _ h)) in
      rw above (ap (λ l. e ∷ l) (put_last k v es (second (below_all R e.0 (es ++ (k, v) ∷ [])) _ h)))

  -- to put such an entry at the end is to insert it
  pub from_sorted_push : (k : K) (v : X) (es : List (K × X)) → T (is_sorted R (es ++ (k, v) ∷ [])) → from_sorted {R = R} (es ++ (k, v) ∷ []) ≡ insert (from_sorted es) k v
  from_sorted_push k v es h =
      let before : entries (from_sorted {R = R} es) ≡ es = entries-from_sorted R es (sorted_prefix R es ((k, v) ∷ []) h) in
      same_entries_map _ _ (entries-from_sorted R (es ++ (k, v) ∷ []) h ∙ sym (entries-insert o (from_sorted es) k v ∙ ap (put R k v) before ∙ put_last k v es h))

  below_longer : (x e k : K) (u v : X) (es : List (K × X)) → R e k ≡ Less → T (below_all R x (es ++ (e, u) ∷ [])) → T (below_all R x ((es ++ (e, u) ∷ []) ++ (k, v) ∷ []))
  below_longer x e k u v [] lt h =
      let one = first (is_lt (R x e)) true h in
      both (is_lt (R x e)) _ one (both (is_lt (R x k)) true (less_test _ (o.trans x e k (is_less _ one) lt)) tt)
  below_longer x e k u v (f ∷ es) lt h = both (is_lt (R x f.0)) _ (first (is_lt (R x f.0)) _ h) (below_longer x e k u v es lt (second (is_lt (R x f.0)) _ h))

  -- an entry whose key is above the last one may stand at the end
  pub sorted_longer : (e k : K) (u v : X) (es : List (K × X)) → R e k ≡ Less → T (is_sorted R (es ++ (e, u) ∷ [])) → T (is_sorted R ((es ++ (e, u) ∷ []) ++ (k, v) ∷ []))
  sorted_longer e k u v [] lt h = both (is_lt (R e k) && true) true (both (is_lt (R e k)) true (less_test _ lt) tt) tt
  sorted_longer e k u v (f ∷ es) lt h =
      both (below_all R f.0 ((es ++ (e, u) ∷ []) ++ (k, v) ∷ [])) _
      (below_longer f.0 e k u v es lt (first (below_all R f.0 (es ++ (e, u) ∷ [])) _ h))
      (sorted_longer e k u v es lt (second (below_all R f.0 (es ++ (e, u) ∷ [])) _ h))

  -- and only such a one
  pub above_last : (e k : K) (u v : X) (es : List (K × X)) → T (is_sorted R ((es ++ (e, u) ∷ []) ++ (k, v) ∷ [])) → R e k ≡ Less
  above_last e k u v [] h = is_less _ (first (is_lt (R e k)) true (first (is_lt (R e k) && true) true h))
  above_last e k u v (f ∷ es) h = above_last e k u v es (second (below_all R f.0 ((es ++ (e, u) ∷ []) ++ (k, v) ∷ [])) _ h)

  -- what a search for a key finds at a place where the key ties
  pub find_at : IsAntisymmetric R → (es : List (K × X)) (i : ℕ) (q : K) (d : K × X) → T (is_sorted R es) → i < length es → R (get_or es i d).0 q ≡ Equal → find R q es ≡ Some (get_or es i d).1
  find_at same es i q d sorted lt tied =
      let key : (get_or es i d).0 ≡ q = same _ q tied in
      subst (λ k. find R k es ≡ Some (get_or es i d).1) key
      (find_is_lookup R _ es ∙ lookup_from_place (eq_by_cmp_equiv o) es i (get_or es i d).0 (get_or es i d).1 (IsDistinct-from_sorted R (keys_of es) (strictly_sorted R es sorted)) (slice_get-get_or es i d lt))

  -- what it finds where the keys before are less and those from there on greater
  pub find_gap : (es : List (K × X)) (i : ℕ) (q : K) → T (is_sorted R es) → ((j : ℕ) (d : K × X) → j < i → R (get_or es j d).0 q ≡ Less) → ((j : ℕ) (d : K × X) → i ≤ j → j < length es → R (get_or es j d).0 q ≡ Greater) → find R q es ≡ None
  find_gap es i q sorted before after =
      find_is_lookup R q es ∙ lookup_at_gap o q es i (strictly_sorted R es sorted)
      (λ j e lt at. greater_from_less o e.0 q (subst (λ (x : K × X). R x.0 q ≡ Less) (get_or_at es j e e at) (before j e lt)))
      (λ e at. o.antisymm q e.0 ∙ ap ordering_reverse (subst (λ (x : K × X). R x.0 q ≡ Greater) (get_or_at es i e e at) (after i e (omega arith) (within es i e at))))
    where
      get_or_at : (l : List (K × X)) (j : ℕ) (e d : K × X) → slice_get l j ≡ Some e → get_or l j d ≡ e
      get_or_at [] j e d at = cc
      get_or_at (x ∷ l) zero e d at = same_Some x e at
      get_or_at (x ∷ l) (suc j) e d at = get_or_at l j e d at

      within : (l : List (K × X)) (j : ℕ) (e : K × X) → slice_get l j ≡ Some e → j < length l
      within [] j e at = cc
      within (x ∷ l) zero e at = omega arith
      within (x ∷ l) (suc j) e at = let rest = within l j e at in omega arith

pub from_sorted_nil : {K X : Type 0} (R : K → K → Ordering) → from_sorted {X = X} {R = R} [] ≡ empty
from_sorted_nil {X = X} R = empty_of_len _ (len-entries (from_sorted {X = X} {R = R} []) ∙ ap length (entries-from_sorted {X = X} R [] tt))

not_less : (o r : Ordering) → r ≡ ordering_reverse o → o ≡ Less → is_lt r ≡ false
not_less o r e is = rw (e, is) refl

get_or_keys : {K X : Type 0} (es : List (K × X)) (i : ℕ) (d : K × X) → get_or (keys_of es) i d.0 ≡ (get_or es i d).0
get_or_keys [] i d = refl
get_or_keys (e ∷ es) zero d = refl
get_or_keys (e ∷ es) (suc i) d = get_or_keys es i d

-- the answers of a search for a key rise along such a list
pub rises : {K X : Type 0} {R : K → K → Ordering} (o : IsTotalOrder R) (es : List (K × X)) (q : K) → T (is_sorted R es) → IsNonDecreasingBy (λ e. ordering_index (R e.0 q)) es
rises {R = R} o es q sorted = searchable_from_sorted o (λ e. e.0) es q (λ k d low lt.
    let keys = Less-from_sorted R (keys_of es) k (k + 1) d.0 (strictly_sorted R es sorted) (omega arith) (omega (arith, length_keys es)) in
    let less : R (get_or es k d).0 (get_or es (k + 1) d).0 ≡ Less = subst (λ x. R x (get_or es (k + 1) d).0 ≡ Less) (get_or_keys es k d) (subst (λ x. R (get_or (keys_of es) k d.0) x ≡ Less) (get_or_keys es (k + 1) d) keys) in
    not_less _ _ (o.antisymm (get_or es (k + 1) d).0 (get_or es k d).0) less)

-- the two ways to say that a name may stand at the end
pub after_last : {K X : Type 0} {R : K → K → Ordering} (o : IsTotalOrder R) (es : List (K × X)) (e : K × X) (k : K) (v : X) (b : Bool) → T (is_sorted R es) → slice_get es (length es - 1) ≡ Some e → b ≡ is_lt (R e.0 k) → record { forward : b ≡ true → T (is_sorted R (es ++ (k, v) ∷ [])); back : T (is_sorted R (es ++ (k, v) ∷ [])) → b ≡ true }
after_last {K} {X} {R} o es e k v b sorted last is =
    let split : es ≡ take (length es - 1) es ++ e ∷ [] = split_last es e last in
    let sorted' : T (is_sorted R (take (length es - 1) es ++ (e.0, e.1) ∷ [])) = subst (λ l. T (is_sorted R l)) split sorted in
    record {
      forward = λ yes. subst (λ l. T (is_sorted R (l ++ (k, v) ∷ []))) (sym split) (sorted_longer o e.0 k e.1 v (take (length es - 1) es) (is_less _ (subst T (sym yes ∙ is) tt)) sorted');
      back = λ long. is ∙ ap is_lt (above_last o e.0 k e.1 v (take (length es - 1) es) (subst (λ l. T (is_sorted R (l ++ (k, v) ∷ []))) split long));
    }

pub nothing_last : {A : Type 0} (xs : List A) → slice_get xs (length xs - 1) ≡ None → xs ≡ []
nothing_last [] e = refl
nothing_last (x ∷ []) e = cc
nothing_last (x ∷ y ∷ ys) e =
    let one : length (x ∷ y ∷ ys) - 1 ≡ suc (length (y ∷ ys) - 1) = omega arith in
    let below : slice_get (y ∷ ys) (length (y ∷ ys) - 1) ≡ None = subst (λ n. slice_get (x ∷ y ∷ ys) n ≡ None) one e in
    let none = nothing_last (y ∷ ys) below in
    cc

-- the entries with one more at the end
pub entries_last : {K X : Type 0} {R : K → K → Ordering} (o : IsTotalOrder R) (m : FinMap R X) (k : K) (v : X) → T (is_sorted R (entries m ++ (k, v) ∷ [])) → entries (insert m k v) ≡ entries m ++ (k, v) ∷ []
entries_last o m k v h = entries-insert o m k v ∙ put_last o k v (entries m) h
