-- Entries whose first ones stand in a list of their own.
use Rattle.std.proofs.Common.{◌≡◌, ℕ, zero, suc, ◌+◌, ◌-◌, ◌<◌, not, Bool, true, false, cond, List, [], ◌∷◌, ◌++◌, length, take, drop, get_or, slice_get, slice_set, Option, Some, None, is_some, refl, sym, ap, subst, ◌∙◌, arith}
use Rattle.std.specs.Prelude.{position, nat_lt}
use Rattle.std.specs.Cmp.{IsEquivalence, IsTotalOrder}
use Rattle.std.specs.Ordering.{is_lt}
use Rattle.std.specs.declared.cmp.Ordering.{Ordering}
use Rattle.std.specs.List.{AllByRecursion, IsDistinct, position_or_len}
use Rattle.std.specs.List.Sorted.{IsPermutation, IsSorted, IsSortedBy}
use Rattle.std.specs.Map.{lookup, keys_of}
use Rattle.std.proofs.lemmas.List.{append-nil, get_or-map}
use Rattle.std.proofs.lemmas.List.Elements.{Contains-append_right}
use Rattle.std.proofs.lemmas.List.Sorted.{IsPermutation-map, IsPermutation-sym, Contains-permutation}
use Rattle.std.proofs.lemmas.Map.Keys.{IsDistinct-IsPermutation}
use Rattle.std.proofs.lemmas.Map.Views.{lookup-from_Contains, Contains-from_lookup}
use Rattle.std.proofs.lemmas.Option.{same_Some}
use Rattle.indexmap.specs.IndexMap.{insert_entry}
use Rattle.fx_base.proofs.Lists.{at_index, drop_next, length_keys, not_past}
use Rattle.fx_store.specs.declared.node.Node.{Node}
use Rattle.fx_view.specs.Few.{IsFirst}
use Rattle.fx_view.specs.ReadList.{ReadList}
use Rattle.fx_view.specs.Reads.{placed}

pub take_joined : {A : Type 0} (xs ys : List A) (n m : ℕ) → m ≡ n - length xs → take n (xs ++ ys) ≡ take n xs ++ take m ys
take_joined [] ys zero m e = let same : 0 ≡ m = omega arith in ap (λ k. take k ys) same
take_joined [] ys (suc n) m e = let same : suc n ≡ m = omega arith in ap (λ k. take k ys) same
take_joined (x ∷ xs) ys zero m e = let same : 0 ≡ m = omega arith in ap (λ k. take k ys) same
take_joined (x ∷ xs) ys (suc n) m e = ap (λ zs. x ∷ zs) (take_joined xs ys n m (omega arith))

module _ {K X : Type 0} (is : K → Bool) where
  -- ---- the search goes on

  -- no entry before the place has a key that passes
  pub record Sought (es : List (K × X)) (i : ℕ) : Type 0 where
    pub first : (k : ℕ) → IsFirst is (drop i es) k → IsFirst is es (i + k)
    pub found : lookup is es ≡ lookup is (drop i es)

  pub sought_here : (es : List (K × X)) (i : ℕ) (e : K × X) → Sought es i → i < length es → e ≡ get_or es i e → is e.0 ≡ true → IsFirst is es i
  sought_here es i e sought within at passes =
      let here : IsFirst is (drop i es) 0 = subst (λ (xs : List (K × X)). IsFirst is xs 0) (sym (drop_next es i e (at_index es i e within at))) passes in
      let same : i + 0 ≡ i = omega arith in
      subst (IsFirst is es) same (sought.first 0 here)

  pub sought_next : (es : List (K × X)) (i : ℕ) (e : K × X) → Sought es i → i < length es → e ≡ get_or es i e → is e.0 ≡ false → Sought es (i + 1)
  sought_next es i e sought within at fails =
      let split = drop_next es i e (at_index es i e within at) in record {
        first = λ k h.
            let further : i + suc k ≡ (i + 1) + k = omega arith in
            subst (IsFirst is es) further (sought.first (suc k) (subst (λ (xs : List (K × X)). IsFirst is xs (suc k)) (sym split) (fails, h)));
        found = sought.found ∙ ap (λ (xs : List (K × X)). lookup is xs) split ∙ ap (λ b. cond b (Some e.1) (lookup is (drop (i + 1) es))) fails;
      }

  -- ---- an entry in the first list

  pub lookup_first : (es ys : List (K × X)) (i : ℕ) (d : K × X) → IsFirst is es i → Some (get_or es i d).1 ≡ lookup is (es ++ ys)
  lookup_first [] ys i d first = absurd first
  lookup_first (x ∷ xs) ys zero d first = sym (ap (λ b. cond b (Some x.1) (lookup is (xs ++ ys))) first)
  lookup_first (x ∷ xs) ys (suc i) d first = lookup_first xs ys i d first.1 ∙ sym (ap (λ b. cond b (Some x.1) (lookup is (xs ++ ys))) first.0)

  pub place_first : (es ys : List (K × X)) (i : ℕ) → IsFirst is es i → position_or_len is (keys_of (es ++ ys)) ≡ i
  place_first [] ys i first = absurd first
  place_first (x ∷ xs) ys zero first = ap (λ b. cond (not b) (1 + position_or_len is (keys_of (xs ++ ys))) 0) first
  place_first (x ∷ xs) ys (suc i) first =
      let rest = place_first xs ys i first.1 in
      ap (λ b. cond (not b) (1 + position_or_len is (keys_of (xs ++ ys))) 0) first.0 ∙ omega (arith, rest)

  pub first_within : (es : List (K × X)) (i : ℕ) → IsFirst is es i → i < length es
  first_within [] i first = absurd first
  first_within (x ∷ xs) zero first = omega arith
  first_within (x ∷ xs) (suc i) first = let rest = first_within xs i first.1 in omega (arith, rest)

  -- ---- no entry in the first list

  pub lookup_rest : (es ys : List (K × X)) → lookup is es ≡ None → lookup is (es ++ ys) ≡ lookup is ys
  lookup_rest [] ys none = refl
  lookup_rest (x ∷ xs) ys none = at (is x.0) none (lookup_rest xs ys)
    where
      at : (b : Bool) → cond b (Some x.1) (lookup is xs) ≡ None → (lookup is xs ≡ None → lookup is (xs ++ ys) ≡ lookup is ys) → cond b (Some x.1) (lookup is (xs ++ ys)) ≡ lookup is ys
      at true none rest = cc
      at false none rest = rest none

  pub place_rest : (es ys : List (K × X)) → lookup is es ≡ None → position_or_len is (keys_of (es ++ ys)) ≡ length es + position_or_len is (keys_of ys)
  place_rest [] ys none = omega arith
  place_rest (x ∷ xs) ys none = at (is x.0) none (place_rest xs ys)
    where
      at : (b : Bool) → cond b (Some x.1) (lookup is xs) ≡ None → (lookup is xs ≡ None → position_or_len is (keys_of (xs ++ ys)) ≡ length xs + position_or_len is (keys_of ys)) → cond (not b) (1 + position_or_len is (keys_of (xs ++ ys))) 0 ≡ suc (length xs) + position_or_len is (keys_of ys)
      at true none rest = cc
      at false none rest = omega (arith, rest none)

  pub lookup_neither : (es ys : List (K × X)) → lookup is es ≡ None → None ≡ lookup is ys → None ≡ lookup is (es ++ ys)
  lookup_neither es ys none other = other ∙ sym (lookup_rest es ys none)

  -- ---- what the map says of a place

  pub place_some : (es : List (K × X)) (i : ℕ) → position is (keys_of es) ≡ Some i → position_or_len is (keys_of es) ≡ i
  place_some es i found = at (nat_lt (position_or_len is (keys_of es)) (length (keys_of es))) found
    where
      at : (b : Bool) → cond b (Some (position_or_len is (keys_of es))) None ≡ Some i → position_or_len is (keys_of es) ≡ i
      at true e = same_Some _ _ e
      at false e = absurd (cc)

  pub place_none : (es : List (K × X)) → is_some (lookup is es) ≡ false → position_or_len is (keys_of es) ≡ length es
  place_none [] gone = refl
  place_none (x ∷ xs) gone = at (is x.0) gone (place_none xs)
    where
      at : (b : Bool) → is_some (cond b (Some x.1) (lookup is xs)) ≡ false → (is_some (lookup is xs) ≡ false → position_or_len is (keys_of xs) ≡ length xs) → cond (not b) (1 + position_or_len is (keys_of xs)) 0 ≡ suc (length xs)
      at true gone rest = absurd (cc)
      at false gone rest = omega (arith, rest gone)

-- ---- an entry that is set

module _ {K X : Type 0} (eq : K → K → Bool) (k : K) (v : X) where
  set_first : (es ys : List (K × X)) (i : ℕ) (e : K × X) → IsFirst (eq k) es i → slice_get es i ≡ Some e → insert_entry eq (es ++ ys) k v ≡ slice_set es i (e.0, v) ++ ys
  set_first [] ys i e first at = absurd first
  set_first (x ∷ xs) ys zero e first at =
      ap (λ b. cond b ((x.0, v) ∷ (xs ++ ys)) (x ∷ insert_entry eq (xs ++ ys) k v)) first
      ∙ ap (λ (w : K × X). (w.0, v) ∷ (xs ++ ys)) (same_Some x e at)
  set_first (x ∷ xs) ys (suc i) e first at =
      ap (λ b. cond b ((x.0, v) ∷ (xs ++ ys)) (x ∷ insert_entry eq (xs ++ ys) k v)) first.0
      ∙ ap (λ zs. x ∷ zs) (set_first xs ys i e first.1 at)

  pub insert_first : (es ys new : List (K × X)) (i : ℕ) → IsFirst (eq k) es i → ((path : K) (before : X) → slice_get es i ≡ Some (path, before) → new ≡ slice_set es i (path, v)) → new ++ ys ≡ insert_entry eq (es ++ ys) k v
  insert_first es ys new i first put = by (slice_get es i) refl
    where
      by : (o : Option (K × X)) → slice_get es i ≡ o → new ++ ys ≡ insert_entry eq (es ++ ys) k v
      by None e = absurd (not_past es i (first_within (eq k) es i first) e)
      by (Some e) at = ap (λ (zs : List (K × X)). zs ++ ys) (put e.0 e.1 at) ∙ sym (set_first es ys i e first at)

  pub insert_rest : (es ys : List (K × X)) → lookup (eq k) es ≡ None → insert_entry eq (es ++ ys) k v ≡ es ++ insert_entry eq ys k v
  insert_rest [] ys none = refl
  insert_rest (x ∷ xs) ys none = at (eq k x.0) none (insert_rest xs ys)
    where
      at : (b : Bool) → cond b (Some x.1) (lookup (eq k) xs) ≡ None → (lookup (eq k) xs ≡ None → insert_entry eq (xs ++ ys) k v ≡ xs ++ insert_entry eq ys k v) → cond b ((x.0, v) ∷ (xs ++ ys)) (x ∷ insert_entry eq (xs ++ ys) k v) ≡ x ∷ (xs ++ insert_entry eq ys k v)
      at true none rest = absurd (cc)
      at false none rest = ap (λ zs. x ∷ zs) (rest none)

  -- a new entry comes last in the first list, while the other has none
  pub insert_last : (es ys : List (K × X)) → lookup (eq k) es ≡ None → length ys ≡ 0 → (es ++ (k, v) ∷ []) ++ ys ≡ insert_entry eq (es ++ ys) k v
  insert_last es [] none empty = append-nil (es ++ (k, v) ∷ []) ∙ sym (insert_rest es [] none)
  insert_last es (y ∷ ys) none empty = absurd (omega arith)

  -- a new entry comes last
  insert_new : (es : List (K × X)) → lookup (eq k) es ≡ None → insert_entry eq es k v ≡ es ++ (k, v) ∷ []
  insert_new es none = ap (λ zs. insert_entry eq zs k v) (sym (append-nil es)) ∙ insert_rest es [] none

  pub push_rest : (es ys : List (K × X)) → lookup (eq k) (es ++ ys) ≡ None → es ++ insert_entry eq ys k v ≡ (es ++ ys) ++ (k, v) ∷ []
  push_rest [] ys none = insert_new ys none
  push_rest (x ∷ xs) ys none = at (eq k x.0) none (push_rest xs ys)
    where
      at : (b : Bool) → cond b (Some x.1) (lookup (eq k) (xs ++ ys)) ≡ None → (lookup (eq k) (xs ++ ys) ≡ None → xs ++ insert_entry eq ys k v ≡ (xs ++ ys) ++ (k, v) ∷ []) → (x ∷ xs) ++ insert_entry eq ys k v ≡ ((x ∷ xs) ++ ys) ++ (k, v) ∷ []
      at true none rest = absurd (cc)
      at false none rest = ap (λ zs. x ∷ zs) (rest none)

-- ---- a read at another position

module _ (position : ℕ) where
  pub placed_first : (es ys : ReadList) (i : ℕ) (e : List (List ℕ) × (Option Node × ℕ)) → i < length es → e ≡ get_or es i e → slice_set es i (e.0, (e.1.0, position)) ++ ys ≡ placed i position (es ++ ys)
  placed_first [] ys i e within at = absurd (omega arith)
  placed_first (x ∷ xs) ys zero e within at = ap (λ (w : List (List ℕ) × (Option Node × ℕ)). (w.0, (w.1.0, position)) ∷ (xs ++ ys)) at
  placed_first (x ∷ xs) ys (suc i) e within at = ap (λ (zs : ReadList). x ∷ zs) (placed_first xs ys i e (omega arith) at)

  pub placed_rest : (es ys : ReadList) (i j : ℕ) → i ≡ length es + j → es ++ placed j position ys ≡ placed i position (es ++ ys)
  placed_rest [] ys i j e = let same : j ≡ i = omega arith in ap (λ k. placed k position ys) same
  placed_rest (x ∷ xs) ys zero j e = absurd (omega arith)
  placed_rest (x ∷ xs) ys (suc i) j e = ap (λ (zs : ReadList). x ∷ zs) (placed_rest xs ys i j (omega arith))

-- ---- entries in another order

module _ {K X : Type 0} {eq : K → K → Bool} (laws : IsEquivalence eq) where
  -- the keys of the same entries in another order
  pub once_moved : (xs ys : List (K × X)) → IsPermutation xs ys → IsDistinct eq (keys_of xs) → IsDistinct eq (keys_of ys)
  once_moved xs ys moved once = IsDistinct-IsPermutation eq laws.symm (keys_of xs) (keys_of ys) (IsPermutation-map (λ (e : K × X). e.0) xs ys moved) once

  -- what a look-up finds, it finds in the same entries in another order, where equal keys are the same
  moved_some : ((x y : K) → eq x y ≡ true → x ≡ y) → (xs ys : List (K × X)) (q : K) (v : X) → IsPermutation xs ys → IsDistinct eq (keys_of ys) → lookup (eq q) xs ≡ Some v → lookup (eq q) ys ≡ Some v
  moved_some exact xs ys q v moved once found = lookup-from_Contains laws q v ys once (Contains-permutation xs ys (q, v) moved (Contains-from_lookup exact q v xs found))

  pub lookup_moved : ((x y : K) → eq x y ≡ true → x ≡ y) → (xs ys : List (K × X)) (q : K) → IsPermutation xs ys → IsDistinct eq (keys_of xs) → IsDistinct eq (keys_of ys) → lookup (eq q) ys ≡ lookup (eq q) xs
  lookup_moved exact xs ys q moved once now = by (lookup (eq q) xs) refl (lookup (eq q) ys) refl
    where
      by : (o : Option X) → lookup (eq q) xs ≡ o → (r : Option X) → lookup (eq q) ys ≡ r → r ≡ o
      by None e None h = refl
      by None e (Some w) h = sym (moved_some exact ys xs q w (IsPermutation-sym xs ys moved) once h) ∙ e
      by (Some v) e r h = sym h ∙ moved_some exact xs ys q v moved now e

  -- an entry of the second list is found, since no other has its key
  pub lookup_last : ((x y : K) → eq x y ≡ true → x ≡ y) → (es ys : List (K × X)) (q : K) (v : X) → IsDistinct eq (keys_of (es ++ ys)) → Some v ≡ lookup (eq q) ys → Some v ≡ lookup (eq q) (es ++ ys)
  lookup_last exact es ys q v once found = sym (lookup-from_Contains laws q v (es ++ ys) once (Contains-append_right es ys (q, v) (Contains-from_lookup exact q v ys (sym found))))

-- ---- entries in the order of their keys

module _ {K X : Type 0} {R : K → K → Ordering} (o : IsTotalOrder R) where
  pub sorted_keys : (es : List (K × X)) → IsSortedBy (λ x y. is_lt (R x.0 y.0)) es → IsSorted R (keys_of es)
  sorted_keys [] sorted i k low high = absurd (omega arith)
  sorted_keys (x ∷ xs) sorted i k low high =
      let long : length (keys_of (x ∷ xs)) ≡ length (x ∷ xs) = length_keys (x ∷ xs) in
      let high : i + 1 < length (x ∷ xs) = omega (arith, long) in
      rw (get_or-map (λ (e : K × X). e.0) (x ∷ xs) (i + 1) x k high, get_or-map (λ (e : K × X). e.0) (x ∷ xs) i x k (omega arith)) (sorted i x low high)

-- the entries in another order, once all have come
pub all_moved : {A : Type 0} (xs rest all ys : List A) → xs ++ rest ≡ all → rest ≡ [] → IsPermutation xs ys → IsPermutation all ys
all_moved {A} xs rest all ys joined end moved =
    let whole : xs ≡ all = sym (append-nil xs) ∙ ap (λ (zs : List A). xs ++ zs) (sym end) ∙ joined in
    subst (λ (zs : List A). IsPermutation zs ys) whole moved

-- ---- each key once

module _ {K X : Type 0} {eq : K → K → Bool} (laws : IsEquivalence eq) where
  all_take : (P : K → Type 0) (es : List (K × X)) (n : ℕ) → AllByRecursion P (keys_of es) → AllByRecursion P (keys_of (take n es))
  all_take P [] zero all = tt
  all_take P [] (suc n) all = tt
  all_take P (e ∷ es) zero all = tt
  all_take P (e ∷ es) (suc n) all = (all.0, all_take P es n all.1)

  pub once_take : (es : List (K × X)) (n : ℕ) → IsDistinct eq (keys_of es) → IsDistinct eq (keys_of (take n es))
  unfolding IsDistinct
  once_take [] zero once = tt
  once_take [] (suc n) once = tt
  once_take (e ∷ es) zero once = tt
  once_take (e ∷ es) (suc n) once = (all_take (λ y. eq e.0 y ≡ false) es n once.0, once_take es n once.1)

  module _ (k : K) (v : X) where
    apart_insert : (x : K) (es : List (K × X)) → eq k x ≡ false → AllByRecursion (λ y. eq x y ≡ false) (keys_of es) → AllByRecursion (λ y. eq x y ≡ false) (keys_of (insert_entry eq es k v))
    apart_insert x [] other apart = (laws.symm x k ∙ other, tt)
    apart_insert x (e ∷ es) other apart = at (eq k e.0) (apart_insert x es other apart.1)
      where
        at : (b : Bool) → AllByRecursion (λ y. eq x y ≡ false) (keys_of (insert_entry eq es k v)) → AllByRecursion (λ y. eq x y ≡ false) (keys_of (cond b ((e.0, v) ∷ es) (e ∷ insert_entry eq es k v)))
        at true rest = apart
        at false rest = (apart.0, rest)

    pub once_insert : (es : List (K × X)) → IsDistinct eq (keys_of es) → IsDistinct eq (keys_of (insert_entry eq es k v))
    unfolding IsDistinct
    once_insert [] once = (tt, tt)
    once_insert (e ∷ es) once = at (eq k e.0) (λ other. apart_insert e.0 es other once.0) (once_insert es once.1) refl
      where
        at : (b : Bool) → (eq k e.0 ≡ false → AllByRecursion (λ y. eq e.0 y ≡ false) (keys_of (insert_entry eq es k v))) → IsDistinct eq (keys_of (insert_entry eq es k v)) → eq k e.0 ≡ b → IsDistinct eq (keys_of (cond b ((e.0, v) ∷ es) (e ∷ insert_entry eq es k v)))
        at true apart rest is = once
        at false apart rest is = (apart is, rest)
