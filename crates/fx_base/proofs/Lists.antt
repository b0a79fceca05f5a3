-- Lists: what stands at a place, what holds of each element, and fronts. Std's pages List, List.Elements and Option have more: `take_more`, `drop-drop`, `take_rest`, `nil_from_length`, `slice_get-get_or`, `AllPass-from_list_all`, `Contains-push`.
use Rattle.std.proofs.Common.{◌≡◌, ℕ, zero, suc, ◌+◌, ◌<◌, ◌≤◌, Bool, true, List, [], ◌∷◌, ◌++◌, length, take, drop, get_or, Some, None, slice_get, refl, sym, ap, subst, ◌∙◌, arith}
use Rattle.std.specs.declared.cmp.Ordering.{Ordering}
use Rattle.std.specs.declared.cmp.Ordering.TheVariants.{Less}
use Rattle.std.specs.Prelude.{◌==◌}
use Rattle.std.specs.List.{All, AllByRecursion, Contains, list_all}
use Rattle.std.specs.List.Sorted.{IsStrictlySortedBy}
use Rattle.std.specs.Map.{keys_of}
use Rattle.std.proofs.lemmas.Bool.{eqb-true}
use Rattle.std.proofs.lemmas.List.{nil_from_length, take_more, drop_more}
use Rattle.std.proofs.lemmas.List.Elements.{All-nil, All-cons, All-get_or, All-head, All-contains_itself, Contains-append_right}
use Rattle.std.proofs.lemmas.Option.{none-some, slice_get_within, slice_get-get_or, get_or_from_slice_get}
use Rattle.std.proofs.Math.Seq.{split_at}
use Rattle.fx_base.proofs.Booleans.{first_true, second_true}

module _ {X : Type 0} where
  -- ---- what stands at a place

  pub some_at : (xs : List X) (i : ℕ) → i < length xs → (x : X) × (slice_get xs i ≡ Some x)
  some_at [] i lt = absurd (omega arith)
  some_at (x ∷ xs) zero lt = (x, refl)
  some_at (x ∷ xs) (suc i) lt = some_at xs i (omega arith)

  -- an element that was read
  pub at_index : (xs : List X) (i : ℕ) (x : X) → i < length xs → x ≡ get_or xs i x → slice_get xs i ≡ Some x
  at_index xs i x within is = slice_get-get_or xs i x within ∙ ap (λ y. Some y) (sym is)

  pub none_past : (xs : List X) (i : ℕ) → slice_get xs i ≡ None → length xs ≤ i
  none_past [] i is = omega arith
  none_past (x ∷ xs) zero is = cc
  none_past (x ∷ xs) (suc i) is = omega (arith, none_past xs i is)

  pub not_past : (xs : List X) (i : ℕ) → i < length xs → slice_get xs i ≡ None → ⊥
  not_past xs i within none = omega (arith, within, none_past xs i none)

  pub at_middle : (xs ys : List X) (x : X) → slice_get (xs ++ x ∷ ys) (length xs) ≡ Some x
  at_middle [] ys x = refl
  at_middle (z ∷ xs) ys x = at_middle xs ys x

  pub get_front : (xs ys : List X) (i : ℕ) (x : X) → slice_get xs i ≡ Some x → slice_get (xs ++ ys) i ≡ Some x
  get_front [] ys i x e = absurd (none-some x e)
  get_front (z ∷ zs) ys zero x e = e
  get_front (z ∷ zs) ys (suc i) x e = get_front zs ys i x e

  pub get_before : (xs ys : List X) (i : ℕ) (x : X) → i < length xs → slice_get (xs ++ ys) i ≡ Some x → slice_get xs i ≡ Some x
  get_before [] ys i x h e = absurd (omega (arith, h))
  get_before (z ∷ zs) ys zero x h e = e
  get_before (z ∷ zs) ys (suc i) x h e = get_before zs ys i x (omega (arith, h)) e

  -- ---- one element more or fewer

  pub take_next : (xs : List X) (i : ℕ) (x : X) → slice_get xs i ≡ Some x → take (i + 1) xs ≡ take i xs ++ x ∷ []
  take_next xs i x e = take_more xs i x (slice_get_within xs i x e) ∙ ap (λ y. take i xs ++ y ∷ []) (get_or_from_slice_get xs i x x e)

  pub take_suc : (xs : List X) (i : ℕ) (x : X) → slice_get xs i ≡ Some x → take (suc i) xs ≡ take i xs ++ x ∷ []
  take_suc xs i x e = let next : suc i ≡ i + 1 = omega arith in ap (λ n. take n xs) next ∙ take_next xs i x e

  pub drop_next : (xs : List X) (i : ℕ) (x : X) → slice_get xs i ≡ Some x → drop i xs ≡ x ∷ drop (i + 1) xs
  drop_next xs i x e = drop_more xs i x (slice_get_within xs i x e) ∙ ap (λ y. y ∷ drop (i + 1) xs) (get_or_from_slice_get xs i x x e)

  pub parts_at : (xs : List X) (i : ℕ) (d : X) → i < length xs → xs ≡ take i xs ++ get_or xs i d ∷ drop (i + 1) xs
  parts_at xs i d lt = let next : suc i ≡ i + 1 = omega arith in split_at xs i d lt ∙ ap (λ n. take i xs ++ get_or xs i d ∷ drop n xs) next

  -- ---- heads and empty lists

  pub same_heads : (x y : X) (xs ys : List X) → x ∷ xs ≡ y ∷ ys → x ≡ y
  same_heads x y xs ys e = cc

  pub not_empty : (x : X) (xs : List X) → x ∷ xs ≡ [] → ⊥
  not_empty x xs e = cc

  pub no_length : (xs : List X) → (length xs == 0) ≡ true → xs ≡ []
  no_length xs e = nil_from_length xs (eqb-true (length xs) 0 e)

  -- ---- what holds of each element

  pub All-at : (P : X → Type 0) (xs : List X) (i : ℕ) (x : X) → All P xs → slice_get xs i ≡ Some x → P x
  All-at P xs i x all e = subst P (get_or_from_slice_get xs i x x e) (All-get_or P xs i x (slice_get_within xs i x e) all)

  pub all_pass : (p : X → Bool) (xs : List X) → list_all p xs ≡ true → All (λ x. p x ≡ true) xs
  all_pass p [] e = All-nil (λ x. p x ≡ true)
  all_pass p (x ∷ xs) e = All-cons (λ x. p x ≡ true) x xs (first_true (p x) (list_all p xs) e) (all_pass p xs (second_true (p x) (list_all p xs) e))

  -- where each element passes, so does the one that was read
  pub passes_at : (p : X → Bool) (xs : List X) (i : ℕ) (x : X) → list_all p xs ≡ true → (i < length xs) × (x ≡ get_or xs i x) → p x ≡ true
  passes_at p xs i x all at = All-at (λ x. p x ≡ true) xs i x (all_pass p xs all) (at_index xs i x at.0 at.1)

  pub all_front : (P : X → Type 0) (xs ys : List X) → AllByRecursion P (xs ++ ys) → AllByRecursion P xs
  all_front P [] ys all = tt
  all_front P (x ∷ xs) ys all = (all.0, all_front P xs ys all.1)

  pub all_end : (P : X → Type 0) (xs ys : List X) → AllByRecursion P (xs ++ ys) → AllByRecursion P ys
  all_end P [] ys all = all
  all_end P (x ∷ xs) ys all = all_end P xs ys all.1

  pub all_both : (P : X → Type 0) (xs ys : List X) → AllByRecursion P xs → AllByRecursion P ys → AllByRecursion P (xs ++ ys)
  all_both P [] ys all more = more
  all_both P (x ∷ xs) ys all more = (all.0, all_both P xs ys all.1 more)

  pub all_push : (P : X → Type 0) (xs : List X) (x : X) → AllByRecursion P xs → P x → AllByRecursion P (xs ++ x ∷ [])
  all_push P xs x all p = all_both P xs (x ∷ []) all (p, tt)

  pub all_last : (P : X → Type 0) (xs : List X) (x : X) → AllByRecursion P (xs ++ x ∷ []) → P x
  all_last P xs x all = (all_end P xs (x ∷ []) all).0

  -- the front of an ascending list ascends
  pub ascending_front : (R : X → X → Ordering) (xs ys : List X) → IsStrictlySortedBy R (xs ++ ys) → IsStrictlySortedBy R xs
  unfolding IsStrictlySortedBy
  ascending_front R [] ys up = tt
  ascending_front R (x ∷ xs) ys up = (all_front (λ y. R x y ≡ Less) xs ys up.0, ascending_front R xs ys up.1)

  -- ---- elements

  pub Contains-at : (xs : List X) (i : ℕ) (x : X) → slice_get xs i ≡ Some x → Contains xs x
  Contains-at xs i x e = (i, slice_get_within xs i x e, get_or_from_slice_get xs i x x e)

  pub Contains-first : (x : X) (xs : List X) → Contains (x ∷ xs) x
  Contains-first x xs = All-head (Contains (x ∷ xs)) x xs (All-contains_itself (x ∷ xs))

  pub Contains-later : (y : X) (xs : List X) (x : X) → Contains xs x → Contains (y ∷ xs) x
  Contains-later y xs x h = Contains-append_right (y ∷ []) xs x h

  pub only_one : (x y : X) → Contains (x ∷ []) y → x ≡ y
  only_one x y (zero, h, same) = same
  only_one x y (suc i, h, same) = absurd (omega (arith, h))

-- ---- lists of pairs

pub length_keys : {A B : Type 0} (es : List (A × B)) → length (keys_of es) ≡ length es
length_keys [] = refl
length_keys (e ∷ es) = ap suc (length_keys es)
