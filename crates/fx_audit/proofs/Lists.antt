-- Lists, item by item.
use Rattle.std.proofs.Common.{◌≡◌, ℕ, zero, suc, ◌<◌, ◌≤◌, List, [], ◌∷◌, ◌++◌, length, take, drop, get_or, slice_get, Some, refl, sym, ap, subst, ◌∙◌, arith, length-append}
use Rattle.std.specs.List.{Contains}
use Rattle.std.proofs.lemmas.Option.{same_Some, none-some, slice_get_within, slice_get-get_or}
use Rattle.fx_base.proofs.Lists.{at_middle}

-- an item of a slice that holds the list
pub item_at : {X : Type 0} (held xs : List X) (i : ℕ) (x : X) → held ≡ xs → i < length held → x ≡ get_or held i x → slice_get xs i ≡ Some x
item_at held xs i x same lt is = subst (λ l. slice_get l i ≡ Some x) same (slice_get-get_or held i x lt ∙ ap (λ y. Some y) (sym is))

pub length_front : {X : Type 0} (xs : List X) (i : ℕ) (x : X) → slice_get xs i ≡ Some x → length (take i xs) ≡ i
length_front [] i x e = absurd (none-some x e)
length_front (y ∷ xs) zero x e = refl
length_front (y ∷ xs) (suc i) x e = ap suc (length_front xs i x e)

-- an item of a list with one more is one of the list, or the one more
pub record IsLast {X : Type 0} (xs : List X) (y : X) (i : ℕ) (x : X) : Type 0 where
  pub place : i ≡ length xs
  pub item : y ≡ x

pub last_is : {X : Type 0} (xs : List X) (y : X) (i : ℕ) (x : X) → length xs ≤ i → slice_get (xs ++ y ∷ []) i ≡ Some x → IsLast xs y i x
last_is xs y i x h e =
    let within : i < length (xs ++ y ∷ []) = slice_get_within (xs ++ y ∷ []) i x e in
    let same : i ≡ length xs = omega (arith, h, within, length-append xs (y ∷ [])) in
    record { place = same; item = same_Some y x (sym (at_middle xs [] y) ∙ (ap (λ k. slice_get (xs ++ y ∷ []) k) (sym same) ∙ e)) }

pub place_of : {X : Type 0} (xs : List X) (x : X) (h : Contains xs x) → slice_get xs h.0 ≡ Some x
place_of xs x h = slice_get-get_or xs h.0 x h.1 ∙ ap (λ y. Some y) h.2

pub split : {X : Type 0} (xs : List X) (i : ℕ) → xs ≡ take i xs ++ drop i xs
split [] zero = refl
split [] (suc i) = refl
split (x ∷ xs) zero = refl
split (x ∷ xs) (suc i) = ap (λ l. x ∷ l) (split xs i)
