-- Lists with the last first.
use Rattle.fx_steps.proofs.Prelude.{◌≡◌, ℕ, ◌+◌, ◌-◌, ◌<◌, ◌≤◌, List, [], ◌∷◌, ◌++◌, length, take, drop, true, false, Option, Some, None, refl, sym, ap, ◌∙◌, append_assoc, arith, length-append, length-drop, slice_get, IsSome}
use Rattle.fx_steps.proofs.Prelude.{MatchOption, Bindings, Frame, last_set, last_caller, option_to_list, take-append-drop, turned_onto, turned}
use Rattle.std.proofs.lemmas.List.{drop_at}
use Rattle.fx_base.proofs.Lists.{drop_next}

module _ {A B : Type 0} (f : A → B) where
  onto-append : (others : List B) (xs ys : List A) → turned_onto f others (xs ++ ys) ≡ turned_onto f (turned_onto f others xs) ys
  onto-append others [] ys = refl
  onto-append others (x ∷ xs) ys = onto-append (f x ∷ others) xs ys

  pub turned-last : (xs : List A) (x : A) → turned f (xs ++ x ∷ []) ≡ f x ∷ turned f xs
  turned-last xs x = onto-append [] xs (x ∷ [])

  onto-front : (others : List B) (xs : List A) → turned_onto f others xs ≡ turned f xs ++ others
  onto-front others [] = refl
  onto-front others (x ∷ xs) =
      onto-front (f x ∷ others) xs ∙ sym (append_assoc (turned f xs) (f x ∷ []) others) ∙ ap (λ ys. ys ++ others) (sym (onto-front (f x ∷ []) xs))

  pub turned_both : (xs ys : List A) → turned f (xs ++ ys) ≡ turned f ys ++ turned f xs
  turned_both xs ys = onto-append [] xs ys ∙ onto-front (turned f xs) ys

  pub length-turned : (xs : List A) → length (turned f xs) ≡ length xs
  length-turned [] = refl
  length-turned (x ∷ xs) =
      let long = length-append (turned f xs) (f x ∷ []) in
      let same = ap length (onto-front (f x ∷ []) xs) in
      omega (arith, long, same, length-turned xs)

  -- the one at a place, between those after it and those before it
  pub turned_at : (xs : List A) (n : ℕ) (x : A) → slice_get xs n ≡ Some x → turned f xs ≡ (turned f (drop (n + 1) xs) ++ f x ∷ []) ++ turned f (take n xs)
  turned_at xs n x is =
      ap (turned f) (sym (take-append-drop n xs))
      ∙ onto-append [] (take n xs) (drop n xs)
      ∙ ap (turned_onto f (turned f (take n xs))) (drop_next xs n x is)
      ∙ onto-front (f x ∷ turned f (take n xs)) (drop (n + 1) xs)
      ∙ sym (append_assoc (turned f (drop (n + 1) xs)) (f x ∷ []) (turned f (take n xs)))

-- the first ones are the last of those turned
module _ {A B : Type 0} (f : A → B) where
  pub turned_take : (xs : List A) (n : ℕ) → n ≤ length xs → turned f (take n xs) ≡ drop (length xs - n) (turned f xs)
  turned_take xs n few =
      let whole : turned f xs ≡ turned f (drop n xs) ++ turned f (take n xs) = ap (turned f) (sym (take-append-drop n xs)) ∙ turned_both f (take n xs) (drop n xs) in
      let left = length-drop n xs in
      let long = length-turned f (drop n xs) in
      sym (ap (drop (length xs - n)) whole ∙ drop_at (turned f (drop n xs)) (turned f (take n xs)) (length xs - n) (omega (arith, left, long)))

-- two lists with ends of one length
pub same_ends : {A : Type 0} (a b k l : List A) → a ++ k ≡ b ++ l → length k ≡ length l → (a ≡ b) × (k ≡ l)
same_ends [] [] k l e same = (refl, e)
same_ends [] (y ∷ b) k l e same = let long = length-append b l in let all = ap length e in absurd (omega (arith, long, all, same))
same_ends (x ∷ a) [] k l e same = let long = length-append a k in let all = ap length e in absurd (omega (arith, long, all, same))
same_ends (x ∷ a) (y ∷ b) k l e same =
    let heads : x ≡ y = cc in
    let tails : a ++ k ≡ b ++ l = cc in
    let rest = same_ends a b k l tails same in
    (ap (λ z. z ∷ a) heads ∙ ap (λ zs. y ∷ zs) rest.0, rest.1)

-- one of them taken off
pub popped : {A B : Type 0} (f : A → B) (old new : List A) (r : Option A) → old ≡ new ++ option_to_list r → (0 < length old → IsSome r) → turned f new ≡ drop 1 (turned f old)
popped f old new (Some x) items some = sym (ap (λ xs. drop 1 (turned f xs)) items ∙ ap (drop 1) (turned-last f new x))
popped f [] [] None items some = refl
popped f [] (y ∷ new) None items some = absurd (cc)
popped f (x ∷ old) new None items some = let more : false ≡ true = some (omega arith) in absurd (cc)

-- the set and the caller's names in the one that was taken off
pub popped_set : (old new : List Frame) (r : Option Frame) → old ≡ new ++ option_to_list r → (0 < length old → IsSome r) → (set : Option (List (List ℕ))) → MatchOption r (set ≡ None) (λ f. set ≡ f.set) → set ≡ last_set (turned (λ f. f) old)
popped_set old new (Some x) items some set h = h ∙ sym (ap (λ xs. last_set (turned (λ f. f) xs)) items ∙ ap last_set (turned-last (λ f. f) new x))
popped_set [] new None items some set h = h
popped_set (x ∷ old) new None items some set h = let more : false ≡ true = some (omega arith) in absurd (cc)

pub popped_caller : (old new : List Frame) (r : Option Frame) → old ≡ new ++ option_to_list r → (0 < length old → IsSome r) → (caller : Option Bindings) → MatchOption r (caller ≡ None) (λ f. caller ≡ f.caller) → caller ≡ last_caller (turned (λ f. f) old)
popped_caller old new (Some x) items some caller h = h ∙ sym (ap (λ xs. last_caller (turned (λ f. f) xs)) items ∙ ap last_caller (turned-last (λ f. f) new x))
popped_caller [] new None items some caller h = h
popped_caller (x ∷ old) new None items some caller h = let more : false ≡ true = some (omega arith) in absurd (cc)
