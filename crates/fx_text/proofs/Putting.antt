-- Texts that are put into a set, or taken out of it, one by one.
use Rattle.std.proofs.Common.{◌≡◌, ℕ, Bool, true, false, cond, not, ◌||◌, List, [], ◌∷◌, ◌++◌, nat_eq, refl, ap, sym, ◌∙◌}
use Rattle.std.specs.Cmp.Lexicographic.{pointwise}
use Rattle.std.specs.List.{filter}
use Rattle.fx_base.specs.Sets.{without_name}
use Rattle.fx_text.specs.Sets.{IsAscending, has_text, with_text, set_of, without}
use Rattle.fx_text.proofs.Canon.{ascending_set, has_set, has_with, same_sets}
use Rattle.fx_text.proofs.Merging.{has_append, moved, set_alike}

turned : (a b : Bool) → (a || b) ≡ (b || a)
turned true true = refl
turned true false = refl
turned false true = refl
turned false false = refl

pub set_turned : (xs ys : List (List ℕ)) → set_of (xs ++ ys) ≡ set_of (ys ++ xs)
set_turned xs ys = set_alike (xs ++ ys) (ys ++ xs) λ z.
    has_append z xs ys ∙ turned (has_text z xs) (has_text z ys) ∙ sym (has_append z ys xs)

-- the set of what ascends is that
pub set_again : (xs : List (List ℕ)) → IsAscending xs → set_of xs ≡ xs
set_again xs up = same_sets (set_of xs) xs (ascending_set xs) up (λ z. has_set z xs)

-- the first of the texts that are to come is put in
pub put_in : (x : List ℕ) (rest xs : List (List ℕ)) → set_of (rest ++ with_text x xs) ≡ set_of (x ∷ (rest ++ xs))
put_in x rest xs = set_alike (rest ++ with_text x xs) (x ∷ (rest ++ xs)) λ z.
    has_append z rest (with_text x xs)
    ∙ ap (λ b. has_text z rest || b) (has_with z x xs)
    ∙ moved (has_text z rest) (pointwise nat_eq x z) (has_text z xs)
    ∙ ap (λ b. pointwise nat_eq x z || b) (sym (has_append z rest xs))

-- without any text it is the same
pub without_none : (xs : List (List ℕ)) → without xs [] ≡ xs
without_none [] = refl
without_none (x ∷ xs) = ap (λ ys. x ∷ ys) (without_none xs)

-- the first of the texts that are to go is taken out
pub taken_out : (x : List ℕ) (rest xs : List (List ℕ)) → without (without_name x xs) rest ≡ without xs (x ∷ rest)
taken_out x rest [] = refl
taken_out x rest (y ∷ ys) =
    elim (pointwise nat_eq x y) as (λ b. filter (λ z. not (has_text z rest)) (cond (not b) (y ∷ without_name x ys) (without_name x ys)) ≡ cond (not (b || has_text y rest)) (y ∷ without ys (x ∷ rest)) (without ys (x ∷ rest))) [
      | true ↦ taken_out x rest ys
      | false ↦ ap (λ zs. cond (not (has_text y rest)) (y ∷ zs) zs) (taken_out x rest ys)
    ]
