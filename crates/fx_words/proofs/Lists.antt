-- A list from a place on, and shells that texts name.
use Rattle.std.proofs.Common.{◌≡◌, ℕ, zero, suc, ◌+◌, true, false, cond, ◌&&◌, List, [], ◌∷◌, ◌++◌, drop, map, Option, Some, None, refl, sym, ap, ◌∙◌, arith}
use Rattle.std.specs.Prelude.{is_some, codes}
use Rattle.std.specs.List.{slice_get, list_all, slice_split}
use Rattle.std.specs.Option.{option_map, option_and_then}
use Rattle.std.specs.Str.{bytes_eq}
use Rattle.std.proofs.lemmas.List.{map-append}
use Rattle.fx_words.specs.Job.{decimal_number, shells_named, schedule_of, is_comma}

pub drop_there : {X : Type 0} (xs : List X) (i : ℕ) (x : X) → Some x ≡ slice_get xs i → drop i xs ≡ x ∷ drop (i + 1) xs
drop_there [] i x e = cc
drop_there (y ∷ ys) zero x e = let same : x ≡ y = cc in ap (λ z. z ∷ ys) (sym same)
drop_there (y ∷ ys) (suc i) x e =
    let rest = drop_there ys i x e in
    let next : suc i + 1 ≡ suc (i + 1) = omega arith in
    rest ∙ ap (λ n. x ∷ drop n (y ∷ ys)) (sym next)

-- the parts name shells exactly where each does
pub all_named : (count : ℕ) (texts : List (List ℕ)) → list_all (λ part. is_some (decimal_number count part)) texts ≡ is_some (shells_named count texts)
all_named count [] = refl
all_named count (text ∷ texts) = at (decimal_number count text) (all_named count texts)
  where
    at : (o : Option ℕ) → list_all (λ part. is_some (decimal_number count part)) texts ≡ is_some (shells_named count texts) → is_some o && list_all (λ part. is_some (decimal_number count part)) texts ≡ is_some (option_and_then (λ k. option_map (λ ks. k ∷ ks) (shells_named count texts)) o)
    at None rest = refl
    at (Some k) rest = rest ∙ mapped k (shells_named count texts)
      where
        mapped : (k : ℕ) (o : Option (List ℕ)) → is_some o ≡ is_some (option_map (λ ks. k ∷ ks) o)
        mapped k None = refl
        mapped k (Some ks) = refl

-- one more shell at the end
pub named_push : (count : ℕ) (texts : List (List ℕ)) (ks : List ℕ) (text : List ℕ) (k : ℕ) → shells_named count texts ≡ Some ks → decimal_number count text ≡ Some k → shells_named count (texts ++ text ∷ []) ≡ Some (ks ++ k ∷ [])
named_push count [] ks text k e f =
    let none : [] ≡ ks = cc in
    ap (λ o. option_and_then (λ k. option_map (λ ks. k ∷ ks) (Some [])) o) f ∙ ap (λ rest. Some (rest ++ k ∷ [])) none
named_push count (t ∷ texts) ks text k e f = at (decimal_number count t) (shells_named count texts) e (λ rest g. named_push count texts rest text k g f)
  where
    at : (o : Option ℕ) (r : Option (List ℕ)) → option_and_then (λ k. option_map (λ ks. k ∷ ks) r) o ≡ Some ks → ((rest : List ℕ) → r ≡ Some rest → shells_named count (texts ++ text ∷ []) ≡ Some (rest ++ k ∷ [])) → option_and_then (λ k. option_map (λ ks. k ∷ ks) (shells_named count (texts ++ text ∷ []))) o ≡ Some (ks ++ k ∷ [])
    at None r e on = cc
    at (Some j) None e on = cc
    at (Some j) (Some rest) e on =
        let same : j ∷ rest ≡ ks = cc in
        ap (option_map (λ ks. j ∷ ks)) (on rest refl) ∙ ap (λ xs. Some (xs ++ k ∷ [])) same

pub not_none : {X : Type 0} (o : Option X) → is_some o ≡ true → None ≡ o → ⊥
not_none None e h = cc
not_none (Some x) e h = cc

-- one more part that was read
pub named_more : {X : Type 0} (f : X → List ℕ) (count : ℕ) (xs : List X) (x : X) (ks : List ℕ) (k : ℕ) → shells_named count (map f xs) ≡ Some ks → Some k ≡ decimal_number count (f x) → shells_named count (map f (xs ++ x ∷ [])) ≡ Some (ks ++ k ∷ [])
named_more f count xs x ks k e h = rw (map-append f xs (x ∷ [])) (named_push count (map f xs) ks (f x) k e (sym h))

-- a schedule that is no `none` is of shells
pub are_shells : (count : ℕ) (text : List ℕ) → is_some (schedule_of count text) ≡ true → bytes_eq text (codes "none") ≡ false → list_all (λ part. is_some (decimal_number count part)) (slice_split is_comma text) ≡ true
are_shells count text e isnt =
    all_named count (slice_split is_comma text) ∙ ap (λ b. is_some (cond b (Some []) (shells_named count (slice_split is_comma text)))) (sym isnt) ∙ e

pub schedule_is : (count : ℕ) (text ks : List ℕ) → bytes_eq text (codes "none") ≡ false → shells_named count (slice_split is_comma text) ≡ Some ks → schedule_of count text ≡ Some ks
schedule_is count text ks isnt e = ap (λ b. cond b (Some []) (shells_named count (slice_split is_comma text))) isnt ∙ e
