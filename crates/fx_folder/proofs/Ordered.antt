-- Lists in the order of paths: what is not found in them, their ends, and the last name of a path.
use Rattle.fx_folder.proofs.Prelude.{◌≡◌, ℕ, cond, T, List, [], ◌∷◌, ◌++◌, None, Some, Option, refl, ◌∙◌, ap, option_or, is_eq, is_lt, find, is_sorted, below_all, Parts, first, second, is_less, path_cmp}

-- nothing is found at a path that comes before all of a list
pub none_behind : {X : Type 0} (k : Parts) (es : List (Parts × X)) → T (below_all path_cmp k es) → find path_cmp k es ≡ None
none_behind k [] h = refl
none_behind k (e ∷ es) h = ap (λ o. cond (is_eq o) (Some e.1) (find path_cmp k es)) (is_less _ (first (is_lt (path_cmp k e.0)) _ h)) ∙ none_behind k es (second (is_lt (path_cmp k e.0)) _ h)

pub sorted_end : {X : Type 0} (es fs : List (Parts × X)) → T (is_sorted path_cmp (es ++ fs)) → T (is_sorted path_cmp fs)
sorted_end [] fs h = h
sorted_end (e ∷ es) fs h = sorted_end es fs (second (below_all path_cmp e.0 (es ++ fs)) _ h)

pub or_none : {A : Type 0} (o : Option A) → option_or o None ≡ o
or_none None = refl
or_none (Some x) = refl

pub last_of : (x : List ℕ) (xs : Parts) → (front : Parts) × (last : List ℕ) × (x ∷ xs ≡ front ++ last ∷ [])
last_of x [] = ([], x, refl)
last_of x (y ∷ ys) = let l = last_of y ys in (x ∷ l.0, l.1, ap (λ r. x ∷ r) l.2)
