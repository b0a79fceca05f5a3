-- What stands below a directory stands behind it, one after another.
use Rattle.fx_table.proofs.Prelude.{◌≡◌, ℕ, zero, suc, ◌+◌, ◌<◌, true, List, [], ◌∷◌, ◌++◌, length, get_or, Some, None, is_some, refl, ◌∙◌, ap, arith, length-append, slice_get, keys_of, Parts, name_in, name_in_folder, name_in_pushed, Change, none_if_never, not_some, some_of, rest_append, rest_is, rest_of, mapped_of}

-- ---- a path that is not below a directory

pub none_named : (p r : Parts) → rest_of p r ≡ None → name_in p r ≡ None
none_named p r none = none_if_never (name_in p r) (λ n is. not_some (rest_of p r) (n ∷ []) none (ap (rest_of p) (name_in_folder p r n is) ∙ rest_append p (n ∷ [])))

-- ---- a path below a directory

last_of : (p r : Parts) (n : List ℕ) → length r ≡ 1 → Some n ≡ slice_get (p ++ r) (length p) → r ≡ n ∷ []
last_of [] [] n one is = absurd (omega arith)
last_of [] (m ∷ []) n one is = let same : m ≡ n = cc in ap (λ x. x ∷ []) same
last_of [] (m ∷ k ∷ r) n one is = absurd (omega arith)
last_of (a ∷ p) r n one is = last_of p r n one is

pub named_child : (p q : Parts) (n : List ℕ) → is_some (rest_of p q) ≡ true → length q ≡ length p + 1 → Some n ≡ slice_get q (length p) → name_in p q ≡ Some n
named_child p q n some long is =
    let r = some_of (rest_of p q) some in
    let at : q ≡ p ++ r.0 = rest_is p q r.0 r.1 in
    let one : length r.0 ≡ 1 = omega (arith, ap length at, length-append p r.0, long) in
    let last : r.0 ≡ n ∷ [] = last_of p r.0 n one (is ∙ ap (λ x. slice_get x (length p)) at) in
    ap (name_in p) (at ∙ ap (λ x. p ++ x) last) ∙ name_in_pushed p n

-- ---- one path after another

pub key_at : (found : List Change) (j : ℕ) (d : Change) → j < length found → slice_get (keys_of (mapped_of found)) j ≡ Some (get_or found j d).path
key_at [] j d lt = absurd (omega arith)
key_at (c ∷ found) zero d lt = refl
key_at (c ∷ found) (suc j) d lt = key_at found j d (omega arith)
