-- One more piece, joined by a text between two, and the names of a path.
use Rattle.std.proofs.Common.{◌≡◌, ℕ, ◌+◌, List, [], ◌∷◌, ◌++◌, Some, length, take, refl, ap, ◌∙◌, arith, append_assoc, append-nil, cond, eqb, false}
use Rattle.std.specs.List.{slice_get, flat_map, join_by}
use Rattle.std.proofs.lemmas.Option.{slice_get_within}
use Rattle.std.proofs.lemmas.List.{length-take-le}
use Rattle.std.proofs.lemmas.Grind.{flat_map-append}
use Rattle.fx_base.proofs.Lists.{take_next}
use Rattle.fx_store.specs.Names.{path_text}

join_by_push : {X A : Type 0} (f : X → List A) (sep : List A) (xs : List X) (x : X) → join_by f sep (xs ++ x ∷ []) ≡ join_by f sep xs ++ (cond (eqb (length xs) 0) [] sep ++ f x)
join_by_push f sep [] x = append-nil (f x)
join_by_push f sep (y ∷ ys) x =
    let more = flat_map-append (λ z. sep ++ f z) ys (x ∷ []) in
    let some : eqb (length (y ∷ ys)) 0 ≡ false = grind arith in
    rw some (simp (append_assoc, append-nil, more))

-- joined pieces of a front, and of its next element
pub join_by_next : {X A : Type 0} (f : X → List A) (sep : List A) (xs : List X) (i : ℕ) (x : X) → slice_get xs i ≡ Some x → join_by f sep (take (i + 1) xs) ≡ join_by f sep (take i xs) ++ (cond (eqb i 0) [] sep ++ f x)
join_by_next f sep xs i x e =
    let inside = slice_get_within xs i x e in
    let len : length (take i xs) ≡ i = length-take-le i xs (omega arith) in
    ap (join_by f sep) (take_next xs i x e) ∙ (join_by_push f sep (take i xs) x ∙ ap (λ n. join_by f sep (take i xs) ++ (cond (eqb n 0) [] sep ++ f x)) len)

-- a path with a name in it
pub path_text_of_names : (path : List (List ℕ)) → (length path ≡ 0 → ⊥) → path_text path ≡ flat_map (λ name. 47 ∷ name) path
path_text_of_names [] some = absurd (some refl)
path_text_of_names (name ∷ rest) some = refl
