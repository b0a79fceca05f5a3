-- What passing the names of one path at the front of another says of the two.
use Rattle.std.proofs.Common.{◌≡◌, ◌≢◌, ◌==◌, ◌&&◌, suc, ◌+◌, Bool, true, false, IsTrue, IsFalse, is_some, List, [], ◌∷◌, ◌++◌, length, take, drop, ℕ, refl, ap, sym, ◌∙◌, arith, length-append}
use Rattle.std.specs.Prelude.{bytes_eq}
use Rattle.std.specs.Cmp.Lexicographic.{pointwise, lists_ties, texts_ties}
use Rattle.std.specs.Ordering.{eq_by_cmp}
use Rattle.std.proofs.lemmas.Bool.{false≢true}
use Rattle.std.proofs.lemmas.Bool.Decides.{nat_tests}
use Rattle.std.proofs.lemmas.Cmp.{eq_by_cmp_equiv}
use Rattle.std.proofs.lemmas.List.{append_assoc, append-nil, append_cancel_left, take-append-drop}
use Rattle.std.proofs.Math.Seq.{take-append-add}
use Rattle.fx_base.proofs.Names.{name_itself}
use Rattle.fx_base.proofs.Results.{none_if_never}
use Rattle.fx_store.specs.Names.{name_cmp, path_cmp, rest_of}
use Rattle.fx_store.specs.Orders.{path_total, path_eq_same, name_eq_same}
use Rattle.fx_store.proofs.PathLists.{rest_append, rest_is}

path_itself : (p : List (List ℕ)) → eq_by_cmp path_cmp p p ≡ true
path_itself p = (eq_by_cmp_equiv path_total).refl p

-- all of one were passed at the front of the other: they are equal if nothing is left
pub passed_all : (a b rest : List (List ℕ)) → a ≡ b ++ rest → (length rest == 0) ≡ eq_by_cmp path_cmp a b
passed_all a b [] is = sym (ap (λ p. eq_by_cmp path_cmp p b) (is ∙ append-nil b) ∙ path_itself b)
passed_all a b (n ∷ rest) is =
    let some : (length (n ∷ rest) == 0) ≡ false = grind (arith, nat_tests) in
    some ∙ at (eq_by_cmp path_cmp a b) refl
  where
    at : (t : Bool) → eq_by_cmp path_cmp a b ≡ t → false ≡ t
    at false e = refl
    at true e = absurd (omega (arith, ap length (sym (path_eq_same a b e) ∙ is), length-append b (n ∷ rest)))

pub not_passed : (a b : List (List ℕ)) → ((rest : List (List ℕ)) → a ≢ b ++ rest) → false ≡ eq_by_cmp path_cmp a b
not_passed a b none = at (eq_by_cmp path_cmp a b) refl
  where
    at : (t : Bool) → eq_by_cmp path_cmp a b ≡ t → false ≡ t
    at false e = refl
    at true e = absurd (none [] (path_eq_same a b e ∙ sym (append-nil b)))

pub unlike : (a b : List (List ℕ)) → length a ≢ length b → false ≡ eq_by_cmp path_cmp a b
unlike a b differ = at (eq_by_cmp path_cmp a b) refl
  where
    at : (t : Bool) → eq_by_cmp path_cmp a b ≡ t → false ≡ t
    at false e = refl
    at true e = absurd (differ (ap length (path_eq_same a b e)))

-- a path begins with another exactly if all of that were passed
pub begins_with : (a b rest : List (List ℕ)) (yes : Bool) → (IsTrue yes → a ≡ b ++ rest) → (IsFalse yes → (r : List (List ℕ)) → a ≢ b ++ r) → yes ≡ is_some (rest_of b a)
begins_with a b rest true passed none = sym (ap is_some (ap (rest_of b) (passed refl) ∙ rest_append b rest))
begins_with a b rest false passed none = sym (ap is_some (none_if_never (rest_of b a) (λ r is. none refl r (rest_is b a r is))))

-- a way's first names, where some of them and a next one are known
along : (names way rest : List (List ℕ)) (next : List ℕ) → way ≡ names ++ next ∷ rest → take (suc (length names)) way ≡ names ++ next ∷ []
along names way rest next is =
    let more : suc (length names) ≡ length names + 1 = omega arith in
    ap (λ n. take n way) more ∙ (ap (take (length names + 1)) is ∙ take-append-add names (next ∷ rest) 1)

pub goes_on : (names way rest : List (List ℕ)) (next name : List ℕ) (same : Bool) → way ≡ names ++ next ∷ rest → same ≡ bytes_eq next name
    → (IsTrue same → take (suc (length names)) way ≡ names ++ name ∷ []) × (take (suc (length names)) way ≡ names ++ name ∷ [] → IsTrue same)
goes_on names way rest next name same is tells = (
  (λ yes. along names way rest next is ∙ ap (λ n. names ++ n ∷ []) (name_eq_same next name (sym tells ∙ yes))),
  (λ so. let one : next ∷ [] ≡ name ∷ [] = append_cancel_left names (next ∷ []) (name ∷ []) (sym (along names way rest next is) ∙ so) in
      let alike : next ≡ name = cc in
      tells ∙ (ap (bytes_eq next) (sym alike) ∙ (texts_ties next next ∙ name_itself next))),
)

pub goes_off : (names way : List (List ℕ)) (name : List ℕ) → ((rest : List (List ℕ)) → way ≢ names ++ rest)
    → (IsTrue false → take (suc (length names)) way ≡ names ++ name ∷ []) × (take (suc (length names)) way ≡ names ++ name ∷ [] → IsTrue false)
goes_off names way name none = (
  (λ never. absurd (false≢true never)),
  (λ so. absurd (none (name ∷ drop (suc (length names)) way)
      (sym (take-append-drop (suc (length names)) way) ∙ (ap (λ p. p ++ drop (suc (length names)) way) so ∙ append_assoc names (name ∷ []) (drop (suc (length names)) way))))),
)

-- two paths in parts of the same lengths are equal if each part is
parts_same : (a b c d : List (List ℕ)) → length a ≡ length b → (pointwise bytes_eq a b && pointwise bytes_eq c d) ≡ pointwise bytes_eq (a ++ c) (b ++ d)
parts_same [] [] c d e = refl
parts_same [] (m ∷ b) c d e = absurd (omega (arith, e))
parts_same (n ∷ a) [] c d e = absurd (omega (arith, e))
parts_same (n ∷ a) (m ∷ b) c d e = at (bytes_eq n m) (parts_same a b c d (omega (arith, e)))
  where
    at : (t : Bool) → (pointwise bytes_eq a b && pointwise bytes_eq c d) ≡ pointwise bytes_eq (a ++ c) (b ++ d)
        → ((t && pointwise bytes_eq a b) && pointwise bytes_eq c d) ≡ (t && pointwise bytes_eq (a ++ c) (b ++ d))
    at true rest = rest
    at false rest = refl

pub same_by_parts : (a b c d : List (List ℕ)) → length a ≡ length b → (pointwise bytes_eq a b && pointwise bytes_eq c d) ≡ eq_by_cmp path_cmp (a ++ c) (b ++ d)
same_by_parts a b c d e = parts_same a b c d e ∙ lists_ties name_cmp texts_ties (a ++ c) (b ++ d)
