-- Names and places as texts.
use Rattle.fx_table.proofs.Prelude.{◌≡◌, ℕ, ◌-◌, List, [], ◌∷◌, ◌++◌, length, Some, sym, ◌∙◌, ap, arith, append_assoc, append-nil, length-append, at_middle, second_true, same_Some, slice_get, Parts, IsName, is_name}
use Rattle.std.specs.Str.{IsUtf8, is_utf8}
use Rattle.std.proofs.lemmas.Str.{IsUtf8-from_is_utf8}
use Rattle.fx_table.specs.Places.{place_of, StandsIn}

pub name_is_text : (name : List ℕ) → IsName name → IsUtf8 name
unfolding is_name
name_is_text name is = IsUtf8-from_is_utf8 name (second_true _ (is_utf8 name) is)

-- the last name of an entry's path
pub last_is : (parent path : Parts) (name : List ℕ) → StandsIn parent path → Some name ≡ slice_get path (length path - 1) → path ≡ parent ++ name ∷ []
last_is parent path name at last =
    let end : length path - 1 ≡ length parent = omega (arith, ap length at.1, length-append parent (at.0 ∷ [])) in
    let same : name ≡ at.0 = same_Some name at.0 (last ∙ (λ i. slice_get (at.1 i) (end i)) ∙ at_middle parent [] at.0) in
    at.1 ∙ ap (λ n. parent ++ n ∷ []) (sym same)

place_pushed : (p : Parts) (n : List ℕ) → place_of (p ++ n ∷ []) ≡ place_of p ++ 47 ∷ n
place_pushed [] n = ap (λ l. 47 ∷ l) (append-nil n)
place_pushed (m ∷ p) n = ap (λ l. 47 ∷ m ++ l) (place_pushed p n) ∙ ap (λ l. 47 ∷ l) (sym (append_assoc m (place_of p) (47 ∷ n)))

-- the name of an entry behind the text of its folder
pub place_behind : (p : Parts) (front n : List ℕ) → 47 ∷ front ≡ place_of p ++ 47 ∷ [] → 47 ∷ front ++ n ≡ place_of (p ++ n ∷ [])
place_behind p front n is = ap (λ l. l ++ n) is ∙ append_assoc (place_of p) (47 ∷ []) n ∙ sym (place_pushed p n)

-- the text of a directory that stands in this one
pub front_behind : (parent path : Parts) (front name : List ℕ) → 47 ∷ front ≡ place_of parent ++ 47 ∷ [] → path ≡ parent ++ name ∷ [] → 47 ∷ (front ++ name) ++ 47 ∷ [] ≡ place_of path ++ 47 ∷ []
front_behind parent path front name spelled is = ap (λ l. l ++ 47 ∷ []) (place_behind parent front name spelled ∙ ap place_of (sym is))

-- the host path of an entry
pub place_in : (folder front name : List ℕ) (parent path : Parts) → 47 ∷ front ≡ place_of parent ++ 47 ∷ [] → path ≡ parent ++ name ∷ [] → ((folder ++ 47 ∷ []) ++ front) ++ name ≡ folder ++ place_of path
place_in folder front name parent path spelled is =
    ap (λ l. l ++ name) (append_assoc folder (47 ∷ []) front) ∙ append_assoc folder (47 ∷ front) name
    ∙ ap (λ l. folder ++ l) (place_behind parent front name spelled ∙ ap place_of (sym is))
