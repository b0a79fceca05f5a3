-- Places behind a folder's: their order, and what is left of them.
use Rattle.fx_table.proofs.Prelude.{◌≡◌, inl, inr, ℕ, false, List, [], ◌∷◌, ◌++◌, length, Some, None, sym, ◌∙◌, ap, arith, append-nil, length-append, eq_by_cmp, cases_Bool, path_is, rest_append, Parts, parts_cmp, rest_of}

-- a place that is not behind the folder is none in it
pub no_rest : (at q path : Parts) → rest_of at q ≡ None → eq_by_cmp parts_cmp q (at ++ path) ≡ false
no_rest at q path none = elim (cases_Bool (eq_by_cmp parts_cmp q (at ++ path))) [
  | inl same ↦
      let some : rest_of at q ≡ Some path = ap (rest_of at) (path_is q (at ++ path) same) ∙ rest_append at path in
      cc
  | inr apart ↦ apart
]

pub longer : (at : Parts) (a : List ℕ) (r : Parts) → eq_by_cmp parts_cmp (at ++ a ∷ r) at ≡ false
longer at a r = elim (cases_Bool (eq_by_cmp parts_cmp (at ++ a ∷ r) at)) [
  | inl same ↦ absurd (omega (arith, length-append at (a ∷ r), ap length (path_is (at ++ a ∷ r) at same)))
  | inr apart ↦ apart
]

pub not_at : (at q : Parts) → rest_of at q ≡ None → eq_by_cmp parts_cmp q at ≡ false
not_at at q none = elim (cases_Bool (eq_by_cmp parts_cmp q at)) [
  | inl same ↦
      let some : rest_of at q ≡ Some [] = ap (rest_of at) (path_is q at same ∙ sym (append-nil at)) ∙ rest_append at [] in
      cc
  | inr apart ↦ apart
]
