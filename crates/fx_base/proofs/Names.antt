-- Names and lists of names in order: a name is compared by its bytes, and a list name by name.
use Rattle.std.proofs.Common.{◌≡◌, ◌≢◌, ℕ, ◌-◌, true, List, [], ◌∷◌, ◌++◌, length, take, refl, ap, ◌∙◌, arith}
use Rattle.std.specs.declared.cmp.Ordering.{Ordering}
use Rattle.std.specs.declared.cmp.Ordering.TheVariants.{Less}
use Rattle.std.specs.Ordering.{eq_by_cmp, nat_cmp, ordering_then}
use Rattle.std.specs.Cmp.{eq_by_cmp_equiv, tied_itself}
use Rattle.std.specs.Cmp.Lexicographic.{slice_cmp, lists_total, nat_list_cmp_total}
use Rattle.std.specs.FinMap.{nat_cmp-IsAntisymmetric, slice_cmp-IsAntisymmetric}
use Rattle.std.proofs.lemmas.List.{length-append}
use Rattle.std.proofs.Math.Seq.{take-append_seam}
use Rattle.fx_base.proofs.Orders.{is_tie}

abbrev Name : Type 0
Name = List ℕ

abbrev name_cmp : Name → Name → Ordering
name_cmp = slice_cmp nat_cmp

abbrev path_cmp : List Name → List Name → Ordering
path_cmp = slice_cmp name_cmp

-- ---- what ties

pub name_itself : (n : Name) → eq_by_cmp name_cmp n n ≡ true
name_itself n = (eq_by_cmp_equiv nat_list_cmp_total).refl n

pub name_is : (m n : Name) → eq_by_cmp name_cmp m n ≡ true → m ≡ n
name_is m n e = slice_cmp-IsAntisymmetric nat_cmp-IsAntisymmetric m n (is_tie (name_cmp m n) e)

pub path_itself : (p : List Name) → eq_by_cmp path_cmp p p ≡ true
path_itself p = (eq_by_cmp_equiv (lists_total nat_list_cmp_total)).refl p

pub path_is : (p q : List Name) → eq_by_cmp path_cmp p q ≡ true → p ≡ q
path_is p q e = slice_cmp-IsAntisymmetric (slice_cmp-IsAntisymmetric nat_cmp-IsAntisymmetric) p q (is_tie (path_cmp p q) e)

pub not_before_itself : (p : List Name) → path_cmp p p ≡ Less → ⊥
not_before_itself p less = let tied = tied_itself (lists_total nat_list_cmp_total) p in cc

-- ---- lists of names

-- lists with the same front are in the order of what is left
pub same_front : (front p q : List Name) → path_cmp (front ++ p) (front ++ q) ≡ path_cmp p q
same_front [] p q = refl
same_front (n ∷ front) p q = ap (λ r. ordering_then r (path_cmp (front ++ p) (front ++ q))) (tied_itself nat_list_cmp_total n) ∙ same_front front p q

pub above_pushed : (p : List Name) (n : Name) → take (length (p ++ n ∷ []) - 1) (p ++ n ∷ []) ≡ p
above_pushed p n =
    let count : length (p ++ n ∷ []) - 1 ≡ length p = omega (arith, length-append p (n ∷ [])) in
    ap (λ k. take k (p ++ n ∷ [])) count ∙ take-append_seam p (n ∷ [])

pub pushed_some : (p : List Name) (n : Name) → p ++ n ∷ [] ≢ []
pushed_some [] n e = cc
pushed_some (m ∷ p) n e = cc
