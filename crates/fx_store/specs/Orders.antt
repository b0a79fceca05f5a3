-- The orders of names and of paths are total, and only equal ones tie.
use Rattle.std.specs.Prelude.{◌≡◌, ℕ, true, List, bytes_eq}
use Rattle.std.specs.Ordering.{eq_by_cmp}
use Rattle.std.specs.Cmp.{IsTotalOrder, Equal-is}
use Rattle.std.specs.Cmp.Lexicographic.{lists_total, nat_list_cmp_total, texts_ties}
use Rattle.std.specs.FinMap.{IsAntisymmetric, nat_cmp-IsAntisymmetric, slice_cmp-IsAntisymmetric}
use Rattle.std.proofs.Common.{◌∙◌, sym}
use Rattle.fx_store.specs.Names.{name_cmp, path_cmp}

pub name_total : IsTotalOrder name_cmp
name_total = nat_list_cmp_total

pub path_total : IsTotalOrder path_cmp
path_total = lists_total nat_list_cmp_total

pub name_same : IsAntisymmetric name_cmp
name_same = slice_cmp-IsAntisymmetric nat_cmp-IsAntisymmetric

pub path_same : IsAntisymmetric path_cmp
path_same = slice_cmp-IsAntisymmetric name_same

-- where the test of equality passes, the paths are equal
pub path_eq_same : (x y : List (List ℕ)) → eq_by_cmp path_cmp x y ≡ true → x ≡ y
path_eq_same x y e = path_same x y ((Equal-is (path_cmp x y)).0 e)

-- where the test of equality passes, the names are equal
pub name_eq_same : (x y : List ℕ) → bytes_eq x y ≡ true → x ≡ y
name_eq_same x y e = name_same x y ((Equal-is (name_cmp x y)).0 (sym (texts_ties x y) ∙ e))
