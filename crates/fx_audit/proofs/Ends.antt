-- Refusals that name paths.
use Rattle.std.proofs.Common.{◌≡◌, ℕ, Bool, List, sym, ap, ◌∙◌}
use Rattle.std.specs.Prelude.{IsTrue}
use Rattle.std.specs.Ordering.{eq_by_cmp}
use Rattle.std.proofs.lemmas.Cmp.{eq_by_cmp_equiv}
use Rattle.fx_store.specs.Names.{path_cmp}
use Rattle.fx_store.specs.Orders.{path_eq_same, path_total}
use Rattle.fx_spec.specs.declared.refusal.Refusal.{Refusal}
use Rattle.fx_spec.specs.declared.refusal.Refusal.TheVariants as refusal

abbrev Path : Type 0
Path = List (List ℕ)

-- whether two paths that are told apart by their order are equal
pub blocked_is : (path other : Path) (r : Refusal) (b : Bool) → r ≡ refusal.Blocked other → b ≡ eq_by_cmp path_cmp path other → (IsTrue b → refusal.Blocked path ≡ r) × (refusal.Blocked path ≡ r → IsTrue b)
blocked_is path other r b is e = (yes_, back)
  where
    yes_ : IsTrue b → refusal.Blocked path ≡ r
    yes_ t = ap refusal.Blocked (path_eq_same path other (sym e ∙ t)) ∙ sym is

    back : refusal.Blocked path ≡ r → IsTrue b
    back same =
        let whole : refusal.Blocked path ≡ refusal.Blocked other = same ∙ is in
        let inner : path ≡ other = cc in
        e ∙ (ap (eq_by_cmp path_cmp path) (sym inner) ∙ (eq_by_cmp_equiv path_total).refl path)
