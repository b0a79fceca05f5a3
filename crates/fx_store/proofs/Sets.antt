-- Sets and changes with no item, and one change more.
use Rattle.std.proofs.Common.{◌≡◌, ◌-◌, Bool, true, List, [], ◌∷◌, ◌++◌, length, map, Some, None, slice_get, sym, ap, ◌∙◌}
use Rattle.std.proofs.lemmas.List.{length-map}
use Rattle.std.specs.Prelude.{◌↔◌}
use Rattle.std.specs.Option.{option_map}
use Rattle.std.specs.Ordering.{is_lt}
use Rattle.std.specs.List.Sorted.{IsStrictlySortedBy}
use Rattle.std.proofs.lemmas.List.Elements.{All-nil}
use Rattle.std.proofs.lemmas.Option.{slice_get-map}
use Rattle.std.specs.declared.cmp.Ordering.{Ordering}
use Rattle.std.specs.Cmp.{IsTotalOrder}
use Rattle.fx_store.specs.Names.{IsName, IsPath, IsNameSet, IsPathSet, name_cmp, path_cmp}
use Rattle.fx_store.specs.Changes.{IsChanges}
use Rattle.fx_store.proofs.Ascending.{ascending_none, above_last, above_none, is_next}

pub IsNameSet-none : IsNameSet []
IsNameSet-none = record { names = All-nil IsName; ascending = ascending_none name_cmp }

pub IsPathSet-none : IsPathSet []
IsPathSet-none = record { paths = All-nil IsPath; ascending = ascending_none path_cmp }

pub IsChanges-none : IsChanges []
IsChanges-none = ascending_none path_cmp

module _ {X K : Type 0} {R : K → K → Ordering} (o : IsTotalOrder R) (key : X → K) where
  last_key : (xs : List X) → slice_get (map key xs) (length (map key xs) - 1) ≡ option_map key (slice_get xs (length xs - 1))
  last_key xs = ap (λ n. slice_get (map key xs) (n - 1)) (length-map xs key) ∙ slice_get-map key xs (length xs - 1)

  module _ (xs : List X) (k : K) (r : Bool) (up : IsStrictlySortedBy R (map key xs)) where
    -- a key may come next where it is above that of the last item, or there is none
    pub next_after : (last : X) → slice_get xs (length xs - 1) ≡ Some last → r ≡ is_lt (R (key last) k) → (r ≡ true) ↔ IsStrictlySortedBy R (map key xs ++ k ∷ [])
    next_after last at e = is_next o (map key xs) k r up (e ∙ sym (above_last R (map key xs) k (key last) (last_key xs ∙ ap (option_map key) at)))

    pub next_of_none : slice_get xs (length xs - 1) ≡ None → r ≡ true → (r ≡ true) ↔ IsStrictlySortedBy R (map key xs ++ k ∷ [])
    next_of_none at e = is_next o (map key xs) k r up (e ∙ sym (above_none R (map key xs) k (last_key xs ∙ ap (option_map key) at)))
