-- The paths of changes, one by one, are in ascending order.
use Rattle.std.proofs.Common.{◌≡◌, ℕ, suc, ◌<◌, List, [], ◌∷◌, ◌++◌, length, get_or, take, drop, sym, ap, subst, ◌∙◌}
use Rattle.std.specs.List.Sorted.{IsStrictlySortedBy}
use Rattle.std.proofs.Math.Seq.{take-suc}
use Rattle.std.proofs.lemmas.List.{map-append, take-append-drop}
use Rattle.fx_base.proofs.Lists.{ascending_front}
use Rattle.fx_store.specs.declared.changes.Change.{Change}
use Rattle.fx_store.specs.Names.{path_cmp}
use Rattle.fx_store.specs.Changes.{IsChanges, changed_paths}

-- one path more
pub paths_more : (cs : List Change) (i : ℕ) (c : Change) → i < length cs → c ≡ get_or cs i c → changed_paths (take (suc i) cs) ≡ changed_paths (take i cs) ++ c.path ∷ []
paths_more cs i c lt read =
    ap changed_paths (take-suc cs i c lt ∙ ap (λ d. take i cs ++ d ∷ []) (sym read)) ∙ map-append (λ (c : Change). c.path) (take i cs) (c ∷ [])

pub paths_ascend : (cs : List Change) (i : ℕ) (c : Change) → IsChanges cs → i < length cs → c ≡ get_or cs i c → IsStrictlySortedBy path_cmp (changed_paths (take i cs) ++ c.path ∷ [])
paths_ascend cs i c up lt read =
    let split : changed_paths cs ≡ changed_paths (take (suc i) cs) ++ changed_paths (drop (suc i) cs) = ap changed_paths (sym (take-append-drop (suc i) cs)) ∙ map-append (λ (c : Change). c.path) (take (suc i) cs) (drop (suc i) cs) in
    subst (IsStrictlySortedBy path_cmp) (paths_more cs i c lt read)
    (ascending_front path_cmp (changed_paths (take (suc i) cs)) (changed_paths (drop (suc i) cs)) (subst (IsStrictlySortedBy path_cmp) split up))
