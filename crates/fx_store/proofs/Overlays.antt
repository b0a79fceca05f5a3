-- Changes in ascending order of path: what they leave at each path.
use Rattle.std.proofs.Common.{◌≡◌, ℕ, Bool, true, false, cond, List, [], ◌∷◌, Option, Some, None, refl, ap, ◌∙◌}
use Rattle.std.specs.declared.cmp.Ordering.TheVariants.{Less}
use Rattle.std.specs.Prelude.{unwrap_or}
use Rattle.std.specs.List.{AllByRecursion}
use Rattle.std.specs.List.Sorted.{IsStrictlySortedBy}
use Rattle.std.specs.Ordering.{eq_by_cmp, is_eq}
use Rattle.fx_store.specs.declared.node.Node.{Node}
use Rattle.fx_store.specs.declared.changes.Change.{Change}
use Rattle.fx_store.specs.Names.{path_cmp}
use Rattle.fx_store.specs.Orders.{path_eq_same}
use Rattle.fx_store.specs.Changes.{IsChanges, changed_paths, change_at}
use Rattle.fx_store.specs.Whole.{Store, update, over}

-- no later change has the path of an earlier one
pub none_above : (cs : List Change) (p : List (List ℕ)) → AllByRecursion (λ q. path_cmp p q ≡ Less) (changed_paths cs) → change_at cs p ≡ None
none_above [] p above = refl
none_above (c ∷ cs) p above =
    ap (λ r. cond (is_eq r) (Some c.node) (change_at cs p)) above.0 ∙ none_above cs p above.1

left_by : (b : Bool) (said stood : Option Node) (r : Option (Option Node)) → (b ≡ true → r ≡ None) → unwrap_or r (cond b said stood) ≡ unwrap_or (cond b (Some said) r) stood
left_by true said stood r none = ap (λ x. unwrap_or x said) (none refl)
left_by false said stood r none = refl

-- at a changed path stands what its change says, and elsewhere what stood there
pub over-change_at : (S : Store) (cs : List Change) → IsChanges cs → (q : List (List ℕ)) → over S cs q ≡ unwrap_or (change_at cs q) (S q)
unfolding IsStrictlySortedBy
over-change_at S [] up q = refl
over-change_at S (c ∷ cs) up q =
    over-change_at (update S c) cs up.1 q
    ∙ left_by (eq_by_cmp path_cmp q c.path) c.node (S q) (change_at cs q) (λ e. ap (change_at cs) (path_eq_same q c.path e) ∙ none_above cs c.path up.0)
