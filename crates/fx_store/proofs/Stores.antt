-- Filestores as data and as look-ups, under changes.
use Rattle.std.proofs.Common.{◌≡◌, ℕ, cond, List, [], ◌∷◌, ◌++◌, Option, Some, None, refl, sym, ap, subst, ◌∙◌, IfSome}
use Rattle.std.specs.Ordering.{eq_by_cmp}
use Rattle.std.specs.FinMap.{get, get-insert, get-remove, same_map}
use Rattle.fx_store.specs.declared.node.Node.{Node}
use Rattle.fx_store.specs.declared.changes.Change.{Change}
use Rattle.fx_store.specs.Names.{path_cmp}
use Rattle.fx_store.specs.Orders.{path_total, path_same}
use Rattle.fx_store.specs.Whole.{Store, Nodes, IsWhole, update, over, set_node, over_nodes, IsNode}

-- what a changed map gives
pub get-set_node : (m : Nodes) (path q : List (List ℕ)) (node : Option Node) → get (set_node m path node) q ≡ cond (eq_by_cmp path_cmp q path) node (get m q)
get-set_node m path q None = get-remove path_total m path q
get-set_node m path q (Some node) = get-insert path_total m path node q

-- maps that give the same are the same
pub same_nodes : (m n : Nodes) → ((q : List (List ℕ)) → get m q ≡ get n q) → m ≡ n
same_nodes m n same = same_map path_total path_same m n same

-- changes read what they change at their own paths alone
pub over_same : (S U : Store) (cs : List Change) → ((q : List (List ℕ)) → S q ≡ U q) → (q : List (List ℕ)) → over S cs q ≡ over U cs q
over_same S U [] same q = same q
over_same S U (c ∷ cs) same q = over_same (update S c) (update U c) cs (λ r. ap (cond (eq_by_cmp path_cmp r c.path) c.node) (same r)) q

-- the changed map is looked up as the changed look-up
pub get-over_nodes : (m : Nodes) (cs : List Change) (q : List (List ℕ)) → get (over_nodes m cs) q ≡ over (get m) cs q
get-over_nodes m [] q = refl
get-over_nodes m (c ∷ cs) q =
    get-over_nodes (set_node m c.path c.node) cs q ∙ over_same (get (set_node m c.path c.node)) (update (get m) c) cs (λ r. get-set_node m c.path r c.node) q

pub over_nodes-push : (m : Nodes) (cs : List Change) (c : Change) → over_nodes m (cs ++ c ∷ []) ≡ set_node (over_nodes m cs) c.path c.node
over_nodes-push m [] c = refl
over_nodes-push m (b ∷ cs) c = over_nodes-push (set_node m b.path b.node) cs c

-- look-ups that give the same are whole together
pub IsWhole-same : (S U : Store) → ((q : List (List ℕ)) → S q ≡ U q) → IsWhole S → IsWhole U
IsWhole-same S U same whole = subst IsWhole (λ i q. same q i) whole

-- the filestore that changes leave is whole where the changed look-up is
pub IsWhole-over_nodes : (m : Nodes) (cs : List Change) → IsWhole (over (get m) cs) → IsWhole (get (over_nodes m cs))
IsWhole-over_nodes m cs whole = IsWhole-same (over (get m) cs) (get (over_nodes m cs)) (λ q. sym (get-over_nodes m cs q)) whole

-- what stands in a whole filestore is a node for its path
pub node_at : (S : Store) → IsWhole S → (p : List (List ℕ)) (node : Node) → S p ≡ Some node → IsNode p node
node_at S whole p node here = subst (λ o. IfSome o (IsNode p)) here (whole.nodes p)
