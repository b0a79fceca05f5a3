-- A filestore as contracts see it: what stands at each path, and the places that its table has, in their order.
use Rattle.std.specs.Prelude.{◌≡◌, ℕ, ◌<◌, List, [], ◌∷◌, ◌++◌, length, IsTrue, IsSome, Option, Some, All, slice_get, option_map, option_and_then, refl}
use Rattle.std.specs.Coded.{Coded, code_by, coded×, coded_list, coded_ℕ}
use Rattle.std.specs.List.{IsDistinct}
use Rattle.std.specs.Map.{keys_of}
use Rattle.std.specs.Ordering.{eq_by_cmp}
use Rattle.std.specs.FinMap as map
use Rattle.std.specs.FinMap.{get, empty}
use Rattle.fx_store.specs.declared.node.Node.{Node}
use Rattle.fx_store.specs.declared.node.Node.TheVariants.{Dir}
use Rattle.fx_store.specs.declared.changes.Change.{Change}
use Rattle.fx_store.specs.contracts.node.Node as node
use Rattle.fx_store.specs.Names.{path_cmp, has_path}
use Rattle.fx_store.specs.Whole.{Nodes, IsWhole, set_node}

-- a path with a node has a place, and a place may have none
pub record Table : Type 0 where
  pub nodes : Nodes
  pub places : List (List (List ℕ))

abbrev pub path_code : Coded (List (List ℕ))
path_code = coded_list (coded_list coded_ℕ)

abbrev pub table_code : Coded Table
table_code =
    code_by (Nodes × List (List (List ℕ))) (coded× (map.code path_code (node.the_row).coded) (coded_list path_code)) (λ t. (t.nodes, t.places)) (λ p. record { nodes = p.0; places = p.1 }) (λ _. refl)

-- the nodes among the entries of a table, where the first entry of a path counts
abbrev pub nodes_of : List (List (List ℕ) × Option Node) → Nodes
nodes_of [] = empty
nodes_of (e ∷ es) = set_node (nodes_of es) e.0 e.1

abbrev pub table_of : List (List (List ℕ) × Option Node) → Table
table_of es = record { nodes = nodes_of es; places = keys_of es }

-- the root alone, with no names
abbrev pub root_only : Nodes
root_only = set_node empty [] (Some (Dir []))

-- a whole filestore, whose places differ and are there for each node
pub record IsTable (t : Table) : Type 0 where
  pub whole : IsWhole (get t.nodes)
  pub distinct : IsDistinct (eq_by_cmp path_cmp) t.places
  pub placed : (path : List (List ℕ)) → IsSome (get t.nodes path) → IsTrue (has_path t.places path)

-- the path with its node, if it has one
abbrev pub node_with : Nodes → List (List ℕ) → Option (List (List ℕ) × Node)
node_with m path = option_map (λ n. (path, n)) (get m path)

-- the path and the node at a place, if it has one
abbrev pub place_at : Table → ℕ → Option (List (List ℕ) × Node)
place_at t i = option_and_then (node_with t.nodes) (slice_get t.places i)

-- each path with its node stands at exactly one place
pub record HasEachOnce (t : Table) : Type 0 where
  pub found : (path : List (List ℕ)) (n : Node) → get t.nodes path ≡ Some n → (i : ℕ) × (i < length t.places) × (place_at t i ≡ Some (path, n))
  pub once : (i j : ℕ) (path : List (List ℕ)) (n m : Node) → place_at t i ≡ Some (path, n) → place_at t j ≡ Some (path, m) → i ≡ j

-- each path at which the changes set a node has a place
abbrev pub HavePlaces : List (List (List ℕ)) → List Change → Type 0
HavePlaces places changes = All (λ (c : Change). IsSome c.node → IsTrue (has_path places c.path)) changes

-- the places stay where they are, and more may follow
abbrev pub KeepsPlaces : List (List (List ℕ)) → List (List (List ℕ)) → Type 0
KeepsPlaces old new = (more : List (List (List ℕ))) × (new ≡ old ++ more)
