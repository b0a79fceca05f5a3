-- Laws of transactions and orders.
use Rattle.std.specs.Prelude.{◌≡◌, ◌≢◌, ℕ, Bool, cond, ◌&&◌, nat_eq, nat_lt, List, count_by, Some, Ok}
use Rattle.std.specs.FinMap.{get}
use Rattle.fx_store.specs.declared.changes.Change.{Change}
use Rattle.fx_store.specs.Names.{IsPath}
use Rattle.fx_store.specs.Rule.{Ask, answer, SameOn}
use Rattle.fx_expr.specs.Tree.{Tree}
use Rattle.fx_store.specs.Whole.{Store, Nodes, IsWhole, over}
use Rattle.fx_spec.specs.declared.refusal.End.{End}
use Rattle.fx_spec.specs.SpecTree.{SpecTree}
use Rattle.fx_spec.specs.CommandTree.{CommandTree}
use Rattle.fx_spec.specs.Edit.{store_at, create_at, remove_at}
use Rattle.fx_spec.specs.Move.{Answered}
use Rattle.fx_spec.specs.Place.{Address, PlaceTree, place}
use Rattle.fx_spec.specs.Plans.{Turn, count_of}
use Rattle.fx_spec.specs.Transaction.{outputs, end, way, kept, left, left_nodes}
use Rattle.fx_spec.specs.Order.{BaseTree, state, IsComplete}

-- a transaction that is not done leaves the filestore as it was
abbrev pub UndoneLeavesAll : Type 0
UndoneLeavesAll = (root : SpecTree) (t : List CommandTree) (nodes : Nodes) → end root t (get nodes) ≢ End.Done → left_nodes root t nodes ≡ nodes

-- what a transaction answers, changes and consults depends on nothing but what stands at the paths that it consults
pub record SameCourse (root : SpecTree) (t : List CommandTree) (S T : Store) : Type 0 where
  pub outputs : outputs root t T ≡ outputs root t S
  pub end : end root t T ≡ end root t S
  pub kept : kept root t T ≡ kept root t S
  pub way : way root t T ≡ way root t S

abbrev pub DependsOnWay : Type 0
DependsOnWay = (root : SpecTree) (t : List CommandTree) (S T : Store) → SameOn (way root t S) S T → SameCourse root t S T

-- the filestore that a transaction leaves, as data, has at each path what its commands leave there
abbrev pub LeavesAsData : Type 0
LeavesAsData = (root : SpecTree) (t : List CommandTree) (nodes : Nodes) (p : List (List ℕ)) → get (left_nodes root t nodes) p ≡ left root t (get nodes) p

abbrev pub is_turn : ℕ → ℕ → Turn → Bool
is_turn shell txn turn = nat_eq turn.0 shell && nat_eq turn.1 txn

-- a complete order has each transaction of the plan exactly once, and nothing else
abbrev pub CompleteHasEachOnce : Type 0
CompleteHasEachOnce =
    (base : BaseTree) (o : List Turn) → IsComplete base o → (shell txn : ℕ) → count_by (is_turn shell txn) o ≡ cond (nat_lt txn (count_of base.plan shell)) 1 0

-- an edit leaves a whole filestore whole, where it is not refused
abbrev pub KeepsWhole : Store → Ask (Answered (List Change)) → Type 0
KeepsWhole S edit = (changes : List Change) → answer S edit ≡ Ok changes → IsWhole (over S changes)

pub record EditsKeepWhole : Type 0 where
  pub store : (S : Store) → IsWhole S → (at : PlaceTree) → IsPath at.path → (v : Tree) → KeepsWhole S (store_at v at)
  pub create : (S : Store) → IsWhole S → (at : PlaceTree) → IsPath at.path → KeepsWhole S (create_at at)
  pub remove : (S : Store) → IsWhole S → (at : PlaceTree) → IsPath at.path → KeepsWhole S (remove_at at)

-- a place's path has at most 64 names
abbrev pub PlacesHavePaths : Type 0
PlacesHavePaths = (S : Store) (root : SpecTree) (a : Address) (at : PlaceTree) → answer S (place root a) ≡ Some at → IsPath at.path

-- a transaction leaves a whole filestore whole, and so does each of an order
abbrev pub TransactionsKeepWhole : Type 0
TransactionsKeepWhole = (root : SpecTree) (t : List CommandTree) (S : Store) → IsWhole S → IsWhole (left root t S)

abbrev pub StatesAreWhole : Type 0
StatesAreWhole = (base : BaseTree) → IsWhole (get base.loaded) → (o : List Turn) (i : ℕ) → IsWhole (get (state base o i))
