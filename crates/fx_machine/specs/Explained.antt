-- What an attempt says of its transaction: on every filestore that has what it read, the transaction, run whole, comes to
-- what the attempt has.
use Rattle.std.specs.Prelude.{◌≡◌, ◌≢◌, ℕ, List, Option, Some, Contains, ◌↔◌}
use Rattle.std.specs.FinMap.{get}
use Rattle.fx_store.specs.declared.node.Node.{Node}
use Rattle.fx_store.specs.Changes.{change_at}
use Rattle.fx_store.specs.Whole.{Nodes, IsWhole, over_nodes}
use Rattle.fx_view.specs.Reads.{known_of, IsRead, Agrees}
use Rattle.fx_view.specs.ReadList.{ReadList}
use Rattle.fx_spec.specs.SpecTree.{SpecTree}
use Rattle.fx_spec.specs.CommandTree.{CommandTree}
use Rattle.fx_spec.specs.Plans.{txn_of}
use Rattle.fx_spec.specs.Order.{BaseTree}
use Rattle.fx_spec.specs.Transaction.{outputs, end, way, left_nodes}
use Rattle.fx_machine.specs.declared.attempt.Attempt.{Attempt}

-- the transaction, run whole on the filestore, has the attempt's outputs, end and changes, and consults the paths that the
-- attempt has read and no others
pub record RunsAs (root : SpecTree) (t : List CommandTree) (a : Attempt) (nodes : Nodes) : Type 0 where
  pub outputs : outputs root t (get nodes) ≡ a.outputs
  pub end : end root t (get nodes) ≡ a.end
  pub left : left_nodes root t nodes ≡ over_nodes nodes a.changes
  pub foot : (path : List (List ℕ)) → IsRead a.reads path ↔ Contains (way root t (get nodes)) path

-- a changed path was read, with another node
abbrev pub IsNew : ReadList → List (List ℕ) → Option Node → Type 0
IsNew reads path node = (was : Option Node) × (known_of reads path ≡ Some was) × (node ≢ was)

pub record IsExplained (base : BaseTree) (a : Attempt) : Type 0 where
  pub txn : List CommandTree
  pub planned : txn_of base.plan (a.shell, a.txn) ≡ Some txn
  pub changed : (path : List (List ℕ)) (node : Option Node) → change_at a.changes path ≡ Some node → IsNew a.reads path node
  pub runs : (nodes : Nodes) → IsWhole (get nodes) → Agrees a.reads (get nodes) → RunsAs base.description txn a nodes
