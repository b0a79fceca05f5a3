-- Reads that are true in an order of transactions.
use Rattle.std.specs.Prelude.{◌≡◌, ℕ, ◌≤◌, List, Option, Some, length}
use Rattle.std.specs.FinMap.{get}
use Rattle.fx_store.specs.declared.node.Node.{Node}
use Rattle.fx_view.specs.ReadList.{ReadList}
use Rattle.fx_view.specs.Reads.{read_at}
use Rattle.fx_spec.specs.Plans.{Turn}
use Rattle.fx_spec.specs.Order.{BaseTree, state}

-- each read is what the state at its position has, and its position is one of the order
abbrev pub AreTrueReads : BaseTree → List Turn → ReadList → Type 0
AreTrueReads base o reads =
    (path : List (List ℕ)) (node : Option Node) (position : ℕ) → read_at reads path ≡ Some (node, position) → (position ≤ length o) × (node ≡ get (state base o position) path)
