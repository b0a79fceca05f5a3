-- Which path a transaction needs next, whatever stands at the paths that are not read.
use Rattle.std.specs.Prelude.{◌≡◌, ◌≤◌, ℕ, List, ◌++◌, length, Option, Some, None, Contains, ◌∷◌}
use Rattle.std.specs.FinMap.{get}
use Rattle.fx_store.specs.declared.node.Node.{Node}
use Rattle.fx_store.specs.Rule.{first_unknown}
use Rattle.fx_store.specs.Whole.{Nodes, IsWhole}
use Rattle.fx_spec.specs.CommandTree.{CommandTree}
use Rattle.fx_spec.specs.Plans.{Turn, txn_of}
use Rattle.fx_spec.specs.Order.{BaseTree}
use Rattle.fx_spec.specs.Transaction.{way}
use Rattle.fx_view.specs.OwnList.{OwnList}
use Rattle.fx_view.specs.ReadList.{ReadList}
use Rattle.fx_view.specs.Reads.{read_at, known_of, nodes_in, IsRead, Agrees}

-- each read path is one that the transaction consults, on every whole filestore that agrees with the reads
abbrev pub ReadsFit : BaseTree → Turn → ReadList → Type 0
ReadsFit base turn reads =
    (t : List CommandTree) → txn_of base.plan turn ≡ Some t → (nodes : Nodes) → IsWhole (get nodes) → Agrees reads (get nodes) → (path : List (List ℕ)) → IsRead reads path → Contains (way base.description t (get nodes)) path

-- the path is the first that the transaction consults and that is not read, on every whole filestore that agrees with the
-- reads
abbrev pub IsNeeded : BaseTree → Turn → ReadList → List (List ℕ) → Type 0
IsNeeded base turn reads path =
    (t : List CommandTree) → txn_of base.plan turn ≡ Some t → (nodes : Nodes) → IsWhole (get nodes) → Agrees reads (get nodes) → first_unknown (known_of reads) (way base.description t (get nodes)) ≡ Some path

-- the path is not read, and comes next for the transaction
pub record IsNext (base : BaseTree) (turn : Turn) (reads : ReadList) (path : List (List ℕ)) : Type 0 where
  pub unread : read_at reads path ≡ None
  pub needed : IsNeeded base turn reads path

-- whatever the positions of the looks: after the old reads, each further path came next once those before it were read
abbrev pub Foretells : BaseTree → Turn → ReadList → ReadList → Type 0
Foretells base turn old reads =
    (front : ReadList) (path : List (List ℕ)) (node : Option Node) (rest : OwnList) → length old ≤ length front → nodes_in reads ≡ nodes_in front ++ (path, node) ∷ rest → IsNext base turn front path

-- all that the transaction consults is read, on every whole filestore that agrees with the reads
abbrev pub AllRead : BaseTree → Turn → ReadList → Type 0
AllRead base turn reads =
    (t : List CommandTree) → txn_of base.plan turn ≡ Some t → (nodes : Nodes) → IsWhole (get nodes) → Agrees reads (get nodes) → first_unknown (known_of reads) (way base.description t (get nodes)) ≡ None
