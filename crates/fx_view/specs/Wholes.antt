-- Reads of a whole filestore.
use Rattle.std.specs.Prelude.{◌≡◌, ℕ, List, Option, Some}
use Rattle.std.specs.Coded.{Coded-set, coded_option, coded_ℕ, Π_prop, ×_prop}
use Rattle.fx_store.specs.contracts.node.Node as node
use Rattle.fx_store.specs.declared.node.Node.{Node}
use Rattle.fx_store.specs.Whole.{Store}
use Rattle.fx_view.specs.ReadList.{ReadList}
use Rattle.fx_view.specs.Reads.{read_at}

-- each read is what the filestore has at its path, and was looked at before any entry of a log
abbrev pub AreOf : Store → ReadList → Type 0
AreOf S reads =
    (path : List (List ℕ)) (found : Option Node) (position : ℕ) → read_at reads path ≡ Some (found, position) → (S path ≡ found) × (position ≡ 0)

pub AreOf-prop : (S : Store) (reads : ReadList) → IsProp (AreOf S reads)
AreOf-prop S reads = Π_prop (λ path. Π_prop (λ found. Π_prop (λ position. Π_prop (λ at. ×_prop (Coded-set (coded_option node.the_row.coded) _ _) (Coded-set coded_ℕ _ _)))))
