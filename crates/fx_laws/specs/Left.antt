-- What a transaction leaves, as a whole filestore.
use Rattle.std.specs.Prelude.{◌≡◌, ℕ, List}
use Rattle.fx_store.specs.declared.node.Node.{Node}
use Rattle.fx_store.specs.declared.changes.Change.{Change}
use Rattle.fx_store.specs.Examples.{store_of}
use Rattle.fx_store.specs.Whole.{Store}
use Rattle.fx_expr.specs.Tree.{Tree}
use Rattle.fx_spec.specs.declared.refusal.End.{End}
use Rattle.fx_spec.specs.SpecTree.{SpecTree}
use Rattle.fx_spec.specs.CommandTree.{CommandTree}
use Rattle.fx_spec.specs.Examples.{Does}
use Rattle.fx_spec.specs.Transaction.{left}

-- the nodes of a small filestore, each with its path
abbrev pub Entries : Type 0
Entries = List (List (List ℕ) × Node)

-- at the filestore S the transaction leaves T
abbrev pub Leaves : SpecTree → Store → List CommandTree → Store → Type 0
Leaves root S commands T = (p : List (List ℕ)) → left root commands S p ≡ T p

-- a done transaction on a small filestore: what it prints, consults and changes, and the small filestore that it leaves
pub record Commits (root : SpecTree) (before : Entries) (commands : List CommandTree) (printed : List Tree) (paths : List (List (List ℕ))) (changes : List Change) (after : Entries) : Type 0 where
  pub does : Does root (store_of before) commands printed End.Done paths changes
  pub leaves : Leaves root (store_of before) commands (store_of after)
