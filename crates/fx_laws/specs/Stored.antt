-- A store of what is there changes nothing.
use Rattle.std.specs.Prelude.{◌≡◌, ℕ, Bool, true, false, List, [], ◌∷◌, ◌++◌, Some, Ok}
use Rattle.fx_store.specs.declared.node.Node.{Node}
use Rattle.fx_store.specs.declared.node.Landing.TheVariants.{At}
use Rattle.fx_store.specs.declared.changes.Change.{Change}
use Rattle.fx_store.specs.Resolve.{lands}
use Rattle.fx_store.specs.Rule.{answer}
use Rattle.fx_store.specs.Whole.{Store, IsWhole, over}
use Rattle.fx_expr.specs.Eval.{eval_of}
use Rattle.fx_expr.specs.ExprTree.{ExprTree}
use Rattle.fx_expr.specs.ShapeTree.{ShapeTree}
use Rattle.fx_expr.specs.Tree.{Tree}
use Rattle.fx_spec.specs.declared.refusal.End.{End}
use Rattle.fx_spec.specs.SpecTree.{SpecTree}
use Rattle.fx_spec.specs.CommandTree.{ActTree, CommandTree, block}
use Rattle.fx_spec.specs.Edit.{set_to, renewed, is_flag, stored_node, follows_last, store_at}
use Rattle.fx_spec.specs.Move.{fetch_at}
use Rattle.fx_spec.specs.Place.{PlaceTree, place}
use Rattle.fx_spec.specs.Task.{result, after}
use Rattle.fx_spec.specs.Transaction.{Standing, On, run_block, transaction, end, left}

-- the value is what the node holds at which a store at the place lands: a file's bytes or its flag, a directory's names or a
-- link's text; the node that is made of the value replaces it by itself
pub record IsHeldValue (S : Store) (at : PlaceTree) (v : Tree) (node : Node) (q : List (List ℕ)) : Type 0 where
  pub made : Node
  pub stores : stored_node at.spec v ≡ Ok made
  pub holds : renewed (is_flag v) made node ≡ node
  pub lands : lands S at.path (follows_last made) ≡ At q
  pub stands : S q ≡ Some node

-- the two filestores have the same at each path
abbrev pub Same : Store → Store → Type 0
Same S T = (p : List (List ℕ)) → T p ≡ S p

-- on a whole filestore the store of what is held is accepted, and sets the node to what it is
abbrev pub SameContentIsAccepted : Type 0
SameContentIsAccepted = (S : Store) → IsWhole S → (at : PlaceTree) (v : Tree) (node : Node) (q : List (List ℕ)) → IsHeldValue S at v node q → answer S (store_at v at) ≡ Ok (set_to q node ∷ [])

-- wherever such a store is accepted, each path keeps what it has
abbrev pub SameContentChangesNothing : Type 0
SameContentChangesNothing =
    (S : Store) (at : PlaceTree) (v : Tree) (node : Node) (q : List (List ℕ)) → IsHeldValue S at v node q → (changes : List Change) → answer S (store_at v at) ≡ Ok changes → Same S (over S changes)

-- a form whose content is fetched and stored: a file, a directory or a link
abbrev pub has_content : SpecTree → Bool
has_content SpecTree.file = true
has_content SpecTree.dir = true
has_content SpecTree.link = true
has_content _ = false

-- on a whole filestore the store of what is fetched at such a form is accepted, and sets a node to what it is
abbrev pub FetchedIsAccepted : Type 0
FetchedIsAccepted =
    (S : Store) → IsWhole S → (at : PlaceTree) (shape : ShapeTree) (v : Tree) → has_content at.spec ≡ true → answer S (fetch_at shape at) ≡ Ok v
    → (q : List (List ℕ)) × (node : Node) × (S q ≡ Some node) × (answer S (store_at v at) ≡ Ok (set_to q node ∷ []))

-- from this standing the expression gives what is held at the place
pub record StoresSame (root : SpecTree) (s : Standing) (e : ExprTree) (S : Store) : Type 0 where
  pub at : PlaceTree
  pub value : Tree
  pub node : Node
  pub path : List (List ℕ)
  pub place : answer S (place root s.address) ≡ Some at
  pub expression : eval_of s.vars e ≡ Ok value
  pub held : IsHeldValue S at value node path

-- the store of an expression
abbrev pub storing : ExprTree → List CommandTree
storing e = CommandTree.act (ActTree.store e) ∷ []

-- what is fetched at the place, and stored there
abbrev pub fetching_and_storing : List ℕ → ShapeTree → List CommandTree
fetching_and_storing x shape = CommandTree.fetch x shape ∷ storing (ExprTree.var x)

-- the commands change no path, from the standing and the filestore
abbrev pub ChangesNothing : SpecTree → List CommandTree → Standing → Store → Type 0
ChangesNothing root commands s S = (i : ℕ) → Same S (after S (run_block root i (block commands) s))

-- a command that stores what is held changes no path
abbrev pub SameStoreChangesNothing : Type 0
SameStoreChangesNothing = (root : SpecTree) (e : ExprTree) (s : Standing) (S : Store) → StoresSame root s e S → ChangesNothing root (storing e) s S

-- nor does the store of what was fetched, from any place and wherever
abbrev pub FetchedStoreChangesNothing : Type 0
FetchedStoreChangesNothing = (root : SpecTree) (x : List ℕ) (shape : ShapeTree) (s : Standing) (S : Store) → ChangesNothing root (fetching_and_storing x shape) s S

-- where the transaction is done, its last commands leave what the ones before them leave
abbrev pub LastLeaveNothing : SpecTree → List CommandTree → List CommandTree → Store → Type 0
LastLeaveNothing root commands last S = end root (commands ++ last) S ≡ End.Done → Same (left root commands S) (left root (commands ++ last) S)

-- so for a store of what is held as a transaction's last command
abbrev pub SameStoreLeavesNothing : Type 0
SameStoreLeavesNothing =
    (root : SpecTree) (commands : List CommandTree) (e : ExprTree) (S : Store) → ((s : Standing) → result S (transaction root commands) ≡ On s → StoresSame root s e (after S (transaction root commands))) → LastLeaveNothing root commands (storing e) S

-- and for a fetch and a store as its last ones
abbrev pub FetchedStoreLeavesNothing : Type 0
FetchedStoreLeavesNothing = (root : SpecTree) (commands : List CommandTree) (x : List ℕ) (shape : ShapeTree) (S : Store) → LastLeaveNothing root commands (fetching_and_storing x shape) S
