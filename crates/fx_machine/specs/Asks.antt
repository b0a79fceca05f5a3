-- Rules and tasks that look at paths alone, whatever they find there that may stand there.
use Rattle.std.specs.Prelude.{ℕ, List, All, Option, IfSome}
use Rattle.fx_store.specs.declared.node.Node.{Node}
use Rattle.fx_store.specs.declared.changes.Change.{Change}
use Rattle.fx_store.specs.Names.{IsPath}
use Rattle.fx_store.specs.Rule.{Ask, Answer, Look, Tick}
use Rattle.fx_store.specs.Whole.{Store, IsNode}
use Rattle.fx_spec.specs.SpecTree.{SpecTree}
use Rattle.fx_spec.specs.CommandTree.{CommandTree}
use Rattle.fx_spec.specs.Task.{Task, Ends, Looks, Sets}
use Rattle.fx_spec.specs.Transaction.{way}

-- nothing, or a node within its limits
abbrev pub MayStand : List (List ℕ) → Option Node → Type 0
MayStand path found = IfSome found (IsNode path)

-- each look of the rule is at a path, and its answer is such
abbrev pub AsksPaths : {A : Type 0} → (A → Type 0) → Ask A → Type 0
AsksPaths P (Answer a) = P a
AsksPaths P (Look p next) = IsPath p × ((found : Option Node) → MayStand p found → AsksPaths P (next found))
AsksPaths P (Tick rule) = AsksPaths P rule

-- each change is at a path, of what may stand there
abbrev pub MaySet : List Change → Type 0
MaySet changes = All (λ (c : Change). IsPath c.path × MayStand c.path c.node) changes

-- the same of a task: what it sets may stand there too
abbrev pub TaskAsksPaths : {A : Type 0} → (A → Type 0) → Task A → Type 0
TaskAsksPaths P (Ends a) = P a
TaskAsksPaths P (Looks p next) = IsPath p × ((found : Option Node) → MayStand p found → TaskAsksPaths P (next found))
TaskAsksPaths P (Sets changes next) = MaySet changes × TaskAsksPaths P next

-- a filestore whose nodes are within their limits, whether or not it is whole
abbrev pub HoldsNodes : Store → Type 0
HoldsNodes S = (path : List (List ℕ)) → MayStand path (S path)

abbrev pub LooksAtPaths : Type 0
LooksAtPaths = (root : SpecTree) (t : List CommandTree) (S : Store) → HoldsNodes S → All IsPath (way root t S)
