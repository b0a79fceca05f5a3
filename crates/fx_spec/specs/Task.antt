-- Tasks that consult a filestore and change it. A task is a tree: it ends, looks at a path, or sets some changes, which all
-- that follows sees.
use Rattle.std.specs.Prelude.{ℕ, not, List, [], ◌∷◌, ◌++◌, Option}
use Rattle.std.specs.List.{filter}
use Rattle.std.specs.Ordering.{eq_by_cmp}
use Rattle.fx_store.specs.declared.node.Node.{Node}
use Rattle.fx_store.specs.declared.changes.Change.{Change}
use Rattle.fx_store.specs.Names.{path_cmp}
use Rattle.fx_store.specs.Rule.{Ask, Answer, Look, Tick}
use Rattle.fx_store.specs.Whole.{Store, over}

pub data Task (A : Type 0) : Type 0 where
  Ends : A → Task A
  Looks : List (List ℕ) → (Option Node → Task A) → Task A
  Sets : List Change → Task A → Task A

-- what the task ends with, what it leaves, what it consults and what it sets, each at a filestore
abbrev pub result : {A : Type 0} → Store → Task A → A
result S (Ends a) = a
result S (Looks p next) = result S (next (S p))
result S (Sets changes next) = result (over S changes) next

abbrev pub after : {A : Type 0} → Store → Task A → Store
after S (Ends a) = S
after S (Looks p next) = after S (next (S p))
after S (Sets changes next) = after (over S changes) next

abbrev pub consulted : {A : Type 0} → Store → Task A → List (List (List ℕ))
consulted S (Ends a) = []
consulted S (Looks p next) = p ∷ consulted S (next (S p))
consulted S (Sets changes next) = consulted (over S changes) next

abbrev pub written : {A : Type 0} → Store → Task A → List Change
written S (Ends a) = []
written S (Looks p next) = written S (next (S p))
written S (Sets changes next) = changes ++ written (over S changes) next

-- a rule, and then the task that goes on with its answer
abbrev pub asking : {A B : Type 0} → Ask A → (A → Task B) → Task B
asking (Answer a) next = next a
asking (Look p rule) next = Looks p (λ n. asking (rule n) next)
asking (Tick rule) next = asking rule next

-- one task, and then the one that goes on with its end
infixl 40 ◌>=>◌
abbrev pub ◌>=>◌ : {A B : Type 0} → Task A → (A → Task B) → Task B
Ends a >=> next = next a
Looks p task >=> next = Looks p (λ n. task n >=> next)
Sets changes task >=> next = Sets changes (task >=> next)

-- the paths, each at its first place alone
abbrev pub once : List (List (List ℕ)) → List (List (List ℕ))
once [] = []
once (p ∷ ps) = p ∷ filter (λ q. not (eq_by_cmp path_cmp p q)) (once ps)
