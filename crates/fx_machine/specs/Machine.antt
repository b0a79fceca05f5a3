-- The machine of looks and settles. Each shell runs the first transaction of its script that is not in the order yet. It
-- looks at the paths that the transaction consults, one by one; when all are looked at it settles: the transaction joins
-- the order, or starts again where an entry has changed a path after it was looked at.
use Rattle.std.specs.Prelude.{◌≡◌, ℕ, ◌≤◌, ◌<◌, cond, List, [], ◌∷◌, ◌++◌, length, replicate, slice_index_or, slice_set, Option, Some, None, is_some}
use Rattle.std.specs.FinMap.{get}
use Rattle.std.specs.Ordering.{eq_by_cmp}
use Rattle.fx_store.specs.Names.{path_cmp, IsPath}
use Rattle.fx_store.specs.Whole.{Store, Nodes, IsWhole}
use Rattle.fx_spec.specs.CommandTree.{CommandTree}
use Rattle.fx_spec.specs.Plans.{Turn, txn_of}
use Rattle.fx_spec.specs.Order.{BaseTree, state, Changes, numbers_of}
use Rattle.fx_spec.specs.Transaction.{way}
use Rattle.fx_machine.specs.declared.event.Event.{Event}
use Rattle.fx_machine.specs.declared.event.Event.TheVariants as event

-- a path that was looked at, and the number of entries in the order at that moment
abbrev pub Look : Type 0
Look = List (List ℕ) × ℕ

-- the commit order, and what each shell has looked at since it began its transaction, in the order of the looks
pub record Machine : Type 0 where
  pub order : List Turn
  pub looks : List (List Look)

abbrev pub looks_of : Machine → ℕ → List Look
looks_of m shell = slice_index_or m.looks shell []

-- the position of the look at a path
abbrev pub position_at : List Look → List (List ℕ) → Option ℕ
position_at [] path = None
position_at (l ∷ ls) path = cond (eq_by_cmp path_cmp path l.0) (Some l.1) (position_at ls path)

-- a shell's next transaction: its number, and its commands if it has one left
abbrev pub next_number : List Turn → ℕ → ℕ
next_number o shell = length (numbers_of shell o)

abbrev pub next_txn : BaseTree → List Turn → ℕ → Option (List CommandTree)
next_txn base o shell = txn_of base.plan (shell, next_number o shell)

-- the filestore has at each looked path what the state at its position has
abbrev pub AgreesAt : BaseTree → List Turn → List Look → Store → Type 0
AgreesAt base o looks S = (path : List (List ℕ)) (i : ℕ) → position_at looks path ≡ Some i → S path ≡ get (state base o i) path

-- the first of the paths that is not looked at
abbrev pub first_unseen : List Look → List (List (List ℕ)) → Option (List (List ℕ))
first_unseen looks [] = None
first_unseen looks (path ∷ paths) = cond (is_some (position_at looks path)) (first_unseen looks paths) (Some path)

-- all that the transaction consults is looked at, on every whole filestore that agrees with the looks
abbrev pub HasSeenAll : BaseTree → List Turn → List Look → List CommandTree → Type 0
HasSeenAll base o looks t = (nodes : Nodes) → IsWhole (get nodes) → AgreesAt base o looks (get nodes) → first_unseen looks (way base.description t (get nodes)) ≡ None

-- the path comes next: on every whole filestore that agrees with the looks it is the first that the transaction consults
-- and that is not looked at
abbrev pub ComesNext : BaseTree → List Turn → List Look → List CommandTree → List (List ℕ) → Type 0
ComesNext base o looks t path = (nodes : Nodes) → IsWhole (get nodes) → AgreesAt base o looks (get nodes) → first_unseen looks (way base.description t (get nodes)) ≡ Some path

-- an entry has changed the path at or after its look
abbrev pub IsStaleAt : BaseTree → List Turn → List Look → ℕ → List (List ℕ) → Type 0
IsStaleAt base o looks entry path = (i : ℕ) × (position_at looks path ≡ Some i) × (i ≤ entry) × (entry < length o) × Changes base o entry path

-- no looked path was changed since its look
abbrev pub IsFresh : BaseTree → List Turn → List Look → Type 0
IsFresh base o looks = (entry : ℕ) (path : List (List ℕ)) → IsStaleAt base o looks entry path → ⊥

-- a shell looks at the path that comes next
pub record Looks (base : BaseTree) (m : Machine) (shell : ℕ) (path : List (List ℕ)) (position : ℕ) (m' : Machine) : Type 0 where
  pub txn : List CommandTree
  pub next : next_txn base m.order shell ≡ Some txn
  pub valid : IsPath path
  pub unseen : position_at (looks_of m shell) path ≡ None
  pub first : ComesNext base m.order (looks_of m shell) txn path
  pub now : position ≡ length m.order
  pub after : m' ≡ record m { looks = slice_set m.looks shell (looks_of m shell ++ (path, position) ∷ []) }

-- a shell's transaction joins the order, since none of its looked paths was changed since its look
pub record Settles (base : BaseTree) (m : Machine) (shell entry : ℕ) (m' : Machine) : Type 0 where
  pub txn : List CommandTree
  pub next : next_txn base m.order shell ≡ Some txn
  pub ready : HasSeenAll base m.order (looks_of m shell) txn
  pub fresh : IsFresh base m.order (looks_of m shell)
  pub now : entry ≡ length m.order
  pub after : m' ≡ record { order = m.order ++ (shell, next_number m.order shell) ∷ []; looks = slice_set m.looks shell [] }

-- a shell's transaction starts again, since an entry has changed a looked path
pub record Restarts (base : BaseTree) (m : Machine) (shell entry : ℕ) (path : List (List ℕ)) (m' : Machine) : Type 0 where
  pub txn : List CommandTree
  pub next : next_txn base m.order shell ≡ Some txn
  pub ready : HasSeenAll base m.order (looks_of m shell) txn
  pub stale : IsStaleAt base m.order (looks_of m shell) entry path
  pub after : m' ≡ record m { looks = slice_set m.looks shell [] }

abbrev pub Step : BaseTree → Machine → Event → Machine → Type 0
Step base m (event.Look shell path position) m' = Looks base m shell path position m'
Step base m (event.Settled shell entry) m' = Settles base m shell entry m'
Step base m (event.Conflict shell entry path) m' = Restarts base m shell entry path m'

abbrev pub Run : BaseTree → Machine → List Event → Machine → Type 0
Run base m [] m' = m ≡ m'
Run base m (e ∷ events) m' = (between : Machine) × Step base m e between × Run base between events m'

-- the order, with no looks
abbrev pub resting : BaseTree → List Turn → Machine
resting base o = record { order = o; looks = replicate (length base.plan) [] }

abbrev pub shell_of : Event → ℕ
shell_of (event.Look shell path position) = shell
shell_of (event.Settled shell entry) = shell
shell_of (event.Conflict shell entry path) = shell
