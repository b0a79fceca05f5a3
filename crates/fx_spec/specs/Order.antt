-- Commit orders: the filestore after some transactions of an order, which orders are legal and complete, and which retries
-- an order can have had.
use Rattle.std.specs.Prelude.{◌≡◌, ◌≢◌, ◌⊎◌, ℕ, zero, suc, ◌≤◌, ◌<◌, cond, nat_eq, List, [], ◌∷◌, ◌++◌, take, length, slice_get, Contains, All, Option, Some, None}
use Rattle.std.specs.FinMap.{get}
use Rattle.std.specs.List.{filter_map}
use Rattle.fx_store.specs.Whole.{Nodes}
use Rattle.fx_spec.specs.SpecTree.{SpecTree}
use Rattle.fx_spec.specs.CommandTree.{CommandTree}
use Rattle.fx_spec.specs.Plans.{Turn, count_of, txn_of}
use Rattle.fx_spec.specs.Transaction.{left_nodes}

-- what a run begins with: a description, the transactions of each script, and the loaded filestore
pub record BaseTree : Type 0 where
  pub description : SpecTree
  pub plan : List (List (List CommandTree))
  pub loaded : Nodes

-- the filestore after one transaction, and after each of an order
abbrev pub after_txn : SpecTree → Nodes → Option (List CommandTree) → Nodes
after_txn root nodes None = nodes
after_txn root nodes (Some t) = left_nodes root t nodes

abbrev pub after_all : BaseTree → Nodes → List Turn → Nodes
after_all base nodes [] = nodes
after_all base nodes (turn ∷ o) = after_all base (after_txn base.description nodes (txn_of base.plan turn)) o

-- the filestore after the first `i` transactions of an order, from the loaded one on
unfoldable pub state : BaseTree → List Turn → ℕ → Nodes
state base o i = after_all base base.loaded (take i o)

-- entry `i` changes what stands at the path
abbrev pub Changes : BaseTree → List Turn → ℕ → List (List ℕ) → Type 0
Changes base o i p = get (state base o i) p ≢ get (state base o (suc i)) p

-- the numbers of a shell's transactions, in the order in which they stand
abbrev pub number_in : ℕ → Turn → Option ℕ
number_in shell turn = cond (nat_eq turn.0 shell) (Some turn.1) None

abbrev pub numbers_of : ℕ → List Turn → List ℕ
numbers_of shell o = filter_map (number_in shell) o

-- 0, 1, 2, .. below n
abbrev pub first_numbers : ℕ → List ℕ
first_numbers zero = []
first_numbers (suc n) = first_numbers n ++ n ∷ []

-- an order is legal where each shell's transactions stand in it from the first on, in turn, and are in its script
pub record IsLegalFor (base : BaseTree) (o : List Turn) (shell : ℕ) : Type 0 where
  pub in_turn : numbers_of shell o ≡ first_numbers (length (numbers_of shell o))
  pub planned : length (numbers_of shell o) ≤ count_of base.plan shell

abbrev pub IsLegal : BaseTree → List Turn → Type 0
IsLegal base o = (shell : ℕ) → IsLegalFor base o shell

-- it is complete where every transaction of the plan is in it besides
pub record IsComplete (base : BaseTree) (o : List Turn) : Type 0 where
  pub legal : IsLegal base o
  pub all : (shell txn : ℕ) → txn < count_of base.plan shell → Contains o (shell, txn)

-- a transaction that was tried again, since an entry changed a path that it had read
pub record RetryTree : Type 0 where
  pub shell : ℕ
  pub txn : ℕ
  pub entry : ℕ
  pub path : List (List ℕ)

-- the entry stands before the transaction in the order, is another shell's, and changes the path
pub record IsRetry (base : BaseTree) (o : List Turn) (r : RetryTree) : Type 0 where
  pub place : ℕ
  pub stands : slice_get o place ≡ Some (r.shell, r.txn)
  pub before : r.entry < place
  pub other : (shell : ℕ) × (txn : ℕ) × (slice_get o r.entry ≡ Some (shell, txn)) × (shell ≢ r.shell)
  pub changed : Changes base o r.entry r.path

-- a later retry is of a later shell, or of the same: then its transaction is no earlier and its entry is later
abbrev pub Precedes : RetryTree → RetryTree → Type 0
Precedes r q = (r.shell < q.shell) ⊎ ((r.shell ≡ q.shell) × (r.txn ≤ q.txn) × (r.entry < q.entry))

abbrev pub InOrder : List RetryTree → Type 0
InOrder [] = Unit {0}
InOrder (r ∷ rs) = All (Precedes r) rs × InOrder rs

pub record RetriesOk (base : BaseTree) (o : List Turn) (retries : List RetryTree) : Type 0 where
  pub each : All (IsRetry base o) retries
  pub order : InOrder retries
