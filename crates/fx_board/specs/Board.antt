-- What a log keeps: its order is legal, each entry is what its transaction comes to when it is run whole on the state before
-- it, and the filestore is the state after all.
use Rattle.std.specs.Prelude.{◌≡◌, ℕ, ◌≤◌, ◌<◌, ◌↔◌, List, [], ◌∷◌, ◌++◌, map, length, slice_get, Option, Some, MatchOption, IsTrue, Contains}
use Rattle.std.specs.FinMap.{get}
use Rattle.std.specs.Ordering.{is_le}
use Rattle.fx_store.specs.declared.node.Node.{Node}
use Rattle.fx_store.specs.Names.{path_cmp}
use Rattle.fx_store.specs.Whole.{Nodes, IsWhole}
use Rattle.fx_view.specs.ReadList.{ReadList}
use Rattle.fx_view.specs.Reads.{read_at}
use Rattle.fx_spec.specs.declared.base.Base.{Base}
use Rattle.fx_spec.specs.Bases.{base_tree}
use Rattle.fx_spec.specs.CommandTree.{CommandTree}
use Rattle.fx_spec.specs.Plans.{Turn, txn_of, IsPlan}
use Rattle.fx_spec.specs.Order.{BaseTree, state, Changes, IsLegal}
use Rattle.fx_spec.specs.Transaction.{outputs, end}
use Rattle.fx_machine.specs.declared.attempt.Attempt.{Attempt}
use Rattle.fx_machine.specs.declared.entry.Entry.{Entry}
use Rattle.fx_board.specs.declared.board.Settle.{Settle}
use Rattle.fx_board.specs.declared.board.Settle.TheVariants as settle
use Rattle.fx_board.specs.Index.{Index, last_in}
use Rattle.fx_board.specs.Log.{Log}

abbrev pub entry_turn : Entry → Turn
entry_turn e = (e.shell, e.txn)

abbrev pub log_of : Base → List Entry → Log
log_of base entries = record { base = base_tree base; order = map entry_turn entries }

-- the state before entry `i`, and after all
abbrev pub state_at : Log → ℕ → Nodes
state_at log i = state log.base log.order i

abbrev pub last_state : Log → Nodes
last_state log = state_at log (length log.order)

-- the entry is its transaction, run whole on the state before it
pub record IsEntry (log : Log) (i : ℕ) (e : Entry) : Type 0 where
  pub turn : slice_get log.order i ≡ Some (entry_turn e)
  pub txn : List CommandTree
  pub planned : txn_of log.base.plan (entry_turn e) ≡ Some txn
  pub outputs : outputs log.base.description txn (get (state_at log i)) ≡ e.outputs
  pub end : end log.base.description txn (get (state_at log i)) ≡ e.end
  pub changed : (path : List (List ℕ)) → Contains e.changed path ↔ Changes log.base log.order i path

-- what is known of every log
pub record IsLog (log : Log) : Type 0 where
  pub loaded : IsWhole (get log.base.loaded)
  pub plan : IsPlan log.base.plan
  pub legal : IsLegal log.base log.order

-- no entry changes the path
abbrev pub NeverChanged : Log → List (List ℕ) → Type 0
NeverChanged log path = (i : ℕ) → Changes log.base log.order i path → ⊥

-- entry `i` changes the path, and none after it does
pub record IsLastChange (log : Log) (path : List (List ℕ)) (i : ℕ) : Type 0 where
  pub changed : Changes log.base log.order i path
  pub last : (j : ℕ) → i < j → Changes log.base log.order j path → ⊥

-- at each path the index has its last change
abbrev pub IsIndex : Log → Index → Type 0
IsIndex log index = (path : List (List ℕ)) → MatchOption (last_in index path) (NeverChanged log path) (IsLastChange log path)

pub record IsBoard (base : Base) (entries : List Entry) (nodes : Nodes) (index : Index) : Type 0 where
  pub log : IsLog (log_of base entries)
  pub each : (i : ℕ) (e : Entry) → slice_get entries i ≡ Some e → IsEntry (log_of base entries) i e
  pub after : nodes ≡ last_state (log_of base entries)
  pub last : IsIndex (log_of base entries) index

-- no entries yet
abbrev pub started : BaseTree → Log
started base = record { base = base; order = [] }

-- one more entry
abbrev pub settled : Log → ℕ → ℕ → Log
settled log shell txn = record log { order = log.order ++ (shell, txn) ∷ [] }

-- an entry has changed a path at or after the position at which it was read
abbrev pub IsStaleRead : BaseTree → List Turn → ReadList → ℕ → List (List ℕ) → Type 0
IsStaleRead base o reads entry path =
    (node : Option Node) × (position : ℕ) × (read_at reads path ≡ Some (node, position)) × (position ≤ entry) × (entry < length o) × Changes base o entry path

-- none has
abbrev pub IsFreshReads : BaseTree → List Turn → ReadList → Type 0
IsFreshReads base o reads = (entry : ℕ) (path : List (List ℕ)) → IsStaleRead base o reads entry path → ⊥

-- the path is the least that an entry has changed at or after its look, and the entry is the last that changed it
pub record IsNamed (log : Log) (reads : ReadList) (entry : ℕ) (path : List (List ℕ)) : Type 0 where
  pub stale : IsStaleRead log.base log.order reads entry path
  pub last : IsLastChange log path entry
  pub least : (e : ℕ) (p : List (List ℕ)) → IsStaleRead log.base log.order reads e p → IsTrue (is_le (path_cmp path p))

-- a refusal leaves the log and the attempt; a conflict names an entry in the attempt's way
abbrev pub RefusedAs : Log → Log → Attempt → Settle → Type 0
RefusedAs old new attempt (settle.Conflict entry path back) = (back ≡ attempt) × (new ≡ old) × IsNamed old attempt.reads entry path
RefusedAs old new attempt (settle.NoMemory back) = (back ≡ attempt) × (new ≡ old)
