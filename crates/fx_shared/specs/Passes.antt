-- What a pass knows of a shared log, before and after each call.
use Rattle.std.specs.Prelude.{◌≡◌, ℕ, ◌+◌, List, [], ◌∷◌, ◌++◌, length, Option, Some}
use Rattle.std.specs.FinMap.{get}
use Rattle.fx_store.specs.declared.node.Node.{Node}
use Rattle.fx_view.specs.ReadList.{ReadList}
use Rattle.fx_spec.specs.Plans.{Turn}
use Rattle.fx_spec.specs.Order.{BaseTree, state, IsLegal}
use Rattle.fx_machine.specs.declared.attempt.Attempt.{Attempt}
use Rattle.fx_machine.specs.Passes.{AreTrueReads}
use Rattle.fx_board.specs.declared.board.Settle.{Settle}
use Rattle.fx_board.specs.declared.board.Settle.TheVariants as settle
use Rattle.fx_board.specs.Board.{IsFreshReads, IsNamed}
use Rattle.fx_board.specs.Log.{Log}
use Rattle.fx_turn.specs.declared.view.View.{View}
use Rattle.fx_turn.specs.Histories.{Begins}

-- its number, the base, the order that it has seen, and how many of the entries are its own
abbrev pub LogView : Type 0
LogView = View BaseTree Turn

-- the pass has a base, of which this holds
abbrev pub HasBase : LogView → (BaseTree → Type 0) → Type 0
HasBase v P = (base : BaseTree) × (v.base ≡ Some base) × P base

-- the order that it has seen is legal
abbrev pub HasLegal : LogView → Type 0
HasLegal v = HasBase v (λ base. IsLegal base v.seen)

-- each read is of what stood there after so many of the entries that the pass has seen
abbrev pub AreTrueInLog : LogView → ReadList → Type 0
AreTrueInLog v reads = HasBase v (λ base. AreTrueReads base v.seen reads)

-- the pass has seen what it had seen, and maybe more; none of it is a new entry of its own
pub record HasSeenMore (old new : LogView) : Type 0 where
  pub number : new.number ≡ old.number
  pub base : new.base ≡ old.base
  pub mine : new.mine ≡ old.mine
  pub seen : Begins old.seen new.seen

-- the answer is what stands at the path after all entries that the pass has seen, and their number
pub record IsLook (v : LogView) (path : List (List ℕ)) (answer : Option Node × ℕ) : Type 0 where
  pub now : answer.1 ≡ length v.seen
  pub node : HasBase v (λ base. answer.0 ≡ get (state base v.seen answer.1) path)

-- the attempt is the last entry that the pass has seen, after some that no read was changed by
pub record HasSettled (old new : LogView) (attempt : Attempt) (entry : ℕ) : Type 0 where
  pub number : new.number ≡ old.number
  pub base : new.base ≡ old.base
  pub mine : new.mine ≡ old.mine + 1
  pub before : List Turn
  pub begins : Begins old.seen before
  pub place : entry ≡ length before
  pub seen : new.seen ≡ before ++ (attempt.shell, attempt.txn) ∷ []
  pub fresh : HasBase old (λ base. IsFreshReads base before attempt.reads)

-- the order that a pass has seen, as a log over a base
abbrev pub log_over : LogView → BaseTree → Log
log_over v base = record { base = base; order = v.seen }

-- the attempt is handed back; a conflict names the last of the entries that the pass has seen to change the least read path
-- that one of them has changed at or after its look
abbrev pub IsHandedBack : LogView → Attempt → Settle → Type 0
IsHandedBack v attempt (settle.Conflict entry path back) = (back ≡ attempt) × HasBase v (λ base. IsNamed (log_over v base) attempt.reads entry path)
IsHandedBack v attempt (settle.NoMemory back) = back ≡ attempt
