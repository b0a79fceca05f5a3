-- Which orders are as good as others.
use Rattle.std.specs.Prelude.{◌≡◌, ℕ, ◌+◌, List, ◌∷◌, ◌++◌, length, map, Some}
use Rattle.std.specs.FinMap.{get}
use Rattle.std.specs.List.{All, sum_by}
use Rattle.fx_spec.specs.CommandTree.{CommandTree}
use Rattle.fx_spec.specs.Plans.{Turn, txn_of, count_of}
use Rattle.fx_spec.specs.Order.{BaseTree, IsLegal, IsComplete, state, first_numbers}
use Rattle.fx_laws.specs.Apart.{AreApart}

-- two transactions that come next, one after the other, and of which neither leaves another node at what the other consults
pub record AreNeighbours (base : BaseTree) (before : List Turn) (a b : Turn) : Type 0 where
  pub first : List CommandTree
  pub second : List CommandTree
  pub planned_first : txn_of base.plan a ≡ Some first
  pub planned_second : txn_of base.plan b ≡ Some second
  pub apart : AreApart base.description first second (get (state base before (length before)))

-- they may change their places: each state behind them is the same
abbrev pub NeighboursMaySwap : Type 0
NeighboursMaySwap =
    (base : BaseTree) (before later : List Turn) (a b : Turn) → AreNeighbours base before a b → (i : ℕ) → state base (before ++ a ∷ b ∷ later) (length before + (2 + i)) ≡ state base (before ++ b ∷ a ∷ later) (length before + (2 + i))

-- the transactions of the first script, in its order
abbrev pub first_script_turns : ℕ → List Turn
first_script_turns count = map (λ n. (0, n)) (first_numbers count)

-- of one script there is one complete order: the script's
abbrev pub OneScriptOneOrder : Type 0
OneScriptOneOrder = (base : BaseTree) (o : List Turn) → length base.plan ≡ 1 → IsComplete base o → o ≡ first_script_turns (count_of base.plan 0)

-- a complete order has as many entries as the scripts have transactions together
abbrev pub CompleteOrdersAreLong : Type 0
CompleteOrdersAreLong = (base : BaseTree) (o : List Turn) → IsComplete base o → length o ≡ sum_by length base.plan

-- each entry of a legal order is of a transaction of the plan
abbrev pub HasTransaction : BaseTree → Turn → Type 0
HasTransaction base turn = (t : List CommandTree) × (txn_of base.plan turn ≡ Some t)

abbrev pub EntriesAreOfThePlan : Type 0
EntriesAreOfThePlan = (base : BaseTree) (o : List Turn) → IsLegal base o → All (HasTransaction base) o
