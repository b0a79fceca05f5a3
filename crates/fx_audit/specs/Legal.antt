-- Which transaction may come next in a legal order, and with which one an order is first not legal.
use Rattle.std.specs.Prelude.{◌≡◌, ℕ, ◌+◌, ◌<◌, List, length, take}
use Rattle.fx_spec.specs.Plans.{Turn, count_of}
use Rattle.fx_spec.specs.Order.{BaseTree, IsLegal}
use Rattle.fx_machine.specs.Machine.{next_number}

-- the transaction is its shell's next one, and stands in the script
pub record IsNextIn (base : BaseTree) (o : List Turn) (turn : Turn) : Type 0 where
  pub next : turn.1 ≡ next_number o turn.0
  pub planned : turn.1 < count_of base.plan turn.0

-- the order is not legal, and the transaction of this number, counted from 0, is the first with which it is not
pub record IsFirstIllegal (base : BaseTree) (o : List Turn) (i : ℕ) : Type 0 where
  pub inside : i < length o
  pub before : IsLegal base (take i o)
  pub here : IsLegal base (take (i + 1) o) → ⊥
