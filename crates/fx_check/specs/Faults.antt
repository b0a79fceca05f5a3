-- What is wrong with the names and shapes of a tree.
use Rattle.std.specs.Prelude.{ℕ, List, Result, Ok, Err}
use Rattle.fx_expr.specs.ShapeTree.{ShapeTree}

pub data Fault : Type 0 where
  -- a name is used where it is not bound
  unknown : List ℕ → Fault
  -- a part has another shape than the one that is expected: the expected one, then the one found
  differs : ShapeTree → ShapeTree → Fault
  -- a name is bound where it is bound already
  repeated : List ℕ → Fault
  -- there are more than 100,000 transactions
  too_many : Fault

abbrev pub OrFault : Type 0 → Type 0
OrFault X = Result X Fault

-- the one check, and then the one that goes on with what it gives; the first fault is the answer
infixl 40 ◌>>=◌
abbrev pub ◌>>=◌ : {X Y : Type 0} → OrFault X → (X → OrFault Y) → OrFault Y
Ok x >>= f = f x
Err fault >>= f = Err fault
