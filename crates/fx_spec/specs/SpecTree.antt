-- What a description means, as a plain tree: at each call stands what the call means, so many calls deep. The name of the
-- definition is gone; the parameters, with the shapes that their arguments have, and the body are there.
use Rattle.std.specs.Prelude.{ℕ, List}
use Rattle.fx_expr.specs.ExprTree.{ExprTree}
use Rattle.fx_expr.specs.ShapeTree.{ShapeTree}

pub data SpecTree : Type 0 where
  file dir link : SpecTree
  focus : ExprTree → SpecTree → SpecTree
  pair : List ℕ → SpecTree → SpecTree → SpecTree
  comp : SpecTree → List ℕ → ExprTree → SpecTree
  opt : SpecTree → SpecTree
  pred : ExprTree → SpecTree
  -- a call: its arguments, the parameters, the body
  call : List ExprTree → List (List ℕ × ShapeTree) → SpecTree → SpecTree
  -- a call around which there are 64 calls already
  last : List ExprTree → List (List ℕ × ShapeTree) → SpecTree
