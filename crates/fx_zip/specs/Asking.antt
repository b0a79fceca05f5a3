-- What a question asks.
use Rattle.fx_store.specs.Rule.{Ask}
use Rattle.fx_expr.specs.ShapeTree.{ShapeTree}
use Rattle.fx_expr.specs.Shapes.{ValueHas}
use Rattle.fx_expr.specs.Tree.{Tree}
use Rattle.fx_expr.specs.Views.{shape_tree}
use Rattle.fx_spec.specs.Move.{Answered, fetch_at, whole_at, validate_at}
use Rattle.fx_spec.specs.Place.{PlaceTree}
use Rattle.fx_zip.specs.declared.question.Question.{Question}
use Rattle.fx_zip.specs.declared.question.Question.TheVariants as question

-- the rule of its answer, at a place
abbrev pub asked_at : Question → PlaceTree → Ask (Answered Tree)
asked_at (question.Fetch shape) = fetch_at (shape_tree shape.now)
asked_at (question.Whole shape) = whole_at (shape_tree shape.now)
asked_at question.Validate = validate_at

-- the shape of its answer
abbrev pub asked_shape : Question → ShapeTree
asked_shape (question.Fetch shape) = shape_tree shape.now
asked_shape (question.Whole shape) = shape_tree shape.now
asked_shape question.Validate = ShapeTree.bool

-- whether there is a value is told by a truth value
abbrev pub IsTruth : Question → Tree → Type 0
IsTruth question.Validate v = ValueHas v ShapeTree.bool
IsTruth _ v = Unit {0}
