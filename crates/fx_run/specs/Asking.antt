-- The commands that ask at the place.
use Rattle.std.specs.Prelude.{ℕ, List}
use Rattle.fx_expr.specs.Views.{shape_tree}
use Rattle.fx_spec.specs.CommandTree.{CommandTree}
use Rattle.fx_zip.specs.declared.question.Question.{Question}
use Rattle.fx_zip.specs.declared.question.Question.TheVariants as question

-- the command that asks a question, and binds its answer to a name
abbrev pub ask_command : List ℕ → Question → CommandTree
ask_command x (question.Fetch shape) = CommandTree.fetch x (shape_tree shape.now)
ask_command x (question.Whole shape) = CommandTree.whole x (shape_tree shape.now)
ask_command x question.Validate = CommandTree.validate x
