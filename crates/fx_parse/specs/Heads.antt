-- What the program's heads and middles stand for.
use Rattle.fx_expr.specs.Views.{expr_tree}
use Rattle.fx_parse.specs.declared.head.Start.{Start}
use Rattle.fx_parse.specs.declared.head.Start.TheVariants as start
use Rattle.fx_parse.specs.declared.head.Operator.{Operator}
use Rattle.fx_parse.specs.declared.head.Operator.TheVariants as operator
use Rattle.fx_parse.specs.Reader.{Head, Leaf, Bracket, Before, Choice, Nothing, Middle, Binary, Glob, Neither}

abbrev pub start_head : Start → Head
start_head (start.Leaf expr) = Leaf (expr_tree expr)
start_head start.Bracket = Bracket
start_head (start.Before op) = Before op
start_head start.Choice = Choice
start_head start.Nothing = Nothing

abbrev pub operator_middle : Operator → Middle
operator_middle (operator.Binary op) = Binary op
operator_middle operator.Glob = Glob
operator_middle operator.Neither = Neither
