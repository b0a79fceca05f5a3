-- The tokens of expressions and shapes are read in one way.
use Rattle.fx_parse.specs.Grammars.{exprs, shapes}
use Rattle.fx_parse.specs.Reader.{read_expr}
use Rattle.fx_parse.specs.ShapeReader.{read_shape}
use Rattle.fx_parse.specs.Laws.{OneReading}
use Rattle.fx_parse.proofs.ExprMachine.{Expr, table}
use Rattle.fx_parse.proofs.ExprPlaces.{expr_reader}
use Rattle.fx_parse.proofs.ShapeMachine.{Shape, table as shape_table}
use Rattle.fx_parse.proofs.ShapeLink.{shape_reader}
use Rattle.fx_parse.proofs.ReaderPlaces as reader

pub expr_reading : OneReading exprs
expr_reading = reader.one_reading table exprs Expr read_expr expr_reader

pub shape_reading : OneReading shapes
shape_reading = reader.one_reading shape_table shapes Shape read_shape shape_reader
