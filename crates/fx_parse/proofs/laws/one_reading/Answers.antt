use Rattle.fx_parse.specs.Grammars.{exprs, shapes}
use Rattle.fx_parse.specs.Reader.{read_expr}
use Rattle.fx_parse.specs.ShapeReader.{read_shape}
use Rattle.fx_parse.proofs.ExprMachine.{Expr, table}
use Rattle.fx_parse.proofs.ExprPlaces.{expr_reader}
use Rattle.fx_parse.proofs.ShapeMachine.{Shape, table as shape_table}
use Rattle.fx_parse.proofs.ShapeLink.{shape_reader}
use Rattle.fx_parse.proofs.ReaderPlaces as reader
use Rattle.fx_parse.proofs.laws.one_reading.Goals as goal

pub returns-clause-expression : goal.returns-clause-expression
returns-clause-expression c = reader.one_reading table exprs Expr read_expr expr_reader

pub returns-clause-shape : goal.returns-clause-shape
returns-clause-shape c = reader.one_reading shape_table shapes Shape read_shape shape_reader

pub returns-clause-expression_in_front : goal.returns-clause-expression_in_front
returns-clause-expression_in_front c = reader.one_form table exprs Expr read_expr expr_reader

pub returns-clause-shape_in_front : goal.returns-clause-shape_in_front
returns-clause-shape_in_front c = reader.one_form shape_table shapes Shape read_shape shape_reader
