-- What the reader of expressions says of trees.
use Rattle.fx_parse.specs.Grammars.{exprs}
use Rattle.fx_parse.specs.Reader.{read_expr}
use Rattle.fx_parse.proofs.ReaderPlaces.{Follows}
use Rattle.fx_parse.proofs.ExprMachine.{Expr, table, expr_fits}
use Rattle.fx_parse.proofs.ExprLink.{expr_follows, expr_again}

pub expr_reader : Follows table exprs Expr read_expr
expr_reader = record { fits = expr_fits; follows = expr_follows; again = expr_again }
