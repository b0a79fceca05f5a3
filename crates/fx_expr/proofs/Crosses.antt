-- That the types of this crate cross threads: a value may move to another thread, and two threads may read one.
use denote.Param.Send.{IsSend, IsSync, sendable}
use Rattle.std.proofs.Crossing.{crosses}
use Rattle.fx_expr.specs.contracts.word.Word as word
use Rattle.fx_text.proofs.Crosses.{Text-send, Text-sync, TextSet-send, TextSet-sync}
use Rattle.fx_expr.specs.contracts.shape.Shape as shape
use Rattle.fx_expr.specs.contracts.expr.Expr as expr
use Rattle.fx_expr.specs.contracts.formula.Formula as formula
use Rattle.fx_expr.specs.contracts.value.Value as value
use Rattle.fx_expr.specs.contracts.lists.Values as values
use Rattle.fx_expr.proofs.shape.Shape.TheLaws.TheKnot.{send-Shape, sync-Shape}
use Rattle.fx_expr.proofs.expr.Expr.TheLaws.TheKnot.{send-Expr, sync-Expr}
use Rattle.fx_expr.proofs.value.Value.TheLaws.TheKnot.{send-Value, sync-Value}

pub Word-send : IsSend (word.the_field).row
Word-send = search (sendable, crosses) depth 40

pub Word-sync : IsSync (word.the_field).row
Word-sync = search (sendable, crosses) depth 40

pub Shape-send : IsSend (shape.the_field).row
Shape-send = search (sendable, crosses, send-Shape) depth 40

pub Shape-sync : IsSync (shape.the_field).row
Shape-sync = search (sendable, crosses, sync-Shape) depth 40

pub Expr-send : IsSend (expr.the_field).row
Expr-send = search (sendable, crosses, send-Expr, Text-send, Word-send) depth 40

pub Expr-sync : IsSync (expr.the_field).row
Expr-sync = search (sendable, crosses, sync-Expr, Text-sync, Word-sync) depth 40

pub Value-send : IsSend (value.the_field).row
Value-send = search (sendable, crosses, send-Value, Text-send, TextSet-send) depth 40

pub Value-sync : IsSync (value.the_field).row
Value-sync = search (sendable, crosses, sync-Value, Text-sync, TextSet-sync) depth 40

pub Values-send : IsSend (values.the_field).row
Values-send = search (sendable, crosses, Value-send) depth 40

pub Formula-send : IsSend (formula.the_field).row
Formula-send = search (sendable, crosses, Expr-send, Value-send) depth 40

pub Formula-sync : IsSync (formula.the_field).row
Formula-sync = search (sendable, crosses, Expr-sync, Value-sync) depth 40
