use Rattle.std.proofs.Common.{sym}
use Rattle.std.proofs.lemmas.Bool.{eqb-false}
use Rattle.fx_expr.proofs.Numerals.{parsed, numeral_utf8}
use Rattle.fx_eval.proofs.number.read_numeral.Goals as goal

pub returns-in-Ok : goal.returns-in-Ok
returns-in-Ok c =
    let read = rw c.in-Ok.ensures.cases.0 at c.parse.ensures.value.0 in
    rw c.ok.ensures.value (parsed c.args.numeral.now c.parse.result (eqb-false _ _ (sym c.if-begins_with_plus.ensures)) read)

pub returns-in-Err : goal.returns-in-Err
returns-in-Err c = numeral_utf8 c.args.numeral.now c.in-Err.ensures.cases.0
