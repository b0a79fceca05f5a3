use Rattle.std.proofs.Common.{arith}
use Rattle.fx_grammar.proofs.Deep.{expr_deep, expr_low, shape_deep, shape_low, text_deep, text_low, txn_deep, txn_low, script_deep, script_low}
use Rattle.fx_grammar.proofs.laws.levels_agree.Goals as goal

pub returns-clause-expression : goal.returns-clause-expression
returns-clause-expression c = λ limit e. (λ low. let deep = expr_deep limit 1 e (record { low = low }) in omega (arith, deep), λ deep. (expr_low limit 1 e (omega (arith, deep))).low)

pub returns-clause-shape : goal.returns-clause-shape
returns-clause-shape c = λ limit s. (λ low. let deep = shape_deep limit 1 s (record { low = low }) in omega (arith, deep), λ deep. (shape_low limit 1 s (omega (arith, deep))).low)

pub returns-clause-description : goal.returns-clause-description
returns-clause-description c = λ limit t. (λ low. let deep = text_deep limit 1 t (record { low = low }) in omega (arith, deep), λ deep. (text_low limit 1 t (omega (arith, deep))).low)

pub returns-clause-transaction : goal.returns-clause-transaction
returns-clause-transaction c = λ limit t. (λ low. let deep = txn_deep limit 1 t (record { low = low }) in omega (arith, deep), λ deep. (txn_low limit 1 t (omega (arith, deep))).low)

pub returns-clause-script : goal.returns-clause-script
returns-clause-script c = λ limit ts. (λ low. let deep = script_deep limit 1 ts (omega arith) (record { low = low }) in omega (arith, deep), λ deep. (script_low limit 1 ts (omega (arith, deep))).low)
