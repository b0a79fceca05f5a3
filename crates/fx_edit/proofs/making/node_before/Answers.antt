use Rattle.std.proofs.Common.{sym}
use Rattle.std.proofs.lemmas.Result.{IfOk-weaker}
use Rattle.fx_edit.proofs.Makes.{before_some, before_none}
use Rattle.fx_edit.proofs.making.node_before.Goals as goal

pub returns-in_ok-one-in-Some : goal.returns-in_ok-one-in-Some
returns-in_ok-one-in-Some c = before_some c.args.names.now c.args.i c.args.node.now c.in-Some.name.now c.in_ok-one-in-Some.field-0 (sym c.in-Some.ensures.name) c.in_ok-one-in-Some.ensures

pub returns-in-None : goal.returns-in-None
returns-in-None c = IfOk-weaker c.copy.result _ _ (λ copied is. before_none c.args.names.now c.args.i c.args.node.now copied (sym c.in-None.ensures.name) is) c.copy.ensures
