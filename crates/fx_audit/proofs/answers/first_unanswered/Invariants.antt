use Rattle.std.proofs.Common.{◌≡◌, take}
use Rattle.fx_spec.specs.Bases.{base_tree}
use Rattle.fx_audit.specs.Orders.{logged}
use Rattle.fx_audit.specs.Verdicts.{order_told}
use Rattle.fx_audit.proofs.Answering.{AnsweredBelow}
use Rattle.fx_audit.proofs.answers.first_unanswered.Given as goal

abbrev pub invariant-loop-i : goal.invariant-loop-i
invariant-loop-i l = record {
  log : l.board ≡ logged (base_tree l.base.value) (order_told (take l.i l.entries));
  answered : AnsweredBelow (base_tree l.base.value) l.entries l.i;
}
