use Rattle.fx_spec.specs.Bases.{base_tree}
use Rattle.fx_audit.proofs.Placing.{HasAllBelow}
use Rattle.fx_audit.proofs.order.first_missing.Given as goal

abbrev pub invariant-loop-shell : goal.invariant-loop-shell
invariant-loop-shell l = HasAllBelow (base_tree l.base) l.table l.shell
